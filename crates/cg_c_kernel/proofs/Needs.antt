-- Values that all have marks.
use Rattle.std.proofs.Common.{◌≡◌, ℕ, ◌<◌, true, false, List, length, Option, Some, None, refl, replicate, arith}
use Rattle.std.proofs.lemmas.List.{get_or-replicate}
use Rattle.cg_c_values.specs.declared.value.Value.{Value}
use Rattle.cg_c_values.specs.declared.value.Value.TheVariants.{Const, Turn, Quotient, Digit, Input, Carried, Loaded, Two, Select}
use Rattle.cg_c_values.specs.Values.{IsBelow, MayStand, value_at}
use Rattle.cg_c_values.specs.Standing.{AllStand}
use Rattle.cg_c_kernel.specs.declared.acts.Act.{Act}
use Rattle.cg_c_kernel.specs.declared.acts.Act.TheVariants.{Idle, Load, Store, Send}
use Rattle.cg_c_kernel.specs.Live.{AreActsWithin, AreClosed, AreFinalsWithin, AreNeeded, IsActWithin, act_at, has_mark, has_any_mark, needs_marked, parts_marked, final_in}

all_has : (n v : ℕ) → v < n → has_mark (replicate n true) v ≡ true
all_has n v l = get_or-replicate n v true false l

any_has : (n : ℕ) (v : Option ℕ) → IsBelow n v → has_any_mark (replicate n true) v ≡ true
any_has n None l = refl
any_has n (Some v) l = all_has n v l

below_more : (v n : ℕ) (g : Option ℕ) → v < n → IsBelow v g → IsBelow n g
below_more v n None l b = tt
below_more v n (Some g) l b = omega arith

parts_have : (n v : ℕ) (finals : List (Option ℕ)) (value : Value) → v < n → AreFinalsWithin n finals → MayStand v value → parts_marked (replicate n true) finals value ≡ true
parts_have n v finals (Carried number) l f s = any_has n (final_in finals number) (f number)
parts_have n v finals (Loaded array version guard address) l f s = rw (any_has n guard (below_more v n guard l s.0), all_has n address (omega (arith, s.1)))
parts_have n v finals (Two op first second) l f s = rw (all_has n first (omega (arith, s.1)), all_has n second (omega (arith, s.2)))
parts_have n v finals (Select condition chosen other) l f s =
    rw (all_has n condition (omega (arith, s.0)), all_has n chosen (omega (arith, s.1)), all_has n other (omega (arith, s.2)))
parts_have n v finals (Const word) l f s = refl
parts_have n v finals Turn l f s = refl
parts_have n v finals (Quotient divisor) l f s = refl
parts_have n v finals (Digit divisor radix) l f s = refl
parts_have n v finals (Input port) l f s = refl

needs_have : (n : ℕ) (act : Act) → IsActWithin n act → needs_marked (replicate n true) act ≡ true
needs_have n Idle w = refl
needs_have n (Load array value) w = refl
needs_have n (Store guard array address word) w = rw (any_has n guard w.0, all_has n address w.1, all_has n word w.2)
needs_have n (Send guard port word) w = rw (any_has n guard w.0, all_has n word w.1)

pub all_closed : (values : List Value) (finals : List (Option ℕ)) → AllStand values → AreFinalsWithin (length values) finals → AreClosed values finals (replicate (length values) true)
all_closed values finals s f v l h = parts_have (length values) v finals (value_at values v) l f (s v l)

pub all_needed : (n : ℕ) (acts : List Act) → AreActsWithin n acts → AreNeeded acts (replicate n true)
all_needed n acts w i l = needs_have n (act_at acts i) (w i l)
