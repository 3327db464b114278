-- What each number adds to a count, and the whole counts.
use Rattle.std.proofs.Common.{◌≡◌, ℕ, ◌+◌, Bool, cond, length, Option, Some, None, refl, sym, ap, ◌∙◌, add-zero}
use Rattle.std.specs.Prelude.{is_some, nat_lt, option_map}
use Rattle.cg_model.specs.declared.array.Kind.{Kind}
use Rattle.cg_model.specs.Array.{resource}
use Rattle.cg_check.specs.Legal.{Mapped}
use Rattle.cg_occupancy.specs.declared.stay.Stay.{Stay}
use Rattle.cg_list_laws.specs.Below.{sum_below}
use Rattle.cg_occupancy.specs.Marks.{start_at, stay_at, position_of}
use Rattle.cg_occupancy.specs.Counts.{same_kind, starts_of, stays_of, busy_units, busy_slots, resources_of, taken_slots}
use Rattle.cg_list_laws.proofs.Below.{sum_below-more}

-- ---- at a step of a loop

pub added : (f : ℕ → ℕ) (n count more next : ℕ) → count ≡ sum_below f n → more ≡ f n → next ≡ count + more → next ≡ sum_below f (n + 1)
added f n count more next so_far here e = e ∙ ap (λ z. z + more) so_far ∙ ap (λ z. sum_below f n + z) here ∙ sym (sum_below-more f n)

pub passed_by : (f : ℕ → ℕ) (n count next : ℕ) → count ≡ sum_below f n → 0 ≡ f n → next ≡ count → next ≡ sum_below f (n + 1)
passed_by f n count next so_far here e = added f n count 0 next so_far here (e ∙ sym (add-zero count))

-- ---- one number

-- 1 where unit x begins a node in slot s
pub start_in : Mapped → ℕ → ℕ → ℕ
start_in m x s = cond (is_some (start_at m x s)) 1 0

pub start_counted : (m : Mapped) (x s : ℕ) (b : Bool) → b ≡ is_some (start_at m x s) → cond b 1 0 ≡ start_in m x s
unfolding start_in
start_counted m x s b e = ap (λ z. cond z 1 0) e

-- 1 where resource r carries a value in slot s
pub stay_in : Mapped → ℕ → ℕ → ℕ
stay_in m r s = cond (is_some (stay_at m r s)) 1 0

pub stay_counted : (m : Mapped) (r s : ℕ) (b : Bool) → b ≡ is_some (stay_at m r s) → cond b 1 0 ≡ stay_in m r s
unfolding stay_in
stay_counted m r s b e = ap (λ z. cond z 1 0) e

pub some_there : (o : Option Stay) → is_some o ≡ is_some (option_map position_of o)
some_there None = refl
some_there (Some p) = refl

-- 1 where unit x begins a node
pub busy : Mapped → ℕ → ℕ
busy m x = cond (nat_lt 0 (starts_of m x)) 1 0

pub busy_counted : (m : Mapped) (x : ℕ) (b : Bool) → b ≡ nat_lt 0 (starts_of m x) → cond b 1 0 ≡ busy m x
unfolding busy
busy_counted m x b e = ap (λ z. cond z 1 0) e

-- 1 where resource r is of the kind
pub of_kind : Mapped → Kind → ℕ → ℕ
of_kind m kind r = cond (same_kind (resource m.arch r).kind kind) 1 0

pub kind_counted : (m : Mapped) (kind : Kind) (r : ℕ) (b : Bool) → b ≡ same_kind (resource m.arch r).kind kind → cond b 1 0 ≡ of_kind m kind r
unfolding of_kind
kind_counted m kind r b e = ap (λ z. cond z 1 0) e

-- the slots that resource r has taken, where it is of the kind
pub taken_by : Mapped → Kind → ℕ → ℕ
taken_by m kind r = cond (same_kind (resource m.arch r).kind kind) (stays_of m r) 0

pub taken_counted : (m : Mapped) (kind : Kind) (r : ℕ) (b : Bool) → b ≡ same_kind (resource m.arch r).kind kind → cond b (stays_of m r) 0 ≡ taken_by m kind r
unfolding taken_by
taken_counted m kind r b e = ap (λ z. cond z (stays_of m r) 0) e

-- ---- all numbers

pub all_starts : (m : Mapped) (x : ℕ) → sum_below (start_in m x) m.mapping.ii ≡ starts_of m x
unfolding start_in starts_of
all_starts m x = refl

pub all_stays : (m : Mapped) (r : ℕ) → sum_below (stay_in m r) m.mapping.ii ≡ stays_of m r
unfolding stay_in stays_of
all_stays m r = refl

pub all_busy : (m : Mapped) → sum_below (busy m) (length m.arch.units) ≡ busy_units m
unfolding busy busy_units
all_busy m = refl

pub all_slots : (m : Mapped) → sum_below (starts_of m) (length m.arch.units) ≡ busy_slots m
unfolding busy_slots
all_slots m = refl

pub all_of_kind : (m : Mapped) (kind : Kind) → sum_below (of_kind m kind) (length m.arch.resources) ≡ resources_of m kind
unfolding of_kind resources_of
all_of_kind m kind = refl

pub all_taken : (m : Mapped) (kind : Kind) → sum_below (taken_by m kind) (length m.arch.resources) ≡ taken_slots m kind
unfolding taken_by taken_slots
all_taken m kind = refl
