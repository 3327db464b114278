-- What the effects of a draft have done, as values and effects are added.
use Rattle.std.proofs.Common.{◌≡◌, ℕ, zero, suc, ◌+◌, ◌<◌, ◌≤◌, List, [], ◌∷◌, ◌++◌, length, take, Option, Some, None, slice_get, slice_index_or, refl, sym, ap, ◌∙◌, arith, subst, ⊎_elim, length-append}
use Rattle.std.proofs.lemmas.Bool.{cases_lt}
use Rattle.std.proofs.lemmas.Option.{slice_get_within, slice_get-get_or, get_or_from_slice_get}
use Rattle.std.proofs.lemmas.List.{get_or_append_left, get_or_push, take-append-le}
use Rattle.std.proofs.Math.Seq.{take-append_seam}
use Rattle.std.proofs.lemmas.List.Elements.{Contains-append_left, Contains-append_right}
use Rattle.cg_c_values.specs.declared.value.Value.{Value}
use Rattle.cg_c_values.specs.declared.value.Value.TheVariants.{Const, Turn, Quotient, Digit, Carried, Input, Loaded, Two, Select}
use Rattle.cg_c_values.specs.Values.{Extends, Keeps, IsBelow, IsLoad, IsPure, value_at}
use Rattle.cg_c_turn.specs.Draft.{Draft, Effect, Load, Store, Send, Latest, latest_in}
use Rattle.cg_c_turn.specs.Stands.{AreLoadedBy, AreUsable, IsHistory, IsLoadedBy, IsNumbered, IsUsable, IsUsableGuard, stores_to}

-- ---- loads

no_load : (value : Value) → IsPure value → IsLoad value → ⊥
no_load (Const word) p l = l
no_load Turn p l = l
no_load (Quotient divisor) p l = l
no_load (Digit divisor radix) p l = l
no_load (Carried number) p l = l
no_load (Input port) p l = l
no_load (Loaded array version guard address) p l = p
no_load (Two op first second) p l = l
no_load (Select condition chosen other) p l = l

-- no load was added
abbrev pub AddsNoLoad : (old new : List Value) → Type 0
AddsNoLoad old new = (v : ℕ) → length old ≤ v → v < length new → IsLoad (value_at new v) → ⊥

pub pure_adds_none : {old new : List Value} → Extends old new → AddsNoLoad old new
pure_adds_none {new = new} h v from below l = no_load (value_at new v) (h.pure v from below) l

pub loaded_more : (es fs : List Effect) (v : ℕ) → IsLoadedBy es v → IsLoadedBy (es ++ fs) v
loaded_more es fs v h = record { guard = h.guard; array = h.array; address = h.address; place = h.place; there = Contains-append_left es fs (Load h.guard h.array h.address v h.place) h.there }

-- ---- more values

still_loaded : (effects : List Effect) (old new : List Value) (n : ℕ) → Keeps old new → n ≤ length old → AreLoadedBy effects old n → AreLoadedBy effects new n
still_loaded effects old new n values le h v below l = h v below (subst IsLoad (values.kept v (omega (arith, below, le))) l)

all_loaded : (effects : List Effect) (old new : List Value) → Keeps old new → AddsNoLoad old new → AreLoadedBy effects old (length old) → AreLoadedBy effects new (length new)
all_loaded effects old new values none h v below l =
    ⊎_elim (λ (b : v < length old). still_loaded effects old new (length old) values (omega arith) h v b l) (λ (a : length old ≤ v). absurd (none v a below l)) (cases_lt v (length old))

still_usable : (old new : List Value) (before : List Effect) (v : ℕ) → Keeps old new → IsUsable old before v → IsUsable new before v
still_usable old new before v values h = record { within = omega (arith, h.within, values.longer); loaded = still_loaded before old new (suc v) values (omega (arith, h.within)) h.loaded }

guard_usable : (old new : List Value) (before : List Effect) (g : Option ℕ) → Keeps old new → IsUsableGuard old before g → IsUsableGuard new before g
guard_usable old new before None values h = tt
guard_usable old new before (Some g) values h = still_usable old new before g values h

all_usable : (old new : List Value) (before : List Effect) (e : Effect) → Keeps old new → AreUsable old before e → AreUsable new before e
all_usable old new before (Load guard array address value place) values h = (guard_usable old new before guard values h.0, still_usable old new before address values h.1)
all_usable old new before (Store guard array address word place) values h = (guard_usable old new before guard values h.0, still_usable old new before address values h.1, still_usable old new before word values h.2)
all_usable old new before (Send guard port word) values h = (guard_usable old new before guard values h.0, still_usable old new before word values h.1)

-- the value of a load is there
loads_within : (values : List Value) (v : ℕ) → IsLoad (value_at values v) → v < length values
loads_within values v l = ⊎_elim (λ (b : v < length values). b) (λ (a : length values ≤ v). absurd (subst IsLoad (past values v a) l)) (cases_lt v (length values))
  where
    past : (vs : List Value) (k : ℕ) → length vs ≤ k → value_at vs k ≡ Const 0
    past [] k le = refl
    past (x ∷ xs) zero le = absurd (omega (arith, le))
    past (x ∷ xs) (suc k) le = past xs k (omega (arith, le))

is_load : (value : Value) (array version address : ℕ) (guard : Option ℕ) → value ≡ Loaded array version guard address → IsLoad value
is_load value array version address guard e = subst IsLoad (sym e) tt

still_numbered : (old new : List Value) (before : List Effect) (e : Effect) → Keeps old new → IsNumbered old before e → IsNumbered new before e
still_numbered old new before (Load guard array address value place) values h = values.kept value (loads_within old value (is_load (value_at old value) array (stores_to array before) address guard h)) ∙ h
still_numbered old new before (Store guard array address word place) values h = tt
still_numbered old new before (Send guard port word) values h = tt

pub history_with : (a b : Draft) → b.effects ≡ a.effects → b.latest ≡ a.latest → Keeps a.values b.values → AddsNoLoad a.values b.values → IsHistory a → IsHistory b
history_with a b effects latest values none h =
    record {
      counted = λ array. ap (λ (z : List Latest). (slice_index_or z array (record { version = 0; stored = None })).version) latest ∙ h.counted array ∙ ap (stores_to array) (sym effects);
      numbered = λ i e at.
          subst (λ (es : List Effect). IsNumbered b.values (take i es) e) (sym effects)
          (still_numbered a.values b.values (take i a.effects) e values (h.numbered i e (subst (λ (es : List Effect). slice_get es i ≡ Some e) effects at)));
      loaded = subst (λ (es : List Effect). AreLoadedBy es b.values (length b.values)) (sym effects) (all_loaded a.effects a.values b.values values none h.loaded);
      usable = λ i e at.
          subst (λ (es : List Effect). AreUsable b.values (take i es) e) (sym effects)
          (all_usable a.values b.values (take i a.effects) e values (h.usable i e (subst (λ (es : List Effect). slice_get es i ≡ Some e) effects at)));
    }

-- ---- one more effect

-- what an effect uses is among the first n values
abbrev pub UsesBelow : ℕ → Effect → Type 0
UsesBelow n (Load guard array address value place) = IsBelow n guard × (address < n)
UsesBelow n (Store guard array address word place) = IsBelow n guard × (address < n) × (word < n)
UsesBelow n (Send guard port word) = IsBelow n guard × (word < n)

used : (d : Draft) (v : ℕ) → IsHistory d → v < length d.values → IsUsable d.values d.effects v
used d v h below = record { within = below; loaded = λ u b l. h.loaded u (omega (arith, b, below)) l }

guard_used : (d : Draft) (g : Option ℕ) → IsHistory d → IsBelow (length d.values) g → IsUsableGuard d.values d.effects g
guard_used d None h below = tt
guard_used d (Some g) h below = used d g h below

all_used : (d : Draft) (e : Effect) → IsHistory d → UsesBelow (length d.values) e → AreUsable d.values d.effects e
all_used d (Load guard array address value place) h u = (guard_used d guard h u.0, used d address h u.1)
all_used d (Store guard array address word place) h u = (guard_used d guard h u.0, used d address h u.1, used d word h u.2)
all_used d (Send guard port word) h u = (guard_used d guard h u.0, used d word h u.1)

pub stores_one_more : (array : ℕ) (es fs : List Effect) → stores_to array (es ++ fs) ≡ stores_to array es + stores_to array fs
stores_one_more array [] fs = omega arith
stores_one_more array (Load guard of address value place ∷ es) fs = stores_one_more array es fs
stores_one_more array (Store guard of address word place ∷ es) fs = let n = stores_one_more array es fs in omega (arith, n)
stores_one_more array (Send guard port word ∷ es) fs = stores_one_more array es fs

-- an effect of a longer list is one of the list, or the one that was added
at_place : (es : List Effect) (e f : Effect) (i : ℕ) (P : List Effect → Effect → Type 0) → slice_get (es ++ e ∷ []) i ≡ Some f → ((slice_get es i ≡ Some f) → P (take i es) f) → P es e → P (take i (es ++ e ∷ [])) f
at_place es e f i P at before last =
    ⊎_elim
    (λ (b : i < length es).
    let here = get_or_append_left es (e ∷ []) e i b in
    let same : slice_get es i ≡ Some f = slice_get-get_or es i e b ∙ ap Some (sym here ∙ sym (got_is (es ++ e ∷ []) i f e at)) in
    subst (λ (z : List Effect). P z f) (sym (take-append-le i es (e ∷ []) (omega (arith, b)))) (before same))
    (λ (a : length es ≤ i).
    let long = length-append es (e ∷ []) in
    let within = slice_get_within (es ++ e ∷ []) i f at in
    let here : length es ≡ i = omega (arith, long, within, a) in
    let same : e ≡ f = sym (get_or_push es e e i here) ∙ sym (got_is (es ++ e ∷ []) i f e at) in
    let prefix : es ≡ take i (es ++ e ∷ []) = sym (take-append_seam es (e ∷ [])) ∙ ap (λ (n : ℕ). take n (es ++ e ∷ [])) here in
    subst (λ (z : List Effect). P z f) prefix (subst (P es) same last))
    (cases_lt i (length es))
  where
    got_is : (xs : List Effect) (k : ℕ) (x d : Effect) → slice_get xs k ≡ Some x → x ≡ slice_index_or xs k d
    got_is xs k x d at = sym (get_or_from_slice_get xs k x d at)

pub history_after : (a b : Draft) (e : Effect) → b.effects ≡ a.effects ++ e ∷ [] → Keeps a.values b.values → ((array : ℕ) → (latest_in b array).version ≡ (latest_in a array).version + stores_to array (e ∷ []))
    → ((v : ℕ) → length a.values ≤ v → v < length b.values → IsLoad (value_at b.values v) → IsLoadedBy (e ∷ []) v) → IsNumbered b.values a.effects e → UsesBelow (length a.values) e → IsHistory a → IsHistory b
history_after a b e effects values latest new numbered uses h =
    record {
      counted = λ array. latest array ∙ ap (λ n. n + stores_to array (e ∷ [])) (h.counted array) ∙ sym (stores_one_more array a.effects (e ∷ [])) ∙ ap (stores_to array) (sym effects);
      numbered = λ i f at.
          subst (λ (es : List Effect). IsNumbered b.values (take i es) f) (sym effects)
          (at_place a.effects e f i (IsNumbered b.values) (subst (λ (es : List Effect). slice_get es i ≡ Some f) effects at) (λ there. still_numbered a.values b.values (take i a.effects) f values (h.numbered i f there)) numbered);
      loaded = λ v below l.
          subst (λ (es : List Effect). IsLoadedBy es v) (sym effects)
          (⊎_elim
          (λ (o : v < length a.values). loaded_more a.effects (e ∷ []) v (h.loaded v o (subst IsLoad (values.kept v o) l)))
          (λ (n : length a.values ≤ v). loaded_last (new v n below l))
          (cases_lt v (length a.values)));
      usable = λ i f at.
          subst (λ (es : List Effect). AreUsable b.values (take i es) f) (sym effects)
          (at_place a.effects e f i (AreUsable b.values) (subst (λ (es : List Effect). slice_get es i ≡ Some f) effects at) (λ there. all_usable a.values b.values (take i a.effects) f values (h.usable i f there)) (all_usable a.values b.values a.effects e values (all_used a e h uses)));
    }
  where
    loaded_last : {v : ℕ} → IsLoadedBy (e ∷ []) v → IsLoadedBy (a.effects ++ e ∷ []) v
    loaded_last {v = v} l = record { guard = l.guard; array = l.array; address = l.address; place = l.place; there = Contains-append_right a.effects (e ∷ []) (Load l.guard l.array l.address v l.place) l.there }
