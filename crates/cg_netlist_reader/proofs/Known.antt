-- Nets that are declared once, and pins whose nets are declared.
use Rattle.std.proofs.Common.{◌≡◌, ℕ, zero, suc, ◌<◌, inl, inr, ⊎_elim, Bool, true, false, ◌||◌, List, [], ◌∷◌, ◌++◌, length, get_or, Some, None, refl, ap, sym, ◌∙◌, arith}
use Rattle.std.specs.Prelude.{All, Contains, codes, bytes_eq, not}
use Rattle.std.specs.List.{IsDistinct, AllByRecursion}
use Rattle.std.proofs.lemmas.Bool.{cond_both, cond-false, or_parts, or_cases, or_from, or_left, or_right, not-false, not_from_true}
use Rattle.std.proofs.lemmas.List.Elements.{All-nil, All-cons, All-head, All-tail}
use Rattle.std.proofs.lemmas.Map.Keys.{IsDistinct-head, IsDistinct-tail, IsDistinct-cons}
use Rattle.std.proofs.lemmas.Slice.Eq.{bytes_eq-Decides}
use Rattle.cg_netlist.specs.declared.parts.Pin.{Pin}
use Rattle.cg_netlist.specs.Graph.{names, IsConnected}
use Rattle.cg_netlist_reader.specs.Reading.{given, has, repeated, unknown}

no_some : {X : Type 0} (x : X) → Some x ≡ None → ⊥
no_some x e = cc

-- ---- one name more

pub has_push : (names : List (List ℕ)) (more name : List ℕ) → has (names ++ more ∷ []) name ≡ (has names name || bytes_eq more name)
has_push [] more name = or_nothing (bytes_eq more name)
  where
    or_nothing : (b : Bool) → (b || false) ≡ b
    or_nothing true = refl
    or_nothing false = refl
has_push (n ∷ names) more name = ap (λ b. bytes_eq n name || b) (has_push names more name) ∙ regroup (bytes_eq n name) (has names name) (bytes_eq more name)
  where
    regroup : (a b c : Bool) → (a || (b || c)) ≡ ((a || b) || c)
    regroup true b c = refl
    regroup false b c = refl

-- ---- declared once

abbrev pub IsFresh : List (List ℕ) → List ℕ → Type 0
IsFresh seen name = has seen name ≡ false

fresh_before : (seen : List (List ℕ)) (name : List ℕ) (names : List (List ℕ)) → All (IsFresh (seen ++ name ∷ [])) names
    → All (IsFresh seen) names × AllByRecursion (λ other. bytes_eq name other ≡ false) names
fresh_before seen name [] all = (All-nil (IsFresh seen), tt)
fresh_before seen name (n ∷ names) all =
    let parts = or_parts (has seen n) (bytes_eq name n) (sym (has_push seen name n) ∙ All-head (IsFresh (seen ++ name ∷ [])) n names all) in
    let rest = fresh_before seen name names (All-tail (IsFresh (seen ++ name ∷ [])) n names all) in
    (All-cons (IsFresh seen) n names parts.0 rest.0, (parts.1, rest.1))

pub none_repeated : (seen names : List (List ℕ)) → repeated seen names ≡ None → All (IsFresh seen) names × IsDistinct bytes_eq names
unfolding IsDistinct
none_repeated seen [] e = (All-nil (IsFresh seen), tt)
none_repeated seen (n ∷ names) e =
    cond_both (has seen n) (Some n) (repeated (seen ++ n ∷ []) names) (λ r. r ≡ None → All (IsFresh seen) (n ∷ names) × IsDistinct bytes_eq (n ∷ names))
    (λ t bad. absurd (no_some n bad))
    (λ f again.
    let rest = none_repeated (seen ++ n ∷ []) names again in
    let before = fresh_before seen n names rest.0 in
    (All-cons (IsFresh seen) n names f before.0, IsDistinct-cons bytes_eq n names before.1 rest.1))
    e

fresh_after : (seen : List (List ℕ)) (name : List ℕ) (names : List (List ℕ)) → All (IsFresh seen) names → AllByRecursion (λ other. bytes_eq name other ≡ false) names → All (IsFresh (seen ++ name ∷ [])) names
fresh_after seen name [] all apart = All-nil (IsFresh (seen ++ name ∷ []))
fresh_after seen name (n ∷ names) all apart =
    All-cons (IsFresh (seen ++ name ∷ [])) n names (has_push seen name n ∙ or_from (has seen n) (bytes_eq name n) (All-head (IsFresh seen) n names all) apart.0)
    (fresh_after seen name names (All-tail (IsFresh seen) n names all) apart.1)

pub never_repeated : (seen names : List (List ℕ)) → All (IsFresh seen) names → IsDistinct bytes_eq names → repeated seen names ≡ None
never_repeated seen [] all once = refl
never_repeated seen (n ∷ names) all once =
    cond-false (has seen n) (Some n) (repeated (seen ++ n ∷ []) names) (All-head (IsFresh seen) n names all)
    ∙ never_repeated (seen ++ n ∷ []) names (fresh_after seen n names (All-tail (IsFresh seen) n names all) (IsDistinct-head bytes_eq n names once)) (IsDistinct-tail bytes_eq n names once)

-- ---- known

abbrev pub IsKnown : List (List ℕ) → List ℕ → Type 0
IsKnown known name = has known name ≡ true

pub none_unknown : (known nets : List (List ℕ)) → unknown known nets ≡ None → All (IsKnown known) nets
none_unknown known [] e = All-nil (IsKnown known)
none_unknown known (n ∷ nets) e =
    cond_both (not (has known n)) (Some n) (unknown known nets) (λ r. r ≡ None → All (IsKnown known) (n ∷ nets))
    (λ t bad. absurd (no_some n bad))
    (λ f rest. All-cons (IsKnown known) n nets (not-false (has known n) f) (none_unknown known nets rest))
    e

pub never_unknown : (known nets : List (List ℕ)) → All (IsKnown known) nets → unknown known nets ≡ None
never_unknown known [] all = refl
never_unknown known (n ∷ nets) all =
    cond-false (not (has known n)) (Some n) (unknown known nets) (not_from_true (has known n) (All-head (IsKnown known) n nets all))
    ∙ never_unknown known nets (All-tail (IsKnown known) n nets all)

-- ---- and what that says of pins

contained : (names : List (List ℕ)) (name : List ℕ) → has names name ≡ true → Contains names name
contained [] name e = let bad : false ≡ true = e in absurd (cc)
contained (n ∷ names) name e =
    ⊎_elim (λ first. (0, omega arith, (bytes_eq-Decides n name).0 first)) (λ later. let rest = contained names name later in (suc rest.0, (let h = rest.1 in omega (arith, h)), rest.2))
    (or_cases (bytes_eq n name) (has names name) e)

containing : (names : List (List ℕ)) (k : ℕ) (name : List ℕ) → k < length names → get_or names k name ≡ name → has names name ≡ true
containing [] k name l e = absurd (omega arith)
containing (n ∷ names) zero name l e = or_left (bytes_eq n name) (has names name) ((bytes_eq-Decides n name).1 e)
containing (n ∷ names) (suc k) name l e = or_right (bytes_eq n name) (has names name) (containing names k name (omega arith) e)

pub connected : (names : List (List ℕ)) (p : Pin) → IsKnown (given ++ names) p.net → IsConnected names p
connected names p e =
    ⊎_elim (λ clock. inr (inl (sym ((bytes_eq-Decides (codes "clk") p.net).0 clock))))
    (λ rest. ⊎_elim (λ reset. inr (inr (sym ((bytes_eq-Decides (codes "rst") p.net).0 reset)))) (λ own. inl (contained names p.net own)) (or_cases (bytes_eq (codes "rst") p.net) (has names p.net) rest))
    (or_cases (bytes_eq (codes "clk") p.net) (bytes_eq (codes "rst") p.net || has names p.net) e)

pub known_pin : (names : List (List ℕ)) (p : Pin) → IsConnected names p → IsKnown (given ++ names) p.net
known_pin names p h =
    let clock = bytes_eq (codes "clk") p.net in
    let reset = bytes_eq (codes "rst") p.net in
    ⊎_elim
    (λ own. or_right clock (reset || has names p.net) (or_right reset (has names p.net) (containing names own.0 p.net own.1 own.2)))
    (λ other. ⊎_elim
    (λ e. or_left clock (reset || has names p.net) ((bytes_eq-Decides (codes "clk") p.net).1 (sym e)))
    (λ e. or_right clock (reset || has names p.net) (or_left reset (has names p.net) ((bytes_eq-Decides (codes "rst") p.net).1 (sym e))))
    other)
    h
