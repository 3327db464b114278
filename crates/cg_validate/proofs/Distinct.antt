-- Lists of names in which none stands twice.
use Rattle.std.proofs.Common.{⊎_elim, ◌≡◌, ℕ, zero, suc, ◌≤◌, ◌⊎◌, inl, inr, List, [], ◌∷◌, ◌++◌, length, fold, Bool, true, false, cond, Some, None, bytes_eq, refl, ap, sym, ◌∙◌, arith}
use Rattle.std.specs.Prelude.{slice_get}
use Rattle.std.specs.List.{list_any}
use Rattle.std.proofs.lemmas.Bool.{cases_lt}
use Rattle.std.proofs.lemmas.Slice.Eq.{bytes_eq-Decides}
use Rattle.cg_model.proofs.Elements.{any_false}
use Rattle.cg_parts.specs.Parts.{with_name, distinct}
use Rattle.cg_validate.proofs.Places.{get_left}

-- the item after a list
pub last_get : {X : Type 0} (xs : List X) (x y : X) (k : ℕ) → length xs ≤ k → slice_get (xs ++ x ∷ []) k ≡ Some y → (k ≡ length xs) × (x ≡ y)
last_get [] x y zero h e = (refl, cc)
last_get [] x y (suc k) h e = let bad : None ≡ Some y = e in absurd (cc)
last_get (z ∷ zs) x y zero h e = absurd (omega arith)
last_get (z ∷ zs) x y (suc k) h e = let rest = last_get zs x y k (omega arith) e in (ap suc rest.0, rest.1)

-- no item stands at two places
abbrev pub IsOnce : List (List ℕ) → Type 0
IsOnce names = (j k : ℕ) (n : List ℕ) → slice_get names j ≡ Some n → slice_get names k ≡ Some n → j ≡ k

-- ---- one name more

-- a name of a list with one more is of the list, or the new one
more_by : (b : Bool) (names : List (List ℕ)) (name n : List ℕ) (k : ℕ) → slice_get (cond b names (names ++ name ∷ [])) k ≡ Some n → (slice_get names k ≡ Some n) ⊎ (name ≡ n)
more_by true names name n k e = inl e
more_by false names name n k e =
    ⊎_elim (λ h. inl (sym (get_left names (name ∷ []) k h) ∙ e)) (λ h. inr (last_get names name n k h e).1) (cases_lt k (length names))

apart : (names : List (List ℕ)) (name : List ℕ) (k : ℕ) → list_any (bytes_eq name) names ≡ false → slice_get names k ≡ Some name → ⊥
apart names name k none at =
    let differs : bytes_eq name name ≡ false = any_false (bytes_eq name) names k name at none in
    let same : bytes_eq name name ≡ true = (bytes_eq-Decides name name).1 refl in
    let bad : true ≡ false = sym same ∙ differs in
    cc

once_by : (b : Bool) (names : List (List ℕ)) (name : List ℕ) → list_any (bytes_eq name) names ≡ b → IsOnce names → IsOnce (cond b names (names ++ name ∷ []))
once_by true names name is once = once
once_by false names name is once = λ j k n at at'.
    ⊎_elim
    (λ h. ⊎_elim
    (λ h'. once j k n (sym (get_left names (name ∷ []) j h) ∙ at) (sym (get_left names (name ∷ []) k h') ∙ at'))
    (λ h'. let same : name ≡ n = (last_get names name n k h' at').1 in absurd (apart names name j is (sym (get_left names (name ∷ []) j h) ∙ at ∙ ap Some (sym same))))
    (cases_lt k (length names)))
    (λ h. ⊎_elim
    (λ h'. let same : name ≡ n = (last_get names name n j h at).1 in absurd (apart names name k is (sym (get_left names (name ∷ []) k h') ∙ at' ∙ ap Some (sym same))))
    (λ h'. (last_get names name n j h at).0 ∙ sym (last_get names name n k h' at').0)
    (cases_lt k (length names)))
    (cases_lt j (length names))

with_name-once : (names : List (List ℕ)) (name : List ℕ) → IsOnce names → IsOnce (with_name names name)
with_name-once names name once = once_by (list_any (bytes_eq name) names) names name refl once

-- ---- all names of a list

fold-once : (names more : List (List ℕ)) → IsOnce names → IsOnce (fold with_name names more)
fold-once names [] once = once
fold-once names (name ∷ more) once = fold-once (with_name names name) more (with_name-once names name once)

-- a name that was kept is one of the names
abbrev IsOf : List (List ℕ) → List ℕ → Type 0
IsOf names n = (m : ℕ) × (slice_get names m ≡ Some n)

fold-of : (names more : List (List ℕ)) (n : List ℕ) (k : ℕ) → slice_get (fold with_name names more) k ≡ Some n → IsOf names n ⊎ IsOf more n
fold-of names [] n k e = inl (k, e)
fold-of names (name ∷ more) n k e =
    ⊎_elim
    (λ h. ⊎_elim (λ before. inl (h.0, before)) (λ same. inr (zero, ap Some same)) (more_by (list_any (bytes_eq name) names) names name n h.0 h.1))
    (λ h. inr (suc h.0, h.1))
    (fold-of (with_name names name) more n k e)

pub distinct-once : (names : List (List ℕ)) → IsOnce (distinct names)
unfolding distinct
distinct-once names = fold-once [] names (λ j k n at at'. let bad : None ≡ Some n = at in absurd (cc))

pub distinct-of : (names : List (List ℕ)) (n : List ℕ) (k : ℕ) → slice_get (distinct names) k ≡ Some n → (m : ℕ) × (slice_get names m ≡ Some n)
unfolding distinct
distinct-of names n k e = ⊎_elim (λ h. let bad : None ≡ Some n = h.1 in absurd (cc)) (λ h. h) (fold-of [] names n k e)
