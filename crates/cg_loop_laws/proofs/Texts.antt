-- The test of names.
use Rattle.std.proofs.Common.{◌≡◌, ℕ, List, true, false, ⊎_elim, inl, inr}
use Rattle.std.specs.Prelude.{◌⊎◌, bytes_eq}
use Rattle.std.proofs.lemmas.Bool.{cases_Bool}
use Rattle.std.proofs.lemmas.Slice.Eq.{bytes_eq-Decides}

pub text_same : (x y : List ℕ) → x ≡ y → bytes_eq x y ≡ true
text_same x y e = (bytes_eq-Decides x y).1 e

pub same_text : (x y : List ℕ) → bytes_eq x y ≡ true → x ≡ y
same_text x y t = (bytes_eq-Decides x y).0 t

pub text_other : (x y : List ℕ) → (x ≡ y → ⊥) → bytes_eq x y ≡ false
text_other x y n = ⊎_elim (λ t. absurd (n (same_text x y t))) (λ t. t) (cases_Bool (bytes_eq x y))

pub cases_text : (x y : List ℕ) → (x ≡ y) ⊎ (x ≡ y → ⊥)
cases_text x y = ⊎_elim (λ t. inl (same_text x y t)) (λ t. inr (λ e. let s = text_same x y e in cc)) (cases_Bool (bytes_eq x y))
