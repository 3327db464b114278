-- Words that are right stay right as more are written.
use Rattle.std.proofs.Common.{◌≡◌, ℕ, ◌+◌, ◌<◌, List, length, ap, ◌∙◌, subst, sym, arith, ⊎_elim, set}
use Rattle.std.specs.Prelude.{slice_index}
use Rattle.std.proofs.lemmas.List.{get_or-set_same, get_or-set_other}
use Rattle.std.proofs.lemmas.Bool.{cases_lt, cases_eq}
use Rattle.cg_datapath.specs.Course.{Keeps}

pub kept_more : (f : ℕ → ℕ) (old words : List ℕ) (r w : ℕ) → r < length words → w ≡ f r → Keeps f old words → Keeps f old (set words r w)
kept_more f old words r w l e kept q is =
    ⊎_elim
    (λ same. subst (λ z. slice_index (set words r w) z ≡ f z) (sym same) (get_or-set_same words r w 0 l ∙ e))
    (λ other. get_or-set_other words r q w 0 other ∙ kept q is)
    (cases_eq q r)

pub right_more : (at f : ℕ → ℕ) (words : List ℕ) (i r w : ℕ) → at i ≡ r → r < length words → w ≡ f r →
    ((j : ℕ) → j < i → slice_index words (at j) ≡ f (at j)) →
    (j : ℕ) → j < i + 1 → slice_index (set words r w) (at j) ≡ f (at j)
right_more at f words i r w er l e below j h =
    ⊎_elim
    (λ same. subst (λ z. slice_index (set words r w) z ≡ f z) (sym same) (get_or-set_same words r w 0 l ∙ e))
    (λ other. get_or-set_other words r (at j) w 0 other ∙ below j (⊎_elim (λ k. k) (λ k. let z : j ≡ i = omega arith in absurd (other (ap at z ∙ er))) (cases_lt j i)))
    (cases_eq (at j) r)
