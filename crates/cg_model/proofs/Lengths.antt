-- The memory keeps its length.
use Rattle.std.proofs.Common.{◌≡◌, ℕ, zero, suc, List, length, refl, ap, ◌∙◌, ⊎_elim}
use Rattle.std.proofs.lemmas.Bool.{cases_Bool, cond-true, cond-false}
use Rattle.std.proofs.lemmas.List.{length-set}
use Rattle.cg_model.specs.Kernel.{Kernel}
use Rattle.cg_model.specs.Work.{Image, Work, stores, stored}
use Rattle.cg_model.specs.Turns.{before}

-- one operation leaves the memory as long as it was
pub memory_kept : (memory : List ℕ) (w : Work) → length (stored memory w) ≡ length memory
unfolding stored
memory_kept memory w =
    ⊎_elim (λ t. ap length (cond-true (stores w) _ memory t) ∙ length-set memory _ _) (λ f. ap length (cond-false (stores w) _ memory f)) (cases_Bool (stores w))

-- the memory is as long before each step as in the image
pub memory_stays : (K : Kernel) (image : Image) (k : ℕ) → length (before K image k).memory ≡ length image.memory
unfolding before
memory_stays K image zero = refl
memory_stays K image (suc k) = memory_kept (before K image k).memory _ ∙ memory_stays K image k
