-- Nodes that are all marked.
use Rattle.std.proofs.Common.{◌≡◌, ℕ, zero, suc, ◌<◌, true, replicate, refl, arith}
use Rattle.std.proofs.lemmas.List.{length-replicate}
use Rattle.cg_model.specs.declared.kernel.Operand.{Operand}
use Rattle.cg_model.specs.declared.kernel.Operand.TheVariants.{Const as Constant, Edge}
use Rattle.cg_model.specs.Kernel.{Kernel, IsKernel, HasOperand, size}
use Rattle.cg_simplify.specs.Live.{AreMarked, is_marked, is_fed}

marked_all : (n v : ℕ) → v < n → is_marked (replicate n true) v ≡ true
marked_all zero v l = absurd (omega arith)
marked_all (suc n) zero l = refl
marked_all (suc n) (suc v) l = marked_all n v (omega arith)

fed_all : (K : Kernel) → IsKernel K → (v p : ℕ) (o : Operand) → v < size K → HasOperand K v p o → is_fed (replicate (size K) true) o ≡ true
fed_all K good v p (Constant w) l has = refl
fed_all K good v p (Edge u d init) l has = marked_all (size K) u (good.wired.sources v p u d init l has)

pub all_marked : (K : Kernel) → IsKernel K → AreMarked K (replicate (size K) true)
all_marked K good =
    record {
      long = length-replicate (size K) true;
      each = λ v l. record { effect = λ e. marked_all (size K) v l; fed = λ p o m has. fed_all K good v p o l has };
    }
