-- A kernel that bytes spell is valid.
use Rattle.std.proofs.Common.{◌≡◌, ℕ, List, Option, Some, None, Result, Ok, Err, refl, subst}
use Rattle.std.specs.Prelude.{IfOk}
use Rattle.serde_json.specs.Data.{Data}
use Rattle.cg_json.specs.Bytes.{value_of}
use Rattle.cg_model.specs.Kernel.{Kernel, IsKernel}
use Rattle.cg_kernel.specs.Written.{KernelPlace, WrittenKernel, written_of}
use Rattle.cg_kernel.specs.Rules.{all_rules, first_fault}
use Rattle.cg_kernel.specs.Answer.{KernelFault, kernel_of, unless, judged, answer_written, answer_in, answer_of}
use Rattle.cg_kernel.specs.Words.{HasAllWords}
use Rattle.cg_kernel.specs.declared.fault.KernelFault.TheVariants as fault
use Rattle.cg_kernel.proofs.Clean.{clean}
use Rattle.cg_kernel.proofs.Valid.{valid}
use Rattle.cg_kernel.proofs.Ranges.{written_of-all_words}

unless_ok : (o : Option KernelFault) (k K : Kernel) → unless o k ≡ Ok K → (o ≡ None) × (k ≡ K)
unless_ok None k K e = (refl, cc)
unless_ok (Some f) k K e = let bad : Err f ≡ Ok K = e in absurd (cc)

judged_valid : (w : WrittenKernel) (K : Kernel) → HasAllWords w → judged w ≡ Ok K → IsKernel K
unfolding judged
judged_valid w K all e =
    let u = unless_ok (first_fault all_rules w) (kernel_of w) K e in
    subst IsKernel u.1 (valid w (clean w u.0) all)

written_valid : (r : Result WrittenKernel KernelPlace) (K : Kernel) → IfOk r HasAllWords → answer_written r ≡ Ok K → IsKernel K
written_valid (Ok w) K all e = judged_valid w K all e
written_valid (Err p) K all e = let bad : Err (fault.WrongShape p) ≡ Ok K = e in absurd (cc)

in_valid : (o : Option Data) (K : Kernel) → answer_in o ≡ Ok K → IsKernel K
in_valid None K e = let bad : Err fault.NotJson ≡ Ok K = e in absurd (cc)
in_valid (Some d) K e = written_valid (written_of d) K (written_of-all_words d (written_of d) refl) e

-- none of the faults K4 to K16 applies to a kernel that bytes spell
pub spelled_valid : (bytes : List ℕ) (K : Kernel) → answer_of bytes ≡ Ok K → IsKernel K
unfolding answer_of
spelled_valid bytes K e = in_valid (value_of bytes) K e
