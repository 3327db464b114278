-- `simplify KERNEL OUT [--copies] [--share]`.
use Rattle.std.specs.Prelude.{◌≡◌, ℕ, length, Ok, codes, decimal, [], ◌∷◌}
use Rattle.cg_model.specs.Kernel.{Kernel, IsKernel, size}
use Rattle.cg_files.specs.Held.{Holds, Appends}
use Rattle.cg_effects.specs.declared.outcome.Status.TheVariants.{Done}
use Rattle.cg_effects.specs.Outcome.{Name, Bytes, File, Outcome, line_of, line_then}
use Rattle.cg_effects.specs.Ends.{Moment}
use Rattle.cg_effects.specs.Refusals.{writes_one}
use Rattle.cg_kernel.specs.Answer.{answer_of}
use Rattle.cg_kernel_text.specs.Printed.{kernel_text}
use Rattle.cg_simplify.specs.Simplified.{IsSimplified}
use Rattle.cg_inputs.specs.Answered.{ReadThen}
use Rattle.cg_inputs.specs.Readings.{ReadsKernel}

-- the report: the numbers of nodes and of order edges, of the given kernel K and of the written one L
abbrev pub simplify_report : Kernel → Kernel → Bytes
simplify_report K L =
    line_then (codes "nodes " ∷ decimal (size K) ∷ codes " " ∷ decimal (size L) ∷ [])
    (line_of (codes "order " ∷ decimal (length K.order) ∷ codes " " ∷ decimal (length L.order) ∷ []))

-- Done: the text of L is written under the name `out`
abbrev pub simplified_to : Kernel → Kernel → Name → Outcome
simplified_to K L out = writes_one Done (simplify_report K L) out (kernel_text L)

-- a valid kernel that simplifies K is written
pub record SimplifyOf (out : Name) (K : Kernel) (o : Outcome) : Type 0 where
  pub kernel : Kernel
  pub valid : IsKernel kernel
  pub simplified : IsSimplified K kernel
  pub is : o ≡ simplified_to K kernel out

abbrev pub IsSimplifyOf : File → Name → Outcome → Type 0
IsSimplifyOf file out o = ReadThen (ReadsKernel file) (SimplifyOf out) o

-- Done: a kernel was read; the text of a valid kernel is held under the other name, and the numbers of nodes and of
-- order edges were reported. The new kernel has at most as many nodes, leaves the same memory and output streams of
-- every image after every number of turns, and where the accesses of the given kernel that matter are ordered, its own
-- are. The text reads back as the new kernel: a command that reads it reads this kernel
pub record IsSimplifiedRun (file out : Name) (before after : Moment) : Type 0 where
  pub bytes : Bytes
  pub held : Holds before.held file bytes
  pub given : Kernel
  pub spelled : answer_of bytes ≡ Ok given
  pub kernel : Kernel
  pub valid : IsKernel kernel
  pub simplified : IsSimplified given kernel
  pub read_back : answer_of (kernel_text kernel) ≡ Ok kernel
  pub written : Holds after.held out (kernel_text kernel)
  pub put : Appends before.taken (simplify_report given kernel) after.taken
