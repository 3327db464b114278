-- `depend KERNEL OUT`.
use Rattle.std.specs.Prelude.{◌≡◌, ℕ, ◌≤◌, ◌+◌, nat_lt, if◌then◌else◌, List, length, Ok, codes, decimal, [], ◌∷◌}
use Rattle.cg_model.specs.Limits.{most_order_edges}
use Rattle.cg_model.specs.Kernel.{Kernel, IsKernel}
use Rattle.cg_model.specs.declared.kernel.OrderEdge.{OrderEdge}
use Rattle.cg_model.specs.Order.{IsUnaliased}
use Rattle.cg_model.specs.Turns.{turns_left}
use Rattle.cg_model.specs.Work.{Image}
use Rattle.cg_effects.specs.declared.outcome.Status.TheVariants.{Done}
use Rattle.cg_files.specs.Held.{Holds, Appends}
use Rattle.cg_effects.specs.Outcome.{Name, Bytes, File, Outcome, line_of, line_then}
use Rattle.cg_effects.specs.Ends.{Moment}
use Rattle.cg_effects.specs.Refusals.{malformed_of, writes_one}
use Rattle.cg_kernel.specs.Answer.{answer_of}
use Rattle.cg_kernel_text.specs.Printed.{kernel_text}
use Rattle.cg_depend.specs.declared.fault.DependFault.TheVariants.{TooManyEdges}
use Rattle.cg_depend.specs.Depend.{AreNeeded, with_order}
use Rattle.cg_depend.specs.Texts.{depend_fault_text}
use Rattle.cg_inputs.specs.Answered.{ReadThen}
use Rattle.cg_inputs.specs.Readings.{ReadsKernel}

-- the report: `added` order edges were added, and the kernel has `all`
abbrev pub depend_report : ℕ → ℕ → Bytes
depend_report added all = line_then (codes "added " ∷ decimal added ∷ []) (line_of (codes "order " ∷ decimal all ∷ []))

-- the number of order edges of K together with es
abbrev pub order_with : Kernel → List OrderEdge → ℕ
order_with K es = length K.order + length es

-- Done: the text of K is written under the name `out`; the report says that `added` of its order edges are new
abbrev pub written_of : ℕ → Kernel → Name → Outcome
written_of added K out = writes_one Done (depend_report added (length K.order)) out (kernel_text K)

-- Done: the text of K with the order edges es after its own is written under the name `out`
abbrev pub depended : Kernel → List OrderEdge → Name → Outcome
depended K es out = written_of (length es) (with_order K es) out

-- Malformed: with es K would have more order edges than a kernel may have
abbrev pub too_many : Name → Kernel → List OrderEdge → Outcome
too_many file K es = malformed_of file (depend_fault_text (TooManyEdges (order_with K es)))

-- `too_many` or `depended`, by the number of order edges
abbrev pub depend_by_edges : Name → Name → Kernel → List OrderEdge → Outcome
depend_by_edges file out K es = if nat_lt most_order_edges (order_with K es) then too_many file K es else depended K es out

-- the outcome o for K: es are the order edges that its accesses need
abbrev pub DependOf : Name → Name → Kernel → Outcome → Type 0
DependOf file out K o = (es : List OrderEdge) × AreNeeded K es × (o ≡ depend_by_edges file out K es)

abbrev pub IsDependOf : File → Name → Outcome → Type 0
IsDependOf file out o = ReadThen (ReadsKernel file) (DependOf file.name out) o

-- the bytes describe a kernel whose order edges, with those that its accesses need, are within the limit
pub record IsDependable (file : File) : Type 0 where
  pub kernel : Kernel
  pub kernel_is : answer_of file.bytes ≡ Ok kernel
  pub edges : List OrderEdge
  pub needed : AreNeeded kernel edges
  pub few : order_with kernel edges ≤ most_order_edges

-- Done: a kernel was read; the text of the kernel with the edges that its accesses need is held under the other name,
-- and the numbers of the edges were reported. The new kernel has the same iterations, and no run of it of at most
-- 1,000,000 iterations leaves accesses unordered that matter, whatever the image: so what holds of its mappings needs
-- no premise on the image. The text reads back as the new kernel: a command that reads it reads this kernel
pub record IsDepended (file out : Name) (before after : Moment) : Type 0 where
  pub bytes : Bytes
  pub held : Holds before.held file bytes
  pub kernel : Kernel
  pub spelled : answer_of bytes ≡ Ok kernel
  pub edges : List OrderEdge
  pub needed : AreNeeded kernel edges
  pub depended : Kernel
  pub is : depended ≡ with_order kernel edges
  pub valid : IsKernel depended
  pub same : (n : ℕ) (image : Image) → turns_left depended n image ≡ turns_left kernel n image
  pub free : (n : ℕ) (image : Image) → n ≤ 1000000 → IsUnaliased depended n image
  pub read_back : answer_of (kernel_text depended) ≡ Ok depended
  pub written : Holds after.held out (kernel_text depended)
  pub put : Appends before.taken (depend_report (length edges) (length depended.order)) after.taken
