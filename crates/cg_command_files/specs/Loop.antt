-- `loop SOURCE OUT`.
use Rattle.std.specs.Prelude.{◌≡◌, ℕ, ◌≤◌, length, Option, Some, None, Result, Ok, Err, codes, decimal, [], ◌∷◌}
use Rattle.cg_model.specs.Limits.{most_nodes, most_order_edges}
use Rattle.cg_model.specs.Kernel.{Kernel, IsKernel, size}
use Rattle.cg_model.specs.Order.{IsUnaliased}
use Rattle.cg_model.specs.Work.{Image}
use Rattle.cg_files.specs.Held.{Holds, Appends}
use Rattle.cg_effects.specs.declared.outcome.Status.TheVariants.{Done}
use Rattle.cg_effects.specs.Outcome.{Name, Bytes, File, Outcome, line_of, line_then}
use Rattle.cg_effects.specs.Ends.{Moment}
use Rattle.cg_effects.specs.Refusals.{malformed_of, writes_one}
use Rattle.cg_kernel.specs.Answer.{answer_of}
use Rattle.cg_kernel_text.specs.Printed.{kernel_text}
use Rattle.cg_loop_syntax.specs.declared.fault.Excess.{Excess}
use Rattle.cg_loop_syntax.specs.declared.fault.LoopFault.{LoopFault}
use Rattle.cg_loop_syntax.specs.declared.fault.LoopFault.TheVariants.{Memory, TooLarge}
use Rattle.cg_loop_syntax.specs.Loop.{Body}
use Rattle.cg_loop_laws.specs.Translate.{loop_kernel_of}
use Rattle.cg_loop_laws.specs.Laws.{HasRoom, LeavesLoop}
use Rattle.cg_loop_reader.specs.Answer.{Spells, IsFault}
use Rattle.cg_loop_reader.specs.FaultText.{loop_fault_text}
use Rattle.cg_loop.specs.Excess.{excess_of}
use Rattle.cg_inputs.specs.Answered.{Parsed, ReadThen, WithMemory}
use Rattle.cg_inputs.specs.Refused.{Tells}

-- the result of parsing the bytes: the loop body that they describe, or a fault in them
abbrev pub IsReading : Bytes → Result Body LoopFault → Type 0
IsReading bytes (Ok P) = Spells bytes P
IsReading bytes (Err e) = IsFault e bytes

-- the file contains no valid loop body
abbrev pub RefusesLoop : File → Outcome → Type 0
RefusesLoop file o = Tells (IsReading file.bytes) Memory loop_fault_text file.name o

abbrev pub ReadsLoop : File → Result Body Outcome → Type 0
ReadsLoop file r = Parsed (WithMemory (IsReading file.bytes) Memory) loop_fault_text file.name r

-- the report: the numbers of nodes and order edges
abbrev pub loop_report : Kernel → Bytes
loop_report K = line_then (codes "nodes " ∷ decimal (size K) ∷ []) (line_of (codes "order " ∷ decimal (length K.order) ∷ []))

-- Done: the text of K is written under the name `out`
abbrev pub kernel_written : Kernel → Name → Outcome
kernel_written K out = writes_one Done (loop_report K) out (kernel_text K)

-- Malformed: the kernel is too large
abbrev pub kernel_refused : Name → Excess → Outcome
kernel_refused file x = malformed_of file (loop_fault_text (TooLarge x))

-- `kernel_written` or `kernel_refused`, by what K has too many of
abbrev pub kernel_outcome_by : Name → Name → Kernel → Option Excess → Outcome
kernel_outcome_by file out K None = kernel_written K out
kernel_outcome_by file out K (Some x) = kernel_refused file x

abbrev pub kernel_outcome : Name → Name → Kernel → Outcome
kernel_outcome file out K = kernel_outcome_by file out K (excess_of K)

abbrev pub IsTranslation : Name → Name → Body → Outcome → Type 0
IsTranslation file out P o = o ≡ kernel_outcome file out (loop_kernel_of P)

abbrev pub IsLoopOf : File → Name → Outcome → Type 0
IsLoopOf file out o = ReadThen (ReadsLoop file) (IsTranslation file.name out) o

-- the bytes describe a loop body whose kernel is within the limits on kernels
pub record IsTranslatable (file : File) : Type 0 where
  pub body : Body
  pub spelled : Spells file.bytes body
  pub few : size (loop_kernel_of body) ≤ most_nodes
  pub few_edges : length (loop_kernel_of body).order ≤ most_order_edges

-- Done: a loop body was read; the text of its kernel is held under the other name, and its numbers of nodes and order
-- edges were reported. The kernel is valid, and its iterations do what the loop does on each image whose memory has the
-- words of all arrays. No run of it leaves accesses unordered that matter, whatever the image: so what holds of its
-- mappings needs no premise on the image. The text reads back as the kernel: a command that reads it reads this kernel
pub record IsLooped (file out : Name) (before after : Moment) : Type 0 where
  pub bytes : Bytes
  pub held : Holds before.held file bytes
  pub body : Body
  pub spelled : Spells bytes body
  pub kernel : Kernel
  pub is : kernel ≡ loop_kernel_of body
  pub valid : IsKernel kernel
  pub same : (n : ℕ) (image : Image) → HasRoom body image → LeavesLoop body n image
  pub free : (n : ℕ) (image : Image) → IsUnaliased kernel n image
  pub read_back : answer_of (kernel_text kernel) ≡ Ok kernel
  pub written : Holds after.held out (kernel_text kernel)
  pub put : Appends before.taken (loop_report kernel) after.taken
