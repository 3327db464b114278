-- `turns KERNEL TURNS`.
use Rattle.std.specs.Prelude.{◌≡◌, ℕ, ◌&&◌, Bool, eqb, List, [], ◌∷◌, ◌++◌, Ok, slice_index_or, replicate, flat_map, if◌then◌else◌, codes, decimal}
use Rattle.std.specs.List.{list_any, range_with_len}
use Rattle.cg_word.specs.Word.{is_output}
use Rattle.cg_model.specs.Kernel.{Kernel}
use Rattle.cg_model.specs.Work.{Image}
use Rattle.cg_model.specs.Turns.{turns_left}
use Rattle.cg_effects.specs.declared.outcome.Status.TheVariants.{Done}
use Rattle.cg_files.specs.Held.{Holds, Appends}
use Rattle.cg_effects.specs.Outcome.{Name, Bytes, File, Outcome}
use Rattle.cg_effects.specs.Ends.{Moment}
use Rattle.cg_kernel.specs.Answer.{answer_of}
use Rattle.cg_effects.specs.Refusals.{reports}
use Rattle.cg_inputs.specs.Answered.{ReadThen}
use Rattle.cg_inputs.specs.Readings.{ReadsKernel}

-- some node gives output to the port
abbrev pub outputs_to : Kernel → ℕ → Bool
outputs_to K port = list_any (λ v. is_output v.op && eqb v.port port) K.nodes

-- the words, each preceded by a blank
abbrev pub spaced : List ℕ → Bytes
spaced [] = []
spaced (w ∷ ws) = (32 ∷ decimal w) ++ spaced ws

-- the line of a stream: `out P:` and its words
abbrev pub stream_line : ℕ → List ℕ → Bytes
stream_line port words = codes "out " ++ (decimal port ++ (codes ":" ++ (spaced words ++ 10 ∷ [])))

-- the line is written where some node gives output to the port
abbrev pub port_report : Kernel → List (List ℕ) → ℕ → Bytes
port_report K streams port = if outputs_to K port then stream_line port (slice_index_or streams port []) else []

-- the ports in ascending order
abbrev pub streams_report : Kernel → List (List ℕ) → Bytes
streams_report K streams = flat_map (port_report K streams) (range_with_len 0 16)

-- an image without words
abbrev pub blank : Image
blank = record { memory = []; streams = replicate 16 [] }

-- the iterations of the kernel were run on the image without words
abbrev pub turned : ℕ → Kernel → Outcome
turned n K = reports Done (streams_report K (turns_left K n blank).image.streams)

abbrev pub IsTurning : ℕ → Kernel → Outcome → Type 0
IsTurning n K o = o ≡ turned n K

abbrev pub IsTurns : ℕ → File → Outcome → Type 0
IsTurns n file o = ReadThen (ReadsKernel file) (IsTurning n) o

-- Done: a kernel was read, and the words that its iterations send to each of its output ports were reported
pub record IsTurned (n : ℕ) (file : Name) (before after : Moment) : Type 0 where
  pub bytes : Bytes
  pub held : Holds before.held file bytes
  pub kernel : Kernel
  pub spelled : answer_of bytes ≡ Ok kernel
  pub put : Appends before.taken (streams_report kernel (turns_left kernel n blank).image.streams) after.taken
