-- `emit ARCH KERNEL MAPPING OUT`.
use Rattle.std.specs.Prelude.{◌≡◌, List, [], ◌∷◌, Option, Some, None, codes, decimal}
use Rattle.cg_model.specs.Mapping.{IsLegal}
use Rattle.cg_model.specs.Overlap.{CarriesOne}
use Rattle.cg_effects.specs.declared.outcome.Status.TheVariants.{Done, No}
use Rattle.cg_files.specs.Held.{Holds, Appends}
use Rattle.cg_effects.specs.Outcome.{Name, Bytes, File, Outcome, line_of, line_then}
use Rattle.cg_effects.specs.Ends.{Moment}
use Rattle.cg_effects.specs.Refusals.{reports}
use Rattle.cg_bits.specs.Spelling.{AreBits}
use Rattle.cg_check.specs.Legal.{Mapped, config_of}
use Rattle.cg_check.specs.declared.rule.Violation.{Violation}
use Rattle.cg_check.specs.Rules.{violation}
use Rattle.cg_emit.specs.Emitted.{RunLikeTurns}
use Rattle.cg_inputs.specs.Answered.{ReadThen}
use Rattle.cg_inputs.specs.Sources.{AreMapped, HoldMapped}
use Rattle.cg_command_judge.specs.Check.{illegal_report}

-- the interval and the number of stages
abbrev pub emit_report : Mapped → Bytes
emit_report m =
    line_then (codes "ii " ∷ decimal m.mapping.ii ∷ []) (line_of (codes "stages " ∷ decimal (config_of m).stages ∷ []))

-- bytes that encode the mapping's configuration are written
pub record IsEmitted (out : Name) (m : Mapped) (o : Outcome) : Type 0 where
  pub bytes : Bytes
  pub spelled : AreBits m.arch (config_of m) bytes
  pub outcome : o ≡ record { status = Done; report = emit_report m; writes = record { name = out; bytes = bytes } ∷ [] }

-- given the violation, if there is one
abbrev pub IsEmittedBy : Name → Mapped → Option Violation → Outcome → Type 0
IsEmittedBy out m None o = IsEmitted out m o
IsEmittedBy out m (Some v) o = o ≡ reports No (illegal_report m.arch m.kernel v)

abbrev pub IsEmission : Name → Mapped → Outcome → Type 0
IsEmission out m o = IsEmittedBy out m (violation m.arch m.kernel m.mapping) o

abbrev pub IsEmit : File → File → File → Name → Outcome → Type 0
IsEmit arch kernel mapping out o = ReadThen (AreMapped arch kernel mapping) (IsEmission out) o

-- the bytes run a mapping: it is legal, and they are the bits of its configuration. In no cycle does a resource carry
-- the values of two iterations, or a unit begin two operations; and an array that runs these bytes does what the
-- iterations of the kernel do one after the other: for every number of iterations and every image on which the kernel's
-- edges order the accesses that matter, and for every image where no node reaches the memory
pub record RunsMapping (m : Mapped) (bytes : Bytes) : Type 0 where
  pub legal : IsLegal m.arch m.kernel m.mapping
  pub spelled : AreBits m.arch (config_of m) bytes
  pub once : CarriesOne m.arch m.kernel m.mapping
  pub overlaps : RunLikeTurns m.arch m.kernel m.mapping bytes

-- the bytes run the mapping that was read
pub record RunsRead (arch kernel mapping : Name) (before : Moment) (bytes : Bytes) : Type 0 where
  pub mapped : Mapped
  pub read : HoldMapped arch kernel mapping before mapped
  pub runs : RunsMapping mapped bytes

-- the first of these files, if there is one, runs the mapping that was read
abbrev pub FirstRunsRead : Name → Name → Name → Moment → List File → Type 0
FirstRunsRead arch kernel mapping before [] = Unit {0}
FirstRunsRead arch kernel mapping before (file ∷ files) = RunsRead arch kernel mapping before file.bytes

-- Done: the bytes held under the last name run the mapping that was read
pub record IsEmittedRun (arch kernel mapping out : Name) (before after : Moment) : Type 0 where
  pub mapped : Mapped
  pub read : HoldMapped arch kernel mapping before mapped
  pub bytes : Bytes
  pub written : Holds after.held out bytes
  pub runs : RunsMapping mapped bytes
  pub put : Appends before.taken (emit_report mapped) after.taken
