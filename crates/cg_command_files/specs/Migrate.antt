-- `migrate ARCH BITS OUT`.
use Rattle.std.specs.Prelude.{◌≡◌, ℕ, [], ◌∷◌, length, Result, Ok, Err, codes, decimal}
use Rattle.cg_model.specs.Array.{Arch}
use Rattle.cg_model.specs.Config.{Config}
use Rattle.cg_model.specs.Configured.{configuration_of}
use Rattle.cg_model.specs.Kernel.{Kernel, IsKernel}
use Rattle.cg_model.specs.Machine.{machine_left}
use Rattle.cg_model.specs.Mapping.{Mapping, IsLegal}
use Rattle.cg_model.specs.Work.{Image}
use Rattle.cg_effects.specs.declared.outcome.Status.TheVariants.{Done}
use Rattle.cg_files.specs.Held.{Holds, Appends}
use Rattle.cg_effects.specs.Outcome.{Name, Bytes, File, Outcome, line_of, line_then}
use Rattle.cg_effects.specs.Ends.{Moment}
use Rattle.cg_effects.specs.Refusals.{malformed_of}
use Rattle.cg_tiles.specs.Answer.{AreValidBytes}
use Rattle.cg_bits.specs.declared.fault.BitsFault.{BitsFault}
use Rattle.cg_bits.specs.Answers.{answer_in}
use Rattle.cg_bits.specs.Format.{cgb1}
use Rattle.cg_bits.specs.Spelling.{AreBits, AreFirstBits}
use Rattle.cg_bits.specs.Texts.{first_fault_text}
use Rattle.cg_sim.specs.FirstMachine.{first_left}
use Rattle.cg_inputs.specs.Answered.{Parsed, ReadBoth, ReadThen}
use Rattle.cg_inputs.specs.Readings.{ReadsArch}
use Rattle.cg_command_judge.specs.Emit.{RunsMapping}

-- the interval and the stages of a configuration, and the number of bytes that are written
abbrev pub migrate_report : Config → Bytes → Bytes
migrate_report C bytes =
    line_then (codes "ii " ∷ decimal C.ii ∷ [])
    (line_then (codes "stages " ∷ decimal C.stages ∷ []) (line_of (codes "bytes " ∷ decimal (length bytes) ∷ [])))

-- Done: bytes that encode the configuration in the current format are written
pub record IsRewritten (A : Arch) (C : Config) (out : Name) (o : Outcome) : Type 0 where
  pub bytes : Bytes
  pub spelled : AreBits A C bytes
  pub outcome : o ≡ record { status = Done; report = migrate_report C bytes; writes = record { name = out; bytes = bytes } ∷ [] }

-- given the result of parsing the file of bits in the first format: a configuration, or a fault
abbrev pub MigrateBits : Arch → Name → Name → Outcome → Result Config BitsFault → Type 0
MigrateBits A file out o (Ok C) = IsRewritten A C out o
MigrateBits A file out o (Err f) = o ≡ malformed_of file (first_fault_text f)

-- the architecture and then a configuration of it in the first format are read
abbrev pub ReadsFirst : Arch → File → Result Config Outcome → Type 0
ReadsFirst A file r = Parsed (λ a. answer_in cgb1 A file.bytes ≡ a) first_fault_text file.name r

abbrev pub ReadsMigration : File → File → Result (Arch × Config) Outcome → Type 0
ReadsMigration arch file r = ReadBoth (ReadsArch arch) (λ A. ReadsFirst A file) r

abbrev pub IsMigration : Name → Arch × Config → Outcome → Type 0
IsMigration out a o = IsRewritten a.0 a.1 out o

abbrev pub IsMigrate : File → File → Name → Outcome → Type 0
IsMigrate arch file out o = ReadThen (ReadsMigration arch file) (IsMigration out) o

-- the files contain an architecture and a configuration of it in the first format
pub record IsMigratable (arch file : File) : Type 0 where
  pub array : Arch
  pub given : AreValidBytes arch.bytes array
  pub config : Config
  pub config_is : answer_in cgb1 array file.bytes ≡ Ok config

-- the bytes run each legal mapping of a valid kernel that has this configuration
abbrev pub RunMappingsOf : Arch → Config → Bytes → Type 0
RunMappingsOf A C bytes =
    (K : Kernel) (M : Mapping) → IsKernel K → IsLegal A K M → C ≡ configuration_of A K M →
    RunsMapping (record { arch = A; kernel = K; mapping = M }) bytes

-- Done: an architecture and a configuration of it, which the bytes `old` encode in the first format, were read; bytes
-- `new` that encode the same configuration in the current format are held under the last name, and its interval, its
-- stages and the number of these bytes were reported. Under it the array at the time of the first format and the
-- current one leave the same memory, streams and count, for every number of iterations and from every image; and where
-- it is the configuration of a legal mapping, `new` runs that mapping
pub record IsMigrated (arch file out : Name) (before after : Moment) : Type 0 where
  pub arch_bytes : Bytes
  pub arch_held : Holds before.held arch arch_bytes
  pub array : Arch
  pub given : AreValidBytes arch_bytes array
  pub old : Bytes
  pub held : Holds before.held file old
  pub config : Config
  pub spelled : AreFirstBits array config old
  pub new : Bytes
  pub written : Holds after.held out new
  pub respelled : AreBits array config new
  pub same : (n : ℕ) (image : Image) → first_left array config n image ≡ machine_left array config n image
  pub turns : RunMappingsOf array config new
  pub put : Appends before.taken (migrate_report config new) after.taken
