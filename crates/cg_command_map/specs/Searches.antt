-- What searches for mappings have in common: why there is no mapping, what is written of a mapping, and their input
-- files.
use Rattle.std.specs.Borrow.{Bor}
use Rattle.std.specs.Prelude.{◌≡◌, ◌≢◌, ℕ, nat_lt, Bool, true, false, List, [], ◌∷◌, Option, Some, None, Result, Ok, Err}
use Rattle.std.specs.Option.{option_map}
use Rattle.serde_json.specs.Written.{compact_text}
use Rattle.cg_model.specs.Array.{Arch}
use Rattle.cg_model.specs.Mapping.{Mapping, IsLegal}
use Rattle.cg_effects.specs.declared.outcome.Status.TheVariants as status
use Rattle.cg_files.specs.Held.{Holds}
use Rattle.cg_effects.specs.Outcome.{Name, Bytes, File, Outcome, line_of}
use Rattle.cg_effects.specs.Ends.{Moment, IsPut, Wrote}
use Rattle.cg_effects.specs.Refusals.{malformed_of}
use Rattle.cg_cause.specs.Cause.{interval_fault_text}
use Rattle.cg_command.specs.declared.command.MapperCall.{MapperCall}
use Rattle.cg_command.specs.Command.{listed}
use Rattle.cg_bits.specs.Spelling.{AreBits}
use Rattle.cg_mapping.specs.Printed.{data_of}
use Rattle.cg_check.specs.Legal.{Mapped, config_of}
use Rattle.cg_bound.specs.declared.interval.Certificate.{Certificate}
use Rattle.cg_bound.specs.Bound.{IsForbidden, Certifies, Shows}
use Rattle.cg_bound.specs.Text.{certificate_text}
use Rattle.cg_intervals.specs.Intervals.{last_tried}
use Rattle.cg_model.specs.declared.request.Request.{Request}
use Rattle.cg_model.specs.Request.{IsInRange}
use Rattle.cg_inputs.specs.Sources.{Pair, ArePaired, GivesPair, HoldPair}

-- ---- reports

-- why the last interval that is tried is impossible
abbrev pub impossible_report : Pair → Request → Certificate → Bytes
impossible_report p s c = line_of (certificate_text p.arch p.kernel (Some (last_tried p.arch s.ii)) c ∷ [])

-- ---- files

-- the names of the files that a call writes
abbrev pub outputs_of : {F : Type 0} → MapperCall F (Bor Name) → List Name
outputs_of call = call.out.now ∷ listed (option_map (λ (name : Bor Name). name.now) call.mapping)

-- a mapping as text
abbrev pub mapping_text : Mapped → Bytes
mapping_text m = compact_text (data_of m.arch m.kernel m.mapping)

-- what is written where a mapping was found: its bits, and its text where a file is named for it
abbrev pub map_writes : List Name → Mapped → Bytes → List File
map_writes (out ∷ []) m bytes = record { name = out; bytes = bytes } ∷ []
map_writes (out ∷ file ∷ []) m bytes =
    record { name = out; bytes = bytes } ∷ record { name = file; bytes = mapping_text m } ∷ []
map_writes _ m bytes = []

-- ---- outcomes

-- a mapping was found, bytes that encode its configuration are written, and `report` is the report
pub record IsWritten (outs : List Name) (m : Mapped) (report : Bytes) (o : Outcome) : Type 0 where
  pub bytes : Bytes
  pub spelled : AreBits m.arch (config_of m) bytes
  pub outcome : o ≡ record { status = status.Done; report = report; writes = map_writes outs m bytes }

-- the requested interval has more cycles than the architecture has contexts
abbrev pub is_above : Option ℕ → Arch → Bool
is_above None A = false
is_above (Some ii) A = nat_lt A.contexts ii

-- the refusal of that interval, for the architecture's file
abbrev pub above_contexts : Name → Arch → Outcome
above_contexts arch A = malformed_of arch (interval_fault_text A.contexts)

-- the refusal of the interval, or what is defined for the pair
abbrev pub IsWithin : (Pair → Outcome → Type 0) → Name → Pair → Bool → Outcome → Type 0
IsWithin defines arch p true o = o ≡ above_contexts arch p.arch
IsWithin defines arch p false o = defines p o

-- given the result of parsing the files
abbrev pub IsOverPair : (Pair → Outcome → Type 0) → Option ℕ → Name → Result Pair Outcome → Outcome → Type 0
IsOverPair defines asked arch (Ok p) o = IsWithin defines arch p (is_above asked p.arch) o
IsOverPair defines asked arch (Err refused) o = o ≡ refused

-- a search over two files
pub record IsSearchOver (defines : Pair → Outcome → Type 0) (s : Request) (arch kernel : File) (o : Outcome) : Type 0 where
  pub range : IsInRange s
  pub pair : Result Pair Outcome
  pub given : ArePaired arch kernel pair
  pub outcome : IsOverPair defines s.ii arch.name pair o

-- ---- what is reported as impossible, and what is left

-- the files contain an architecture and a kernel, the requested interval is within its contexts, and a recurrence or an
-- overfull set forbids the last interval that would be tried
pub record IsForbiddenInput (s : Request) (arch kernel : File) : Type 0 where
  pub pair : Pair
  pub given : GivesPair arch.bytes kernel.bytes pair
  pub within : is_above s.ii pair.arch ≡ false
  pub forbidden : IsForbidden pair.arch pair.kernel (last_tried pair.arch s.ii)

-- the bits are held, and the mapping's text where a file is named for it; of two files with the same name the later is
-- held
abbrev pub HoldsMapped : List Name → Mapped → Bytes → Moment → Type 0
HoldsMapped (out ∷ []) m bytes after = Holds after.held out bytes
HoldsMapped (out ∷ file ∷ []) m bytes after = (out ≢ file → Holds after.held out bytes) × Holds after.held file (mapping_text m)
HoldsMapped _ m bytes after = Unit {0}

-- Impossible: a recurrence or an overfull set forbids the last interval that would be tried. One was reported, in part
-- if the put call failed, and no mapping of that interval is legal. Nothing was written
pub record IsImpossibleRun (s : Request) (arch kernel : Name) (before after : Moment) : Type 0 where
  pub pair : Pair
  pub read : HoldPair arch kernel before pair
  pub certificate : Certificate
  pub shown : Shows pair.arch pair.kernel (last_tried pair.arch s.ii) certificate
  pub certifies : Certifies pair.arch pair.kernel (last_tried pair.arch s.ii) certificate
  pub forbidden : IsForbidden pair.arch pair.kernel (last_tried pair.arch s.ii)
  pub excludes : (M : Mapping) → M.ii ≡ last_tried pair.arch s.ii → IsLegal pair.arch pair.kernel M → ⊥
  pub put : IsPut status.Impossible (impossible_report pair s certificate) before after
  pub kept : Wrote before.held [] after.held
  pub no_write : after.write_faults ≡ before.write_faults
