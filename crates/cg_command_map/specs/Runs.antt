-- What a search leaves, where it finds a mapping and where it has used up its moves.
use Rattle.std.specs.Prelude.{◌≡◌, List, [], ◌∷◌, Ok}
use Rattle.cg_model.specs.Mapping.{Mapping}
use Rattle.cg_effects.specs.declared.outcome.Status.TheVariants as status
use Rattle.cg_files.specs.Held.{Appends}
use Rattle.cg_effects.specs.Outcome.{Name, Bytes, File}
use Rattle.cg_effects.specs.Ends.{Moment, IsPut, Wrote}
use Rattle.cg_check.specs.Legal.{Mapped}
use Rattle.cg_bound.specs.Bound.{IsOpen}
use Rattle.cg_hub.specs.Hub.{HubEnough}
use Rattle.cg_intervals.specs.declared.answering.FoundBy.{FoundBy}
use Rattle.cg_intervals.specs.Intervals.{last_tried}
use Rattle.cg_model.specs.declared.request.Request.{Request}
use Rattle.cg_inputs.specs.Sources.{Pair, HoldPair}
use Rattle.cg_mapping.specs.Answer as mappings
use Rattle.cg_mapping.specs.Sound.{IsWithinLimits}
use Rattle.cg_command_judge.specs.Emit.{RunsMapping}
use Rattle.cg_command_map.specs.Searches.{HoldsMapped, mapping_text}
use Rattle.cg_command_map.specs.Answered.{found_report}

-- the mapping with the architecture and the kernel of the files
abbrev pub mapped_on : Pair → Mapping → Mapped
mapped_on pair mapping = record { arch = pair.arch; kernel = pair.kernel; mapping = mapping }

-- the bytes run a mapping of the kernel on the architecture that were read
pub record RunsOfPair (arch kernel : Name) (before : Moment) (bytes : Bytes) : Type 0 where
  pub pair : Pair
  pub read : HoldPair arch kernel before pair
  pub mapping : Mapping
  pub runs : RunsMapping (mapped_on pair mapping) bytes

-- the first of these files, if there is one, runs a mapping of the kernel on the architecture that were read
abbrev pub FirstRuns : Name → Name → Moment → List File → Type 0
FirstRuns arch kernel before [] = Unit {0}
FirstRuns arch kernel before (file ∷ files) = RunsOfPair arch kernel before file.bytes

-- Done: nothing forbids the last interval that is tried, and `Found` holds of a mapping. It is legal; in no cycle does
-- a resource carry the values of two iterations, or a unit begin two operations; and an array that runs the bytes that
-- are written does what the iterations of the kernel do one after the other, for every number of iterations and every
-- image on which the kernel's edges order the accesses that matter
pub record IsFoundRun (by : Bytes) (Found : Pair → Mapped → FoundBy → Type 0) (s : Request) (arch kernel : Name) (outs : List Name) (before after : Moment) : Type 0 where
  pub pair : Pair
  pub read : HoldPair arch kernel before pair
  pub free : IsOpen pair.arch pair.kernel (last_tried pair.arch s.ii)
  pub mapping : Mapping
  pub found_by : FoundBy
  pub found : Found pair (mapped_on pair mapping) found_by
  pub bytes : Bytes
  pub runs : RunsMapping (mapped_on pair mapping) bytes
  pub written : HoldsMapped outs (mapped_on pair mapping) bytes after
  -- the text of the mapping, for `--mapping`, reads back as the mapping where its numbers are within the limits of
  -- mapping files
  pub read_back : IsWithinLimits mapping → mappings.answer_of pair.arch pair.kernel (mapping_text (mapped_on pair mapping)) ≡ Ok mapping
  pub put : Appends before.taken (found_report by (mapped_on pair mapping) found_by) after.taken

module _ {L : Type 0} (left_text : Pair → L → Bytes) (Left : Pair → L → Type 0) where
  -- BudgetSpent: nothing forbids the last interval, and at none of the intervals that were tried a mapping was found:
  -- `Left` holds of what is left, and `left_text` is the report of it, which was put in part if the put call failed.
  -- Nothing was written
  pub record IsLeftRun (s : Request) (arch kernel : Name) (before after : Moment) : Type 0 where
    pub pair : Pair
    pub read : HoldPair arch kernel before pair
    pub free : IsOpen pair.arch pair.kernel (last_tried pair.arch s.ii)
    pub left : L
    pub is_left : Left pair left
    -- the hub doesn't suffice at the last interval that is tried
    pub no_hub : HubEnough pair.arch pair.kernel (last_tried pair.arch s.ii) → ⊥
    pub put : IsPut status.BudgetSpent (left_text pair left) before after
    pub kept : Wrote before.held [] after.held
    pub no_write : after.write_faults ≡ before.write_faults
