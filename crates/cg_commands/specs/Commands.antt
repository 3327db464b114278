-- The answer of each command for its files. Each definition has a case for each command.
use Rattle.std.specs.Prelude.{◌≡◌, ℕ, Bool, true, false, List, [], ◌∷◌, Some, None, Ok}
use Rattle.cg_model.specs.Kernel.{Kernel}
use Rattle.cg_effects.specs.declared.outcome.Status.{Status}
use Rattle.cg_effects.specs.declared.outcome.Status.TheVariants.{Done, Usage, Impossible, BudgetSpent, No}
use Rattle.cg_effects.specs.Outcome.{Name, File, Outcome}
use Rattle.cg_effects.specs.Ends.{Moment}
use Rattle.cg_kernel.specs.Answer.{answer_of}
use Rattle.cg_command.specs.declared.command.Command.{Command}
use Rattle.cg_command.specs.declared.command.Command.TheVariants.{Turns, TurnsOnImage, Flat, Run, Bound, Check, Emit, Map, Search, Show, Trial, Verilog, Loop, Depend, Simplify, Migrate, Bench, Image, Words, Violations, Why}
use Rattle.cg_command.specs.Command.{listed}
use Rattle.cg_pad.specs.Bytes as images
use Rattle.cg_model.specs.Work as works
use Rattle.cg_model.specs.Array.{Arch}
use Rattle.cg_tiles.specs.Answer.{AreValidBytes}
use Rattle.cg_model.specs.Order.{IsUnaliased}
use Rattle.cg_command_run.specs.Turns.{IsTurns, IsTurned}
use Rattle.cg_command_run.specs.TurnsOnImage.{IsTurnsOnImage, IsOrderedRun, IsUnorderedRun}
use Rattle.cg_command_run.specs.Flat.{IsFlat, IsFlattened}
use Rattle.cg_command_run.specs.Run.{IsRun, IsRunnable, IsArrayRun}
use Rattle.cg_command_run.specs.Netlist.{IsNetlistRun, IsNetlistRunnable, IsGatesRun}
use Rattle.cg_command_run.specs.Bench.{IsBench, IsBenchRun}
use Rattle.cg_command_files.specs.Image.{image_of, IsImageText, IsImaged}
use Rattle.cg_command_files.specs.Words.{words_of, IsImageFile, IsWorded}
use Rattle.cg_command_judge.specs.Bound.{IsBoundOf, IsPairInput, IsBoundRun}
use Rattle.cg_command_judge.specs.Check.{IsCheck, IsLegalInput, IsLegalCheck, IsIllegalCheck}
use Rattle.cg_command_judge.specs.Emit.{IsEmit, RunsRead, IsEmittedRun}
use Rattle.cg_command_judge.specs.Violations.{IsViolations, IsViolatedRun}
use Rattle.cg_command_judge.specs.Why.{IsWhyOf, IsWhyRun}
use Rattle.cg_command_map.specs.Map.{IsMap, IsMappable, IsMapRun, IsSpentRun}
use Rattle.cg_command_map.specs.Searches.{IsForbiddenInput, IsImpossibleRun}
use Rattle.cg_command_map.specs.Runs.{RunsOfPair}
use Rattle.cg_command_map.specs.Search.{IsSearch, IsSearchable, IsSearchRun, IsSearchSpentRun, AreAgreed}
use Rattle.cg_command_judge.specs.Show.{IsShow, IsShownRun}
use Rattle.cg_commands.specs.Trial.{IsTrialOf, IsTrialRun}
use Rattle.cg_command_files.specs.Verilog.{IsVerilog, IsNetlisted}
use Rattle.cg_command_files.specs.Loop.{IsLoopOf, IsTranslatable, IsLooped}
use Rattle.cg_command_files.specs.Depend.{IsDependOf, IsDependable, IsDepended}
use Rattle.cg_command_files.specs.Simplify.{IsSimplifyOf, IsSimplifiedRun}
use Rattle.cg_command_files.specs.Migrate.{IsMigrate, IsMigratable, IsMigrated}

-- the outcomes that the command allows
abbrev pub IsAnswer : Command File Name → Outcome → Type 0
IsAnswer (Turns file n) o = IsTurns n file o
IsAnswer (TurnsOnImage file n input out) o = IsTurnsOnImage n file input out o
IsAnswer (Flat file out) o = IsFlat file out o
IsAnswer (Run call None) o = IsRun call.turns call.arch call.bits call.image call.out o
IsAnswer (Run call (Some netlist)) o = IsNetlistRun call.turns call.arch call.bits call.image netlist call.out o
IsAnswer (Bound arch kernel) o = IsBoundOf arch kernel o
IsAnswer (Check arch kernel mapping) o = IsCheck arch kernel mapping o
IsAnswer (Emit arch kernel mapping out) o = IsEmit arch kernel mapping out o
IsAnswer (Map call) o = IsMap call.request call.arch call.kernel (call.out ∷ listed call.mapping) o
IsAnswer (Search call) o = IsSearch call.request call.arch call.kernel (call.out ∷ listed call.mapping) o
IsAnswer (Show arch kernel mapping out) o = IsShow arch kernel mapping (listed out) o
IsAnswer (Trial seed) o = IsTrialOf seed o
IsAnswer (Verilog file out) o = IsVerilog file out o
IsAnswer (Loop file out) o = IsLoopOf file out o
IsAnswer (Depend file out) o = IsDependOf file out o
IsAnswer (Simplify file out copies share) o = IsSimplifyOf file out o
IsAnswer (Migrate arch file out) o = IsMigrate arch file out o
IsAnswer (Bench call) o = IsBench call.turns call.arch call.bits call.image call.out o
IsAnswer (Image file out) o = o ≡ image_of file out
IsAnswer (Words file) o = o ≡ words_of file
IsAnswer (Violations arch kernel mapping) o = IsViolations arch kernel mapping o
IsAnswer (Why arch kernel) o = IsWhyOf arch kernel o

-- how the statuses of two outcomes that the command allows for the same files agree: they are equal, except that
-- whether `search` finds a mapping is left open
abbrev pub AgreeIn : {F N : Type 0} → Command F N → Status → Status → Type 0
AgreeIn (Search call) a b = AreAgreed a b
AgreeIn _ a b = a ≡ b

-- the bytes describe a kernel
abbrev pub SpellsKernel : File → Type 0
SpellsKernel file = (K : Kernel) × (answer_of file.bytes ≡ Ok K)

-- the files contain a kernel and an image, and in the n iterations all accesses that matter are ordered
pub record IsUnaliasedRun (n : ℕ) (file input : File) : Type 0 where
  pub kernel : Kernel
  pub image : works.Image
  pub kernel_is : answer_of file.bytes ≡ Ok kernel
  pub image_is : images.answer_of input.bytes ≡ Ok image
  pub unaliased : IsUnaliased kernel n image

-- the bytes describe an architecture
abbrev pub GivesArch : File → Type 0
GivesArch file = (A : Arch) × AreValidBytes file.bytes A

-- the input files are such that the command completes
abbrev pub Accepts : Command File Name → Type 0
Accepts (Turns file n) = SpellsKernel file
Accepts (TurnsOnImage file n input out) = IsUnaliasedRun n file input
Accepts (Flat file out) = GivesArch file
Accepts (Run call None) = IsRunnable call.arch call.bits call.image
Accepts (Run call (Some netlist)) = IsNetlistRunnable call.arch call.bits call.image netlist
Accepts (Bound arch kernel) = IsPairInput arch kernel
Accepts (Check arch kernel mapping) = IsLegalInput arch kernel mapping
Accepts (Emit arch kernel mapping out) = IsLegalInput arch kernel mapping
Accepts (Map call) = IsMappable call.request call.arch call.kernel
Accepts (Search call) = IsSearchable call.request call.arch call.kernel
Accepts (Show arch kernel mapping out) = IsLegalInput arch kernel mapping
Accepts (Trial seed) = Unit {0}
Accepts (Verilog file out) = GivesArch file
Accepts (Loop file out) = IsTranslatable file
Accepts (Depend file out) = IsDependable file
Accepts (Simplify file out copies share) = SpellsKernel file
Accepts (Migrate arch file out) = IsMigratable arch file
Accepts (Bench call) = IsRunnable call.arch call.bits call.image
Accepts (Image file out) = IsImageText file
Accepts (Words file) = IsImageFile file
Accepts (Violations arch kernel mapping) = IsLegalInput arch kernel mapping
Accepts (Why arch kernel) = IsPairInput arch kernel

-- the input files are such that the command reports that an interval is impossible
abbrev pub Forbids : Command File Name → Type 0
Forbids (Map call) = IsForbiddenInput call.request call.arch call.kernel
Forbids (Search call) = IsForbiddenInput call.request call.arch call.kernel
Forbids _ = ⊥

-- the first of the files that `map`, `search` and `emit` write runs a mapping of what was read under these names;
-- whether it was written, and how the call ended, is stated separately
abbrev pub RunWrites : List File → Command Name Name → Moment → Type 0
RunWrites [] command before = Unit {0}
RunWrites (file ∷ files) (Map call) before = RunsOfPair call.arch call.kernel before file.bytes
RunWrites (file ∷ files) (Search call) before = RunsOfPair call.arch call.kernel before file.bytes
RunWrites (file ∷ files) (Emit arch kernel mapping out) before = RunsRead arch kernel mapping before file.bytes
RunWrites (file ∷ files) _ before = Unit {0}

-- what a command on files of these names leaves where it ends with Done: what is held, and what was reported
abbrev pub LeavesDone : Command Name Name → Moment → Moment → Type 0
LeavesDone (Turns file n) before after = IsTurned n file before after
LeavesDone (TurnsOnImage file n input out) before after = IsOrderedRun n file input out before after
LeavesDone (Flat file out) before after = IsFlattened file out before after
LeavesDone (Run call None) before after = IsArrayRun call.turns call.arch call.bits call.image call.out before after
LeavesDone (Run call (Some netlist)) before after = IsGatesRun call.turns call.arch call.bits call.image netlist call.out before after
LeavesDone (Bound arch kernel) before after = IsBoundRun arch kernel before after
LeavesDone (Check arch kernel mapping) before after = IsLegalCheck arch kernel mapping before after
LeavesDone (Emit arch kernel mapping out) before after = IsEmittedRun arch kernel mapping out before after
LeavesDone (Map call) before after = IsMapRun call.request call.arch call.kernel (call.out ∷ listed call.mapping) before after
LeavesDone (Search call) before after = IsSearchRun call.request call.arch call.kernel (call.out ∷ listed call.mapping) before after
LeavesDone (Show arch kernel mapping out) before after = IsShownRun arch kernel mapping (listed out) before after
LeavesDone (Trial seed) before after = IsTrialRun seed before after
LeavesDone (Verilog file out) before after = IsNetlisted file out before after
LeavesDone (Loop file out) before after = IsLooped file out before after
LeavesDone (Depend file out) before after = IsDepended file out before after
LeavesDone (Simplify file out copies share) before after = IsSimplifiedRun file out before after
LeavesDone (Migrate arch file out) before after = IsMigrated arch file out before after
LeavesDone (Bench call) before after = IsBenchRun call.turns call.arch call.bits call.image call.out before after
LeavesDone (Image file out) before after = IsImaged file out before after
LeavesDone (Words file) before after = IsWorded file before after
LeavesDone (Violations arch kernel mapping) before after = IsLegalCheck arch kernel mapping before after
LeavesDone (Why arch kernel) before after = IsWhyRun arch kernel before after

-- the commands that judge a mapping before they write: where they end with No, they write nothing
abbrev pub judges : {F N : Type 0} → Command F N → Bool
judges (Check arch kernel mapping) = true
judges (Emit arch kernel mapping out) = true
judges (Show arch kernel mapping out) = true
judges (Violations arch kernel mapping) = true
judges _ = false

-- what the command leaves where it ends with No
abbrev pub LeavesNo : Command Name Name → Moment → Moment → Type 0
LeavesNo (TurnsOnImage file n input out) before after = IsUnorderedRun n file input out before after
LeavesNo (Check arch kernel mapping) before after = IsIllegalCheck arch kernel mapping before after
LeavesNo (Emit arch kernel mapping out) before after = IsIllegalCheck arch kernel mapping before after
LeavesNo (Show arch kernel mapping out) before after = IsIllegalCheck arch kernel mapping before after
LeavesNo (Violations arch kernel mapping) before after = IsViolatedRun arch kernel mapping before after
LeavesNo _ before after = ⊥

-- what the command leaves where it ends with Impossible
abbrev pub LeavesImpossible : Command Name Name → Moment → Moment → Type 0
LeavesImpossible (Map call) before after = IsImpossibleRun call.request call.arch call.kernel before after
LeavesImpossible (Search call) before after = IsImpossibleRun call.request call.arch call.kernel before after
LeavesImpossible _ before after = ⊥

-- what the command leaves where it ends with BudgetSpent
abbrev pub LeavesSpent : Command Name Name → Moment → Moment → Type 0
LeavesSpent (Map call) before after = IsSpentRun call.request call.arch call.kernel before after
LeavesSpent (Search call) before after = IsSearchSpentRun call.request call.arch call.kernel before after
LeavesSpent _ before after = ⊥

-- what the command leaves, by its status; nothing where it can't end with the status. Faults, running out of memory and
-- the refusal of a file are covered by the table of statuses
abbrev pub Leaves : Command Name Name → Status → Moment → Moment → Type 0
Leaves command Done before after = LeavesDone command before after
Leaves command No before after = LeavesNo command before after
Leaves command Impossible before after = LeavesImpossible command before after
Leaves command BudgetSpent before after = LeavesSpent command before after
Leaves command Usage before after = ⊥
Leaves command _ before after = Unit {0}
