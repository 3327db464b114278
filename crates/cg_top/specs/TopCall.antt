-- How a call of the top call ends. No command is named here.
use Rattle.std.specs.Prelude.{◌≡◌, ◌≤◌, ◌⊎◌, Bool, true, false, List, [], All, Contains, Option, Some, None}
use Rattle.cg_files.specs.Asked.{Names, NotesAll, NotesPart}
use Rattle.cg_files.specs.Causes.{Rose}
use Rattle.cg_files.specs.Held.{Held, IsMissing, AppendsSome}
use Rattle.cg_effects.specs.declared.outcome.Status.{Status}
use Rattle.cg_effects.specs.declared.outcome.Status.TheVariants.{Done, Memory, Usage, Malformed, Impossible, ReadFault, WriteFault, BudgetSpent, No}
use Rattle.cg_effects.specs.Status.{leaves_all}
use Rattle.cg_effects.specs.Outcome.{Name, Bytes, File, Outcome, names_of}
use Rattle.cg_effects.specs.Reads.{IsRead, HoldsBytes, StopsAt}
use Rattle.cg_effects.specs.Ends.{Moment, Finished, Wrote, WrotePart, FailedAt, IsPut}
use Rattle.cg_command.specs.declared.command.Command.{Command}
use Rattle.cg_command.specs.Command.{inputs_of, outputs_of}
use Rattle.cg_command.specs.Files.{names_only}
use Rattle.cg_command.specs.Words.{plan_of}
use Rattle.cg_effects.specs.Refusals.{usage_outcome}
use Rattle.cg_commands.specs.Commands.{IsAnswer, Accepts, Forbids, AgreeIn, RunWrites, Leaves, judges}

-- ---- what words and files define

-- all input files were read, and the command with their contents allows the outcome
pub record Answers (held : Held) (plan : Command Name Name) (o : Outcome) : Type 0 where
  pub command : Command File Name
  pub named : names_only command ≡ plan
  pub read : All (IsRead held) (inputs_of command)
  pub answer : IsAnswer command o

-- all input files were read, each of them a list of bytes, and the command allows the outcome. What is read from a
-- store is bytes even where it isn't known what the store holds
pub record AnswersBytes (held : Held) (plan : Command Name Name) (o : Outcome) : Type 0 where
  pub answers : Answers held plan o
  pub bytes : All HoldsBytes (inputs_of answers.command)

abbrev pub IsPlanned : Held → Type 0 → Option (Command Name Name) → Outcome → Type 0
IsPlanned held rose None o = o ≡ usage_outcome
IsPlanned held rose (Some plan) o = Answers held plan o ⊎ StopsAt held rose (inputs_of plan) o

abbrev pub IsPlannedBytes : Held → Type 0 → Option (Command Name Name) → Outcome → Type 0
IsPlannedBytes held rose None o = o ≡ usage_outcome
IsPlannedBytes held rose (Some plan) o = AnswersBytes held plan o ⊎ StopsAt held rose (inputs_of plan) o

-- an outcome for these words, over what is held, where `rose` states that a read failed
abbrev pub IsOutcome : List Name → Held → Type 0 → Outcome → Type 0
IsOutcome words held rose o = IsPlanned held rose (plan_of words) o

-- an outcome for these words, over known files, where no read fails
abbrev pub IsDefined : List Name → (Name → Option Bytes) → Outcome → Type 0
IsDefined words files o = IsOutcome words (Some files) ⊥ o

-- ---- how a call ends

-- there was an outcome, and it was carried out, as far as faults and running out of memory allowed
pub record CarriedOut (words : List Name) (before after : Moment) (status : Status) : Type 0 where
  pub outcome : Outcome
  pub planned : IsPlannedBytes before.held (Rose before.read_faults after.read_faults) (plan_of words) outcome
  pub finished : Finished outcome before after status

-- memory ran out before there was an outcome
pub record NeverStarted (before after : Moment) (status : Status) : Type 0 where
  pub status_is : status ≡ Memory
  pub held : after.held ≡ before.held
  pub put : after.taken ≡ before.taken

abbrev pub Ends : List Name → Moment → Moment → Status → Type 0
Ends words before after status = CarriedOut words before after status ⊎ NeverStarted before after status

-- ---- what follows from it

-- how a status agrees with that of an outcome that is defined for the words: they are equal, except where the command
-- may choose
abbrev pub Agrees : Option (Command Name Name) → Status → Status → Type 0
Agrees None a b = a ≡ b
Agrees (Some plan) a b = AgreeIn plan a b

-- the status is the defined one, except for running out of memory and for faults, which show in their counts
abbrev pub IsExact : List Name → Moment → Moment → Status → Type 0
IsExact words before after status = (files : Name → Option Bytes) (o : Outcome) → before.held ≡ Some files → IsDefined words files o
    → Agrees (plan_of words) status o.status ⊎ ((status ≡ Memory)
    ⊎ (((status ≡ ReadFault) × Rose before.read_faults after.read_faults)
    ⊎ ((status ≡ WriteFault) × (Rose before.write_faults after.write_faults ⊎ Rose before.faults after.faults))))

-- a command was requested, all its input files were read, and its answer has this status
pub record IsAnswered (words : List Name) (held : Held) (status : Status) : Type 0 where
  pub plan : Command Name Name
  pub planned : plan_of words ≡ Some plan
  pub outcome : Outcome
  pub answers : Answers held plan outcome
  pub status_is : outcome.status ≡ status

-- a command was requested, and its input files were read up to one of them, for which the call ended with this status
pub record IsStopped (words : List Name) (held : Held) (rose : Type 0) (status : Status) : Type 0 where
  pub plan : Command Name Name
  pub planned : plan_of words ≡ Some plan
  pub outcome : Outcome
  pub stops : StopsAt held rose (inputs_of plan) outcome
  pub status_is : outcome.status ≡ status

-- the causes of a status, by row
pub record IsByTable (words : List Name) (before after : Moment) (status : Status) : Type 0 where
  -- 0, 3, 4, 7 and 8: by the command's answer, or for 3 at a file that is too long
  pub done : status ≡ Done → IsAnswered words before.held Done
  pub malformed : status ≡ Malformed → IsAnswered words before.held Malformed ⊎ IsStopped words before.held (Rose before.read_faults after.read_faults) Malformed
  pub impossible : status ≡ Impossible → IsAnswered words before.held Impossible
  pub spent : status ≡ BudgetSpent → IsAnswered words before.held BudgetSpent
  pub refused : status ≡ No → IsAnswered words before.held No
  -- 2
  pub usage : status ≡ Usage → plan_of words ≡ None
  pub unfit : plan_of words ≡ None → (status ≡ Usage) ⊎ (status ≡ Memory)
  -- 5: the input files before the one that is reported were read
  pub stopped : status ≡ ReadFault → IsStopped words before.held (Rose before.read_faults after.read_faults) ReadFault
  pub read_fault : status ≡ ReadFault → Rose before.read_faults after.read_faults
      ⊎ ((plan : Command Name Name) × (plan_of words ≡ Some plan) × (name : Name) × Contains (inputs_of plan) name × IsMissing before.held name)
  -- 6
  pub write_fault : status ≡ WriteFault → Rose before.write_faults after.write_faults ⊎ Rose before.faults after.faults

-- ---- what is held and what was put, by status

-- a status that an outcome has
abbrev pub is_answer : Status → Bool
is_answer Memory = false
is_answer WriteFault = false
is_answer _ = true

-- an outcome of this status was carried out: all its writes were made and no others, and its report was put
pub record Came (words : List Name) (before after : Moment) (status : Status) : Type 0 where
  pub outcome : Outcome
  pub is_outcome : IsOutcome words before.held (Rose before.read_faults after.read_faults) outcome
  pub status_is : outcome.status ≡ status
  pub held : Wrote before.held outcome.writes after.held
  pub put : IsPut status outcome.report before after
  -- where the report is empty, the sink is as before, since no put was made
  pub no_put : outcome.report ≡ [] → (after.taken ≡ before.taken) × (after.faults ≡ before.faults)

-- the bytes that an outcome writes as bits run a mapping of what was read
abbrev pub WritesRun : List Name → Moment → Outcome → Type 0
WritesRun words before o = (plan : Command Name Name) → plan_of words ≡ Some plan → RunWrites o.writes plan before

-- one of an outcome's writes failed: those before it were made, what is held under its name is left open, and nothing
-- was put
pub record Halted (words : List Name) (before after : Moment) : Type 0 where
  pub outcome : Outcome
  pub is_outcome : IsOutcome words before.held (Rose before.read_faults after.read_faults) outcome
  pub cause : Rose before.write_faults after.write_faults
  pub held : FailedAt before.held outcome.writes after.held
  pub put : after.taken ≡ before.taken
  pub runs : WritesRun words before outcome

-- all writes of an outcome that is Done were made, and a first part of its report was put
pub record Unput (words : List Name) (before after : Moment) : Type 0 where
  pub outcome : Outcome
  pub is_outcome : IsOutcome words before.held (Rose before.read_faults after.read_faults) outcome
  pub was : outcome.status ≡ Done
  pub cause : Rose before.faults after.faults
  pub held : Wrote before.held outcome.writes after.held
  pub put : AppendsSome before.taken outcome.report after.taken
  pub runs : WritesRun words before outcome

-- a first part of an outcome's writes was made
pub record Begun (words : List Name) (before after : Moment) : Type 0 where
  pub outcome : Outcome
  pub is_outcome : IsOutcome words before.held (Rose before.read_faults after.read_faults) outcome
  pub held : WrotePart before.held outcome.writes after.held
  pub runs : WritesRun words before outcome

-- all is held as before, and no write failed
abbrev pub KeepsAll : Moment → Moment → Type 0
KeepsAll before after = Wrote before.held [] after.held × (after.write_faults ≡ before.write_faults)

-- the words name no output file
abbrev pub WritesNothing : Option (Command Name Name) → Type 0
WritesNothing None = Unit {0}
WritesNothing (Some plan) = outputs_of plan ≡ []

-- the effects of a call, by its status
pub record IsEffect (words : List Name) (before after : Moment) (status : Status) : Type 0 where
  -- 0, 2, 3, 4, 5, 7 and 8
  pub came : is_answer status ≡ true → Came words before after status
  -- 6
  pub failed : status ≡ WriteFault → Halted words before after ⊎ Unput words before after
  -- 1
  pub begun : status ≡ Memory → Begun words before after ⊎ (after.held ≡ before.held)
  pub silent : status ≡ Memory → after.taken ≡ before.taken
  -- after 2, 3, 4, 5 and 7 all is held as before, and no write call was made
  pub kept : leaves_all status ≡ true → KeepsAll before after
  -- nor after 8 of a command that judges a mapping
  pub judged : status ≡ No → (plan : Command Name Name) → plan_of words ≡ Some plan → judges plan ≡ true → KeepsAll before after
  -- where the words name no output file all is held as before, however the call ends
  pub nothing_asked : WritesNothing (plan_of words) → Wrote before.held [] after.held

-- where words, files and counts give no cause to refuse, the command ends with Done or memory ran out
abbrev pub IsComplete : List Name → Moment → Moment → Status → Type 0
IsComplete words before after status = (files : Name → Option Bytes) (command : Command File Name)
    → before.held ≡ Some files → plan_of words ≡ Some (names_only command) → All (IsRead (Some files)) (inputs_of command) → Accepts command
    → (Rose before.read_faults after.read_faults → ⊥) → (Rose before.write_faults after.write_faults → ⊥) → (Rose before.faults after.faults → ⊥)
    → (status ≡ Done) ⊎ (status ≡ Memory)

-- where words and files request an interval that a recurrence or an overfull set forbids, and no read fails, the
-- command reports that it is impossible, or memory ran out
abbrev pub IsImpossible : List Name → Moment → Moment → Status → Type 0
IsImpossible words before after status = (files : Name → Option Bytes) (command : Command File Name)
    → before.held ≡ Some files → plan_of words ≡ Some (names_only command) → All (IsRead (Some files)) (inputs_of command) → Forbids command
    → (Rose before.read_faults after.read_faults → ⊥)
    → (status ≡ Impossible) ⊎ (status ≡ Memory)

-- no count decreases
pub record KeepsCounts (before after : Moment) : Type 0 where
  pub reads : before.read_faults ≤ after.read_faults
  pub writes : before.write_faults ≤ after.write_faults
  pub puts : before.faults ≤ after.faults

-- what the command that was requested leaves
abbrev pub IsLeft : List Name → Moment → Moment → Status → Type 0
IsLeft words before after status = (plan : Command Name Name) → plan_of words ≡ Some plan → Leaves plan status before after

-- ---- a call of the program with these words, between these moments, that ends with this status

pub record IsCall (words : List Name) (before after : Moment) (status : Status) : Type 0 where
  pub ends : Ends words before after status
  pub exact : IsExact words before after status
  pub table : IsByTable words before after status
  pub effect : IsEffect words before after status
  pub complete : IsComplete words before after status
  pub impossible : IsImpossible words before after status
  pub counts : KeepsCounts before after
  pub left : IsLeft words before after status

-- ---- the calls of the store

-- the input files were read, each once and in order, possibly only a first part of them
abbrev pub Asks : Option (Command Name Name) → Names → Names → Type 0
Asks None before after = after ≡ before
Asks (Some plan) before after = NotesPart before (inputs_of plan) after

-- the output files were written, each once and in order, possibly only a first part of them
abbrev pub Writes : Option (Command Name Name) → Names → Names → Type 0
Writes None before after = after ≡ before
Writes (Some plan) before after = NotesPart before (outputs_of plan) after

-- an outcome was carried out, and each of its files was written, once and in order: none is left out because its bytes
-- are held already
pub record WritesAll (words : List Name) (before after : Moment) (status : Status) (wrote_before wrote_after : Names) : Type 0 where
  pub came : Came words before after status
  pub all : NotesAll wrote_before (names_of came.outcome.writes) wrote_after

-- no other file was read or written, none more often than the words name it, and none at all where the words form no
-- command
pub record MakesCalls (words : List Name) (before after : Moment) (status : Status) (asked_before asked_after wrote_before wrote_after : Names) : Type 0 where
  pub asks : Asks (plan_of words) asked_before asked_after
  pub writes : Writes (plan_of words) wrote_before wrote_after
  -- at 0, 2, 3, 4, 5, 7 and 8 all files of the outcome were written
  pub all : is_answer status ≡ true → WritesAll words before after status wrote_before wrote_after
  -- at 2, 3, 4, 5 and 7 no write was asked for
  pub none : leaves_all status ≡ true → wrote_after ≡ wrote_before
  -- nor at 8 of a command that judges a mapping
  pub judged : status ≡ No → (plan : Command Name Name) → plan_of words ≡ Some plan → judges plan ≡ true → wrote_after ≡ wrote_before
