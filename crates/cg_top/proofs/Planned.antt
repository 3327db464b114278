-- What a planned command answers.
use Rattle.std.proofs.Common.{◌≡◌, List, All, Option, Some, None, Result, Ok, Err, sym, subst, inl, inr}
use Rattle.std.specs.Prelude.{IfOk}
use Rattle.cg_files.specs.Held.{Held}
use Rattle.cg_files.specs.Causes.{Rose}
use Rattle.cg_effects.specs.declared.outcome.Status.{Status}
use Rattle.cg_effects.specs.Ends.{Moment}
use Rattle.cg_effects.specs.Outcome.{Name, File, Outcome}
use Rattle.cg_effects.specs.Reads.{IsRead, AreRead, HoldsBytes}
use Rattle.cg_command.specs.declared.command.Command.{Command}
use Rattle.cg_command.specs.Command.{inputs_of}
use Rattle.cg_command.specs.Files.{names_only}
use Rattle.cg_command.specs.Words.{plan_of}
use Rattle.cg_commands.specs.Commands.{IsAnswer}
use Rattle.cg_top.specs.TopCall.{IsPlanned, IsPlannedBytes, IsOutcome, CarriedOut}

-- that files are bytes may be left away
pub planned : (held : Held) (rose : Type 0) (plan : Option (Command Name Name)) (o : Outcome) → IsPlannedBytes held rose plan o → IsPlanned held rose plan o
planned held rose None o is = is
planned held rose (Some plan) o (inl a) = inl a.answers
planned held rose (Some plan) o (inr s) = inr s

pub is_outcome : (words : List Name) (before after : Moment) (status : Status) (c : CarriedOut words before after status) → IsOutcome words before.held (Rose before.read_faults after.read_faults) c.outcome
is_outcome words before after status c = planned before.held (Rose before.read_faults after.read_faults) (plan_of words) c.outcome c.planned

-- what the command with the files that were read answers, the plan defines
pub answered : (held : Held) (rose : Type 0) (plan : Command Name Name) (files : List File) (command : Command File Name) (o : Outcome)
    → AreRead held (inputs_of plan) files → All HoldsBytes files → inputs_of command ≡ files → names_only command ≡ plan → IsAnswer command o
    → IsPlannedBytes held rose (Some plan) o
answered held rose plan files command o read bytes inputs named answer = inl (record {
  answers = record { command = command; named = named; read = subst (All (IsRead held)) (sym inputs) read.each; answer = answer };
  bytes = subst (All HoldsBytes) (sym inputs) bytes;
})

-- where each value that is P is Q
pub if_ok_weaker : {X E : Type 0} (P Q : X → Type 0) (r : Result X E) → ((x : X) → P x → Q x) → IfOk r P → IfOk r Q
if_ok_weaker P Q (Ok x) w h = w x h
if_ok_weaker P Q (Err e) w h = tt
