-- For all words and all told files an outcome is defined.
use Rattle.std.proofs.Common.{◌≡◌, List, Option, Some, None, inl, inr, refl}
use Rattle.cg_effects.specs.Outcome.{Name, Bytes, Outcome}
use Rattle.cg_effects.proofs.Told.{EndsReading, ends_reading}
use Rattle.cg_command.specs.declared.command.Command.{Command}
use Rattle.cg_command.specs.Command.{inputs_of, IsRanged}
use Rattle.cg_command.specs.Words.{plan_of}
use Rattle.cg_command.proofs.Maps.{map_ranged}
use Rattle.cg_command.proofs.Ranged.{plan_ranged}
use Rattle.cg_effects.specs.Refusals.{usage_outcome}
use Rattle.cg_commands.proofs.Defined.{some_outcome}
use Rattle.cg_top.proofs.Contents.{held_file, contents, same_names, contents_read}
use Rattle.cg_top.specs.TopCall.{IsPlanned, IsDefined}

-- of a plan, whatever comes of reading its input files
from_reading : (files : Name → Option Bytes) (plan : Command Name Name) → IsRanged plan → EndsReading files (inputs_of plan) → (o : Outcome) × IsPlanned (Some files) ⊥ (Some plan) o
from_reading files plan range (inl (read, are)) =
    let a = some_outcome (contents files plan) (map_ranged (held_file files) (λ (name : Name). name) plan range) in
    (a.0, inl (record { command = contents files plan; named = same_names files plan; read = contents_read files plan read are; answer = a.1 }))
from_reading files plan range (inr (o, stop)) = (o, inr stop)

from_plan : (words : List Name) (files : Name → Option Bytes) (o : Option (Command Name Name)) → plan_of words ≡ o → (outcome : Outcome) × IsPlanned (Some files) ⊥ o outcome
from_plan words files None e = (usage_outcome, refl)
from_plan words files (Some plan) e = from_reading files plan (plan_ranged words plan e) (ends_reading files (inputs_of plan))

pub always : (words : List Name) (files : Name → Option Bytes) → (o : Outcome) × IsDefined words files o
always words files = from_plan words files (plan_of words) refl
