-- Access to the fields of a unit, part by part.
use Rattle.std.specs.Prelude.{ℕ, nat_lt, if◌then◌else◌, Option, Some, None, slice_index}
use Rattle.cg_model.specs.declared.config.UnitFields.{UnitFields}
use Rattle.cg_model.specs.Config.{arg}
use Rattle.cg_config.specs.declared.head.UnitHead.{UnitHead}

-- what the unit begins, without its arguments
abbrev pub head_of : UnitFields → UnitHead
head_of f = record { op = f.op; stage = f.stage; port = f.port }

-- the word that the fields have for argument p in a turn: the immediate where its mode bit is set, else the initial
-- word with the turn's number where that number is below the count; where they have none, the argument is the word on
-- its port
abbrev pub told : UnitFields → ℕ → ℕ → Option ℕ
told f p turn =
    if (arg f p).fixed
    then Some f.immediate
    else if nat_lt turn (arg f p).count then Some (slice_index (arg f p).init turn) else None
