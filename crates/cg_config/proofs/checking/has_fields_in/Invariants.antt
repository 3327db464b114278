use Rattle.std.proofs.Common.{ℕ, ◌<◌}
use Rattle.cg_model.specs.Array.{unit}
use Rattle.cg_model.specs.Config.{fields}
use Rattle.cg_model.specs.Canonical.{AreFields}
use Rattle.cg_config.proofs.checking.has_fields_in.Given as goal

abbrev pub invariant-loop-x : goal.invariant-loop-x
invariant-loop-x l = (y : ℕ) → y < l.x → AreFields (unit l.arch y).ops (fields l.config y l.slot)
