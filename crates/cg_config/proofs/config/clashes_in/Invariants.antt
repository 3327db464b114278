use Rattle.std.proofs.Common.{◌≡◌, ℕ, ◌<◌, false, get_or}
use Rattle.cg_model.specs.Config.{off}
use Rattle.cg_model.specs.Canonical.{clash}
use Rattle.cg_config.proofs.config.clashes_in.Given as goal

abbrev pub invariant-loop-x : goal.invariant-loop-x
invariant-loop-x l = (y : ℕ) → y < l.x → clash (get_or l.row y off) l.fields ≡ false
