use Rattle.std.proofs.Common.{◌≡◌, ℕ, ◌<◌, false, [], length, get_or}
use Rattle.cg_model.specs.Config.{off}
use Rattle.cg_model.specs.Canonical.{clash}
use Rattle.cg_config.proofs.config.Config.clashes.Given as goal

abbrev pub invariant-loop-slot : goal.invariant-loop-slot
invariant-loop-slot l = (s x : ℕ) → s < l.slot → x < length (get_or l.self.units s []) → clash (get_or (get_or l.self.units s []) x off) l.fields ≡ false
