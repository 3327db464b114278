use Rattle.std.proofs.Common.{ℕ, ◌<◌}
use Rattle.cg_config.specs.Parts.{HasFields}
use Rattle.cg_config.proofs.checking.has_fields.Given as goal

abbrev pub invariant-loop-slot : goal.invariant-loop-slot
invariant-loop-slot l = (s : ℕ) → s < l.slot → HasFields l.arch l.config s
