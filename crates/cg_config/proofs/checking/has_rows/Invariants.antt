use Rattle.std.proofs.Common.{ℕ, ◌<◌}
use Rattle.cg_config.specs.Parts.{HasRow}
use Rattle.cg_config.proofs.checking.has_rows.Given as goal

abbrev pub invariant-loop-slot : goal.invariant-loop-slot
invariant-loop-slot l = (s : ℕ) → s < l.slot → HasRow l.arch l.config s
