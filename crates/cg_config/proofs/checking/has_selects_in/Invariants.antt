use Rattle.std.proofs.Common.{ℕ, ◌<◌, ◌≤◌, length}
use Rattle.cg_model.specs.Array.{resource}
use Rattle.cg_model.specs.Config.{select}
use Rattle.cg_config.proofs.checking.has_selects_in.Given as goal

abbrev pub invariant-loop-r : goal.invariant-loop-r
invariant-loop-r l = (q : ℕ) → q < l.r → select l.config q l.slot ≤ length (resource l.arch q).drivers
