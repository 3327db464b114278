use Rattle.std.proofs.Common.{◌≡◌, true}
use Rattle.cg_depend.specs.Affine.{suits}
use Rattle.cg_depend.proofs.table.suits.Given as goal

abbrev pub invariant-loop-turn : goal.invariant-loop-turn
invariant-loop-turn l = suits l.pair l.distance l.init l.turn ≡ true
