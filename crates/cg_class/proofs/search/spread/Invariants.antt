use Rattle.cg_class.proofs.Moves.{IsStage}
use Rattle.cg_class.proofs.search.spread.Given as goal

abbrev pub invariant-loop-target : goal.invariant-loop-target
invariant-loop-target l = IsStage l.placed.nodes.now l.placed.units.now l.placed.places.now l.initial.log.items l.initial.seen l.node l.log.items l.seen l.target
