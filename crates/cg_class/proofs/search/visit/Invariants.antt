use Rattle.cg_class.specs.Search.{IsVisit}
use Rattle.cg_class.proofs.search.visit.Given as goal

abbrev pub invariant-loop-other : goal.invariant-loop-other
invariant-loop-other l = IsVisit l.placed.nodes.now l.placed.units.now l.placed.ii l.placed.places.now l.log.items l.seen l.done l.number l.unit l.other
