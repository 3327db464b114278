use Rattle.std.proofs.Common.{◌≤◌}
use Rattle.cg_origins.specs.Walk.{Reaches}
use Rattle.cg_origins.proofs.linking.source_of.Given as goal

abbrev pub invariant-loop-links : goal.invariant-loop-links
invariant-loop-links g l = record {
  reaches : Reaches l.arch (g.C.Contexts.config l.contexts) l.slot l.resource l.here;
  links : l.links ≤ l.initial.links;
}

abbrev pub decreases-loop-links : goal.decreases-loop-links
decreases-loop-links g l = l.links
