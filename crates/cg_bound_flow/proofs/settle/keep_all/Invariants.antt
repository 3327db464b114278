use Rattle.std.proofs.Common.{length}
use Rattle.cg_bound_flow.specs.Route.{IsSettling}
use Rattle.cg_bound_flow.proofs.settle.keep_all.Given as goal

abbrev pub invariant-loop-k : goal.invariant-loop-k
invariant-loop-k l = IsSettling l.network.links.now l.flow (length l.initial.potentials.items) l.k l.potentials.items
