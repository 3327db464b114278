use Rattle.std.proofs.Common.{◌≡◌, ◌++◌, drop, map}
use Rattle.cg_model.specs.Mapping.{end_of, ends_from}
use Rattle.cg_search_respond.proofs.mapping.routes_of.Given as goal

abbrev pub invariant-loop-node : goal.invariant-loop-node
invariant-loop-node l = map end_of l.listing.routes.items ++ ends_from l.node (drop l.node l.nodes) ≡ ends_from 0 l.nodes
