use Rattle.std.proofs.Common.{◌≡◌, ◌++◌, drop, map}
use Rattle.cg_model.specs.Mapping.{end_of, ends_of}
use Rattle.cg_search_respond.proofs.mapping.Listing.add_routes.Given as goal

abbrev pub invariant-loop-arg : goal.invariant-loop-arg
invariant-loop-arg l = map end_of l.self.routes.items ++ ends_of l.node l.arg (drop l.arg l.operands) ≡ map end_of l.fn.self.routes.items ++ ends_of l.node 0 l.operands
