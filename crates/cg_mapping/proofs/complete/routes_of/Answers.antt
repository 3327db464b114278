use Rattle.std.proofs.Common.{◌∙◌, ap, map}
use Rattle.cg_mapping.specs.Ends.{as_end}
use Rattle.cg_mapping.proofs.EdgeOperands.{ends_within}
use Rattle.cg_mapping.proofs.complete.routes_of.Goals as goal

pub each_route-requires-clause-within : goal.each_route-requires-clause-within
each_route-requires-clause-within c =
    ends_within c.args.kernel.now c.nodes-nodes.ensures.valid _ _ c.nodes-nodes.ensures.nodes (ap (map as_end) c.deref-2.ensures.value ∙ c.in_ok-ends.ensures)
