use Rattle.std.proofs.Common.{◌<◌, length, List, ap, arith}
use Rattle.std.proofs.lemmas.Option.{slice_get-get_or}
use Rattle.cg_model.specs.declared.kernel.Node.{Node}
use Rattle.cg_model.specs.Kernel.{no_node, node, size}
use Rattle.cg_recur.proofs.Listed.{operands_count}
use Rattle.cg_model.proofs.Mappings.{operands_few}
use Rattle.cg_search_respond.proofs.mapping.routes_of.Goals as goal

pub add_routes-requires : goal.add_routes-requires
add_routes-requires c =
    let K = c.args.kernel.now in
    let v = c.loop-node.node in
    let all = c.nodes-nodes.ensures.nodes in
    let known : v < size K = omega (arith, ap (λ (xs : List Node). length xs) all) in
    let here = operands_count K c.index-nodes-node.result c.nodes-nodes.result.now c.as_slice-operands.result.now v all known c.index-nodes-node.is c.as_slice-operands.ensures in
    let few = operands_few K c.nodes-nodes.ensures.valid v (node K v) (slice_get-get_or K.nodes v no_node known) in
    omega (arith, here, few)
