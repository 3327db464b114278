use Rattle.std.proofs.Common.{List, length, Some, ap, ◌∙◌, arith}
use Rattle.cg_model.specs.declared.kernel.Node.{Node}
use Rattle.cg_model.specs.Kernel.{Kernel, node}
use Rattle.cg_emit.proofs.Placed.{node_read}
use Rattle.cg_emit.proofs.Routes.{routed, source_is, no_constant, arg_within, operand_read}
use Rattle.cg_emit.proofs.selects.source_of.Goals as goal

pub bounds-nodes-route : goal.bounds-nodes-route
bounds-nodes-route c =
    let r = routed c.args.legal.now.kernel c.args.legal.now.mapping c.mapping-mapping.ensures.legal.shape c.args.route.now c.requires in
    let within = r.within in
    let long = ap (λ (z : List Node). length z) (c.nodes.ensures.nodes ∙ ap (λ (k : Kernel). k.nodes) c.kernel.ensures) in
    omega arith

pub bounds-as_slice-route : goal.bounds-as_slice-route
bounds-as_slice-route c =
    let K = c.args.legal.now.kernel in
    let r = routed K c.args.legal.now.mapping c.mapping-mapping.ensures.legal.shape c.args.route.now c.requires in
    let read = node_read K c.nodes.result.now c.args.route.now.node c.index-nodes-route.result c.index-nodes-route.is (c.nodes.ensures.nodes ∙ ap (λ (k : Kernel). k.nodes) c.kernel.ensures) r.within in
    let long = ap length (c.as_slice.ensures ∙ ap (λ (n : Node). n.operands) read) in
    let within = arg_within (node K c.args.route.now.node).operands c.args.route.now.arg r.edge in
    omega arith

pub unreachable-requires : goal.unreachable-requires
unreachable-requires c =
    let K = c.args.legal.now.kernel in
    let r = routed K c.args.legal.now.mapping c.mapping-mapping.ensures.legal.shape c.args.route.now c.requires in
    let read = node_read K c.nodes.result.now c.args.route.now.node c.index-nodes-route.result c.index-nodes-route.is (c.nodes.ensures.nodes ∙ ap (λ (k : Kernel). k.nodes) c.kernel.ensures) r.within in
    let same = c.as_slice.ensures ∙ ap (λ (n : Node). n.operands) read in
    let within = arg_within (node K c.args.route.now.node).operands c.args.route.now.arg r.edge in
    no_constant K c.args.route.now c.in-Const.field-0 r
    (operand_read c.as_slice.result.now (node K c.args.route.now.node).operands c.args.route.now.arg c.index-as_slice-route.result c.index-as_slice-route.is same within ∙ ap Some c.in-Const.is)

pub returns-clause-source : goal.returns-clause-source
returns-clause-source c =
    let K = c.args.legal.now.kernel in
    let r = routed K c.args.legal.now.mapping c.mapping-mapping.ensures.legal.shape c.args.route.now c.requires in
    let read = node_read K c.nodes.result.now c.args.route.now.node c.index-nodes-route.result c.index-nodes-route.is (c.nodes.ensures.nodes ∙ ap (λ (k : Kernel). k.nodes) c.kernel.ensures) r.within in
    let same = c.as_slice.ensures ∙ ap (λ (n : Node). n.operands) read in
    let within = arg_within (node K c.args.route.now.node).operands c.args.route.now.arg r.edge in
    source_is K c.args.route.now c.index-as_slice-route.result c.in-Edge.from c.in-Edge.distance c.in-Edge.init r.within
    (operand_read c.as_slice.result.now (node K c.args.route.now.node).operands c.args.route.now.arg c.index-as_slice-route.result c.index-as_slice-route.is same within) c.in-Edge.is
