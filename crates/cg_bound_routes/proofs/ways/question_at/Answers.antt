use Rattle.std.proofs.Common.{◌≡◌, length, refl, sym, ap, ◌∙◌, arith}
use Rattle.cg_model.specs.Kernel.{Kernel, IsKernel, size}
use Rattle.cg_bound_routes.proofs.Rows.{node_read, operands_read, operand_read, constant_no_edge}
use Rattle.cg_bound_routes.proofs.ways.question_at.Goals as goal

pub bounds-operands-arg : goal.bounds-operands-arg
bounds-operands-arg c =
    let K : Kernel = c.args.kernel.now in
    let read = node_read K c.nodes-nodes.result.now c.args.node c.index-nodes-node.result c.nodes-nodes.ensures.nodes c.requires.node c.index-nodes-node.is in
    let e = ap length (operands_read K c.args.node c.index-nodes-node.result c.as_slice-operands.result.now read c.as_slice-operands.ensures) in
    let l = c.requires.arg in
    omega arith

pub returns-in-Const-clause-none : goal.returns-in-Const-clause-none
returns-in-Const-clause-none c =
    let K : Kernel = c.args.kernel.now in
    let read = node_read K c.nodes-nodes.result.now c.args.node c.index-nodes-node.result c.nodes-nodes.ensures.nodes c.requires.node c.index-nodes-node.is in
    let all = operands_read K c.args.node c.index-nodes-node.result c.as_slice-operands.result.now read c.as_slice-operands.ensures in
    let e = ap length all in
    let l = c.requires.arg in
    constant_no_edge K c.args.node c.args.arg _ (operand_read K c.args.node c.args.arg c.as_slice-operands.result.now c.index-operands-arg.result _ all (omega arith) c.index-operands-arg.is c.in-Const.is)

pub bounds-nodes-source : goal.bounds-nodes-source
bounds-nodes-source c =
    let K : Kernel = c.args.kernel.now in
    let good : IsKernel K = c.nodes-nodes.ensures.valid in
    let read = node_read K c.nodes-nodes.result.now c.args.node c.index-nodes-node.result c.nodes-nodes.ensures.nodes c.requires.node c.index-nodes-node.is in
    let all = operands_read K c.args.node c.index-nodes-node.result c.as_slice-operands.result.now read c.as_slice-operands.ensures in
    let e = ap length all in
    let l = c.requires.arg in
    let has = operand_read K c.args.node c.args.arg c.as_slice-operands.result.now c.index-operands-arg.result _ all (omega arith) c.index-operands-arg.is c.in-Edge.is in
    let known = good.wired.sources c.args.node c.args.arg c.in-Edge.from c.in-Edge.distance c.in-Edge.init c.requires.node has in
    let long : length c.nodes-nodes.result.now ≡ size K = ap length c.nodes-nodes.ensures.nodes in
    omega arith

pub returns-in-Edge-clause-edge : goal.returns-in-Edge-clause-edge
returns-in-Edge-clause-edge c =
    let K : Kernel = c.args.kernel.now in
    let good : IsKernel K = c.nodes-nodes.ensures.valid in
    let read = node_read K c.nodes-nodes.result.now c.args.node c.index-nodes-node.result c.nodes-nodes.ensures.nodes c.requires.node c.index-nodes-node.is in
    let all = operands_read K c.args.node c.index-nodes-node.result c.as_slice-operands.result.now read c.as_slice-operands.ensures in
    let e = ap length all in
    let l = c.requires.arg in
    let has = operand_read K c.args.node c.args.arg c.as_slice-operands.result.now c.index-operands-arg.result _ all (omega arith) c.index-operands-arg.is c.in-Edge.is in
    let known = good.wired.sources c.args.node c.args.arg c.in-Edge.from c.in-Edge.distance c.in-Edge.init c.requires.node has in
    let source = node_read K c.nodes-nodes.result.now c.in-Edge.from c.index-nodes-source.result c.nodes-nodes.ensures.nodes known c.index-nodes-source.is in
    record {
      source = c.in-Edge.from;
      distance = c.in-Edge.distance;
      init = c.in-Edge.init;
      operand = has;
      from = ap (λ z. z.op) (sym c.index-nodes-source.is ∙ source);
      to = ap (λ z. z.op) read;
      arg = refl;
      ends = c.ends_at.ensures;
    }
