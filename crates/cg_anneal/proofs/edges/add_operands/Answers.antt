use Rattle.std.proofs.Common.{◌∙◌, ◌++◌, take, sym, ap}
use Rattle.std.proofs.lemmas.List.{append_assoc}
use Rattle.cg_model.specs.declared.kernel.Operand.{Operand}
use Rattle.cg_walk_spec.specs.State.{edges_among}
use Rattle.cg_anneal.specs.Edges.{operand_edge}
use Rattle.cg_anneal.proofs.Operands.{among_more}
use Rattle.cg_anneal.proofs.edges.add_operands.Goals as goal

pub loop-arg-preserved : goal.loop-arg-preserved
loop-arg-preserved c =
    let v = c.args.node in
    let os = c.args.operands.now in
    let k = c.loop-arg.arg in
    let o : Operand = c.index-operands-arg.result in
    let base = c.args.edges.now.items in
    let before = edges_among v 0 (take k os) in
    c.in_ok-add_operand.ensures ∙ ap (λ xs. xs ++ operand_edge v k o) c.loop-arg.invariant ∙ append_assoc base before (operand_edge v k o)
    ∙ ap (λ xs. base ++ xs) (ap (λ (x : Operand). before ++ operand_edge v k x) c.index-operands-arg.is ∙ sym (among_more v os k o c.loop-arg-test.true))
