use Rattle.std.proofs.Common.{◌∙◌, ◌++◌, ◌∷◌, [], cond, sym, ap}
use Rattle.cg_anneal.specs.Edges.{touches_in}
use Rattle.cg_anneal.proofs.Operands.{passed_more}
use Rattle.cg_anneal.proofs.edges.touching.Goals as goal

pub loop-i-preserved : goal.loop-i-preserved
loop-i-preserved c =
    c.in_ok-add_if.ensures ∙ ap (λ xs. xs ++ cond c.touches-wanted.result (c.loop-i.i ∷ []) []) c.loop-i.invariant
    ∙ sym (passed_more (touches_in c.args.edges.now c.args.node) c.loop-i.i c.touches-wanted.result c.touches-wanted.ensures)
