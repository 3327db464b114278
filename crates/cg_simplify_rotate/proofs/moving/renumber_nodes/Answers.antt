use Rattle.std.proofs.Common.{◌<◌, ap, sym, ◌∙◌, arith, length}
use Rattle.std.specs.Prelude.{slice_set}
use Rattle.std.proofs.lemmas.List.Edits.{map_over_more}
use Rattle.cg_model.specs.declared.kernel.Node.{Node}
use Rattle.cg_simplify_rotate.specs.Moving.{moved_node}
use Rattle.cg_simplify_rotate.proofs.moving.renumber_nodes.Goals as goal

pub loop-number-preserved : goal.loop-number-preserved
loop-number-preserved c =
    let inside : c.loop-number.number < length c.args.nodes.now = omega arith in
    ap (λ (x : Node). slice_set c.loop-number.nodes c.loop-number.number x) (c.renumber.ensures ∙ ap (moved_node c.args.u c.args.v) (sym c.index-nodes-number.is))
    ∙ map_over_more (moved_node c.args.u c.args.v) c.args.nodes.now c.loop-number.nodes c.loop-number.number c.index-nodes-number.result inside c.loop-number.invariant c.index-nodes-number.is
