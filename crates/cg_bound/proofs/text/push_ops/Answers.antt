use Rattle.std.proofs.Common.{◌∙◌, ◌++◌, ap, sym, append_assoc, take, flat_map, get_or}
use Rattle.cg_word.specs.declared.op.Op.TheVariants.{Const}
use Rattle.cg_word.specs.Word.{all_ops}
use Rattle.cg_flat.specs.Text.{op_word}
use Rattle.cg_flat.proofs.Lists.{flat_map-more}
use Rattle.cg_bound.proofs.text.push_ops.Goals as goal

pub loop-op-preserved : goal.loop-op-preserved
loop-op-preserved c =
    let word = op_word c.args.set (get_or all_ops c.loop-op.op-index Const) in
    c.in_ok-push_op.ensures
    ∙ ap (λ t. t ++ word) c.loop-op.invariant
    ∙ append_assoc c.args.text.now.items (flat_map (op_word c.args.set) (take c.loop-op.op-index all_ops)) word
    ∙ ap (λ w. c.args.text.now.items ++ w) (sym (flat_map-more (op_word c.args.set) all_ops c.loop-op.op-index Const c.loop-op-test.true))
