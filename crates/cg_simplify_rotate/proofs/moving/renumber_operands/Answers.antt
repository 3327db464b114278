use Rattle.std.proofs.Common.{◌<◌, ap, sym, ◌∙◌, arith, length}
use Rattle.std.specs.Prelude.{slice_set}
use Rattle.std.proofs.lemmas.List.Edits.{map_over_more}
use Rattle.cg_model.specs.declared.kernel.Operand.{Operand}
use Rattle.cg_simplify_rotate.specs.Moving.{moved}
use Rattle.cg_simplify_rotate.proofs.moving.renumber_operands.Goals as goal

pub loop-place-preserved : goal.loop-place-preserved
loop-place-preserved c =
    let inside : c.loop-place.place < length c.args.operands.now = omega arith in
    ap (λ (x : Operand). slice_set c.loop-place.operands c.loop-place.place x) (c.renumber_one.ensures ∙ ap (moved c.args.u c.args.v) (sym c.index-operands-place.is))
    ∙ map_over_more (moved c.args.u c.args.v) c.args.operands.now c.loop-place.operands c.loop-place.place c.index-operands-place.result inside c.loop-place.invariant c.index-operands-place.is
