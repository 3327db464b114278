use Rattle.std.proofs.Common.{List, length, replicate, true, ap, sym, ◌∙◌, subst}
use Rattle.cg_model.specs.declared.kernel.Node.{Node}
use Rattle.cg_simplify.specs.Live.{AreMarked}
use Rattle.cg_simplify.proofs.Marked.{all_marked}
use Rattle.cg_simplify.proofs.live.all.Goals as goal

pub returns : goal.returns
returns c =
    subst (AreMarked c.args.kernel.now) (sym (c.in_ok-marks.ensures.items_if_clones_equal (λ y e. e) ∙ ap (λ (xs : List Node). replicate (length xs) true) c.nodes.ensures.nodes)) (all_marked c.args.kernel.now c.nodes.ensures.valid)
