use Rattle.std.proofs.Common.{◌∙◌, ap}
use Rattle.cg_model.specs.declared.kernel.Operand.TheVariants.{Edge}
use Rattle.cg_simplify.specs.Guards.{IsEqNode, IsEqOf}
use Rattle.cg_simplify.proofs.Throughs.{if_some}
use Rattle.cg_simplify.proofs.guards.selected_by.Goals as goal

pub returns-then-distance-eq0 : goal.returns-then-distance-eq0
returns-then-distance-eq0 c =
    let D = c.args.draft.now in
    let ts = c.args.tops.now in
    if_some c.eq_with_zero.result (λ x. IsEqNode ts D c.in-Edge.from x.now) (λ x. IsEqOf ts D c.args.operand.now x.now)
    (λ x e. record {
      from = c.in-Edge.from;
      init = c.in-Edge.init;
      is = c.in-Edge.is ∙ ap (λ d. Edge c.in-Edge.from d c.in-Edge.init) c.if-distance-eq0.true;
      node = e;
    }) c.eq_with_zero.ensures
