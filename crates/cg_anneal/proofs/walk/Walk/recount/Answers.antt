use Rattle.std.proofs.Common.{◌∙◌}
use Rattle.cg_anneal.proofs.Anew.{cost_anew}
use Rattle.cg_anneal.proofs.walk.Walk.recount.Goals as goal

pub returns : goal.returns
returns c =
    let p = c.in_ok-placement.ensures in
    cost_anew c.args.self.now c.in_ok-placement.placement c.missing_anew.result c.from.result c.from-2.result c.excess.result p.arch p.kernel p.interval p.places
    c.missing_anew.ensures.value (c.from.ensures ∙ c.order_violations.ensures.value) (c.from-2.ensures ∙ c.unit_excess.ensures.value) (c.excess.ensures ∙ c.in_ok-usage.ensures.excess)
