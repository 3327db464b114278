use Rattle.std.proofs.Common.{◌∙◌, length, sym, ap}
use Rattle.cg_congestion.specs.Table as tables
use Rattle.cg_congestion.proofs.Counts.{excess_is}
use Rattle.cg_congestion.proofs.usage.Usage.excess.Goals as goal

pub returns : goal.returns
returns c =
    let g = c.self.inside in
    let kept = c.self.invariant in
    kept.sum ∙ sym (excess_is g.interval (length g.arch.now.resources) kept.some g.nodes.items kept.each kept.lists) ∙ ap tables.excess c.self.view_is
