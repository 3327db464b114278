use Rattle.std.proofs.Common.{◌∙◌, ap}
use Rattle.cg_place.specs.Placed.{Placed}
use Rattle.cg_place.specs.Counts.{unit_excess}
use Rattle.cg_place.proofs.Excess.{table_excess}
use Rattle.cg_place.proofs.placement.Placement.unit_excess.Goals as goal

pub returns-clause-value : goal.returns-clause-value
returns-clause-value c =
    let g = c.self.inside in
    c.excess.ensures ∙ table_excess g.arch.now g.ii g.places.items g.table c.self.invariant.table ∙ ap (λ (z : Placed). unit_excess z.arch z.ii z.places) c.self.view_is
