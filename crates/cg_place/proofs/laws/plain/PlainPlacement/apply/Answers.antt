use Rattle.std.proofs.Common.{sym, subst}
use Rattle.cg_place.specs.Placed.{Placed, IsMove}
use Rattle.cg_place.proofs.Keeping.{placement_after}
use Rattle.cg_place.proofs.laws.plain.PlainPlacement.apply.Goals as goal

pub invariant_of-self : goal.invariant_of-self
invariant_of-self c =
    let g = c.self.inside in
    let P : Placed = record { arch = g.arch.now; kernel = g.kernel.now; ii = g.ii; early = g.early.items; places = g.places.items } in
    placement_after P c.args.change c.self.invariant (subst (λ (z : Placed). IsMove z c.args.change) (sym c.self.view_is) c.requires)

pub returns-clause-valid : goal.returns-clause-valid
returns-clause-valid c =
    let g = c.self.inside in
    let P : Placed = record { arch = g.arch.now; kernel = g.kernel.now; ii = g.ii; early = g.early.items; places = g.places.items } in
    placement_after P c.args.change c.self.invariant (subst (λ (z : Placed). IsMove z c.args.change) (sym c.self.view_is) c.requires)
