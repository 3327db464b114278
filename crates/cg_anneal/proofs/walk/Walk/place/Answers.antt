use Rattle.cg_anneal.proofs.walk.Walk.place.Goals as goal
use Rattle.cg_anneal.proofs.Keeping as keeping
use Rattle.std.proofs.Common.{subst, sym}
use Rattle.cg_place.specs.declared.moves.Move.{Move}
use Rattle.cg_place.specs.Placed.{Placed, moved}
use Rattle.cg_anneal.specs.Walking.{Walking, IsKept, MayPlace, IsAlone}

pub apply-requires : goal.apply-requires
apply-requires c =
    let g = c.self.inside in
    let may : MayPlace _ c.args.change = subst (λ (V : Walking). MayPlace V c.args.change) (sym c.self.view_is) c.requires.may in
    keeping.may_stand _ g.graph.now g.edges.items g.placement g.usage g.missing c.self.invariant c.args.change may

pub invariant_of-self : goal.invariant_of-self
invariant_of-self c =
    let g = c.self.inside in
    let may = subst (λ (V : Walking). MayPlace V c.args.change) (sym c.self.view_is) c.requires.may in
    let alone = subst (λ (V : Walking). IsAlone V c.args.change.node) (sym c.self.view_is) c.requires.alone in
    subst (λ (Q : Placed). IsKept (record { arch = g.arch.now; kernel = g.kernel.now; ii = g.ii; early = Q.early; state = record { places = Q.places; routes = g.routes.items; history = g.usage.history } }) g.graph.now g.edges.items Q g.usage g.missing)
    (sym c.apply.ensures.new)
    (keeping.kept_placed _ g.graph.now g.edges.items g.placement g.usage g.missing c.self.invariant c.args.change may alone)

pub returns-clause-may : goal.returns-clause-may
returns-clause-may c =
    let g = c.self.inside in
    let may = subst (λ (V : Walking). MayPlace V c.args.change) (sym c.self.view_is) c.requires.may in
    let alone = subst (λ (V : Walking). IsAlone V c.args.change.node) (sym c.self.view_is) c.requires.alone in
    subst (λ (Q : Placed). MayPlace (record { arch = g.arch.now; kernel = g.kernel.now; ii = g.ii; early = Q.early; state = record { places = Q.places; routes = g.routes.items; history = g.usage.history } }) c.apply.result)
    (sym c.apply.ensures.new)
    (subst (λ (m : Move). MayPlace (record { arch = g.arch.now; kernel = g.kernel.now; ii = g.ii; early = g.placement.early; state = record { places = moved g.placement.places c.args.change; routes = g.routes.items; history = g.usage.history } }) m) (sym c.apply.ensures.back)
    (keeping.may_back _ g.graph.now g.edges.items g.placement g.usage g.missing c.self.invariant c.args.change may alone))
