use Rattle.std.proofs.Common.{ℕ, List, sym, subst}
use Rattle.cg_model.specs.declared.mapping.Place.{Place}
use Rattle.cg_place.specs.Placed.{IsPlacement}
use Rattle.cg_place.proofs.Starting.{first_placement}
use Rattle.cg_place.proofs.laws.plain.PlainPlacement.start.Goals as goal

pub invariant_of-result : goal.invariant_of-result
invariant_of-result c =
    let A = c.args.arch.now in
    let K = c.args.kernel.now in
    let early = c.args.early.now in
    subst (λ (z : List ℕ). IsPlacement (record { arch = A; kernel = K; ii = c.args.ii; early = z; places = c.in_ok-first_places.field-0.items })) (sym c.in_ok-from_slice.ensures.items)
    (subst (λ (z : List Place). IsPlacement (record { arch = A; kernel = K; ii = c.args.ii; early = early; places = z })) (sym c.in_ok-first_places.ensures.value)
    (first_placement A K c.args.ii early c.first_places.ensures.valid c.requires.some c.requires.few c.requires.offered c.requires.early))

pub returns-clause-valid : goal.returns-clause-valid
returns-clause-valid c =
    let A = c.args.arch.now in
    let K = c.args.kernel.now in
    let early = c.args.early.now in
    subst (λ (z : List ℕ). IsPlacement (record { arch = A; kernel = K; ii = c.args.ii; early = z; places = c.in_ok-first_places.field-0.items })) (sym c.in_ok-from_slice.ensures.items)
    (subst (λ (z : List Place). IsPlacement (record { arch = A; kernel = K; ii = c.args.ii; early = early; places = z })) (sym c.in_ok-first_places.ensures.value)
    (first_placement A K c.args.ii early c.first_places.ensures.valid c.requires.some c.requires.few c.requires.offered c.requires.early))
