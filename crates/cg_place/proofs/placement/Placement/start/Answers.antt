use Rattle.std.proofs.Common.{ℕ, ◌<◌, List, length, subst, sym, ap, ◌∙◌, arith}
use Rattle.std.specs.Prelude.{All, count_by}
use Rattle.cg_model.specs.declared.mapping.Place.{Place}
use Rattle.cg_model.specs.declared.array.Unit.{Unit as UnitOf}
use Rattle.cg_place.specs.Placed.{IsPlacement}
use Rattle.cg_place.specs.Counts.{is_broken}
use Rattle.cg_place.specs.Reservations.{IsTable}
use Rattle.cg_place.specs.Touching.{AreKnown}
use Rattle.cg_place.proofs.Edges.{order_known}
use Rattle.cg_place.proofs.Starting as starting
use Rattle.cg_place.proofs.placement.Placement.start.Goals as goal

pub of-requires-clause-nodes : goal.of-requires-clause-nodes
of-requires-clause-nodes c =
    let A = c.args.arch.now in
    let K = c.args.kernel.now in
    let early = c.args.early.now in
    let places = c.deref.ensures.value ∙ c.in_ok-places.ensures.value in
    let long = ap length places ∙ starting.each A K early c.requires.offered in
    let few = c.first_places.ensures.valid.few in
    omega (arith, long, few)

pub of-requires-clause-known : goal.of-requires-clause-known
of-requires-clause-known c =
    let A = c.args.arch.now in
    let K = c.args.kernel.now in
    let early = c.args.early.now in
    let places = c.deref.ensures.value ∙ c.in_ok-places.ensures.value in
    subst (λ (z : List UnitOf). All (λ (p : Place). p.unit < length z) c.deref.result.now) (sym c.units.ensures.units)
    (subst (All (λ (p : Place). p.unit < length A.units)) (sym places) (starting.known A K early c.requires.offered))

pub count_broken-violations-requires-clause-known : goal.count_broken-violations-requires-clause-known
count_broken-violations-requires-clause-known c =
    let A = c.args.arch.now in
    let K = c.args.kernel.now in
    let early = c.args.early.now in
    let long = ap length (c.deref-2.ensures.value ∙ c.in_ok-places.ensures.value) ∙ starting.each A K early c.requires.offered in
    subst (λ n. AreKnown n c.order.result.now) (sym long) (subst (AreKnown _) (sym c.order.ensures.order) (order_known K c.order.ensures.valid))

pub invariant_of-result-2 : goal.invariant_of-result-2
invariant_of-result-2 c =
    let A = c.args.arch.now in
    let K = c.args.kernel.now in
    let early = c.args.early.now in
    let places : List Place = c.in_ok-places.places.items in
    record {
      placement =
          subst (λ (z : List ℕ). IsPlacement (record { arch = A; kernel = K; ii = c.args.ii; early = z; places = places })) (sym c.in_ok-from_slice.ensures.items)
          (subst (λ (z : List Place). IsPlacement (record { arch = A; kernel = K; ii = c.args.ii; early = early; places = z })) (sym c.in_ok-places.ensures.value)
          (starting.first_placement A K c.args.ii early c.first_places.ensures.valid c.requires.some c.requires.few c.requires.offered c.requires.early));
      units = c.units.ensures.valid.small.units;
      table =
          subst (IsTable (length A.units) c.args.ii places) (sym c.table.view_is)
          (subst (λ (z : List Place). IsTable (length A.units) c.args.ii z c.in_ok-table.table) c.deref.ensures.value
          (subst (λ (z : List UnitOf). IsTable (length z) c.args.ii c.deref.result.now c.in_ok-table.table) c.units.ensures.units c.in_ok-table.ensures));
      touching = c.in_ok-touching.ensures;
      violations =
          c.count_broken-violations.ensures.value
          ∙ ap (λ (z : List Place). count_by (is_broken c.args.ii z) c.order.result.now) c.deref-2.ensures.value
          ∙ ap (count_by (is_broken c.args.ii places)) c.order.ensures.order;
    }

pub returns-clause-valid : goal.returns-clause-valid
returns-clause-valid c =
    let A = c.args.arch.now in
    let K = c.args.kernel.now in
    let early = c.args.early.now in
    subst (λ (z : List ℕ). IsPlacement (record { arch = A; kernel = K; ii = c.args.ii; early = z; places = c.in_ok-places.places.items })) (sym c.in_ok-from_slice.ensures.items)
    (subst (λ (z : List Place). IsPlacement (record { arch = A; kernel = K; ii = c.args.ii; early = early; places = z })) (sym c.in_ok-places.ensures.value)
    (starting.first_placement A K c.args.ii early c.first_places.ensures.valid c.requires.some c.requires.few c.requires.offered c.requires.early))
