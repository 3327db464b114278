use Rattle.std.proofs.Common.{◌≡◌, ℕ, ◌+◌, ◌-◌, List, length, set, subst, sym, ap, ◌∙◌, arith}
use Rattle.std.specs.Prelude.{count_by}
use Rattle.std.proofs.lemmas.List.{length-set}
use Rattle.cg_model.specs.declared.mapping.Place.{Place}
use Rattle.cg_place.specs.Placed.{Placed, IsMove, MayStand, place_in, after}
use Rattle.cg_place.specs.Counts.{is_broken}
use Rattle.cg_place.specs.Kept.{IsKept}
use Rattle.cg_place.specs.Touching.{list_of}
use Rattle.cg_place.proofs.Tables.{more, less}
use Rattle.cg_place.proofs.Keeping as keeping
use Rattle.cg_place.proofs.placement.Placement.apply.Goals as goal

pub reserve-requires-clause-few : goal.reserve-requires-clause-few
reserve-requires-clause-few c =
    let g = c.self.inside in
    let P : Placed = record { arch = g.arch.now; kernel = g.kernel.now; ii = g.ii; early = g.early.items; places = g.places.items } in
    let m = c.args.change in
    let ok : IsMove P m = subst (λ (z : Placed). IsMove z m) (sym c.self.view_is) c.requires in
    keeping.few_read P m g.table g.touching.items g.violations c.self.invariant ok c.index-from.result.now c.entry.result c.entry-2.result c.release.new.self c.index-from.ensures c.entry.ensures c.release.ensures c.entry-2.ensures

pub reserve-requires-clause-small : goal.reserve-requires-clause-small
reserve-requires-clause-small c =
    let g = c.self.inside in
    let P : Placed = record { arch = g.arch.now; kernel = g.kernel.now; ii = g.ii; early = g.early.items; places = g.places.items } in
    let m = c.args.change in
    let ok : IsMove P m = subst (λ (z : Placed). IsMove z m) (sym c.self.view_is) c.requires in
    keeping.small_read P m g.table g.touching.items g.violations c.self.invariant ok c.index-from.result.now c.entry.result c.entry-2.result c.release.new.self c.index-from.ensures c.entry.ensures c.release.ensures c.entry-2.ensures

pub count_broken-before-requires-clause-known : goal.count_broken-before-requires-clause-known
count_broken-before-requires-clause-known c =
    let g = c.self.inside in
    let P : Placed = record { arch = g.arch.now; kernel = g.kernel.now; ii = g.ii; early = g.early.items; places = g.places.items } in
    let m = c.args.change in
    let ok : IsMove P m = subst (λ (z : Placed). IsMove z m) (sym c.self.view_is) c.requires in
    keeping.known_read P m g.table g.touching.items g.violations c.self.invariant ok c.index.result.now c.as_slice.result.now c.index.ensures c.as_slice.ensures (length c.deref.result.now) (ap length c.deref.ensures.value)

pub count_broken-before-requires-clause-few : goal.count_broken-before-requires-clause-few
count_broken-before-requires-clause-few c =
    let g = c.self.inside in
    let P : Placed = record { arch = g.arch.now; kernel = g.kernel.now; ii = g.ii; early = g.early.items; places = g.places.items } in
    let m = c.args.change in
    let ok : IsMove P m = subst (λ (z : Placed). IsMove z m) (sym c.self.view_is) c.requires in
    keeping.length_read P m g.table g.touching.items g.violations c.self.invariant ok c.index.result.now c.as_slice.result.now c.index.ensures c.as_slice.ensures

pub count_broken-after-requires-clause-known : goal.count_broken-after-requires-clause-known
count_broken-after-requires-clause-known c =
    let g = c.self.inside in
    let P : Placed = record { arch = g.arch.now; kernel = g.kernel.now; ii = g.ii; early = g.early.items; places = g.places.items } in
    let m = c.args.change in
    let ok : IsMove P m = subst (λ (z : Placed). IsMove z m) (sym c.self.view_is) c.requires in
    keeping.known_read P m g.table g.touching.items g.violations c.self.invariant ok c.index-2.result.now c.as_slice-2.result.now c.index-2.ensures c.as_slice-2.ensures (length c.deref-2.result.now) (ap length c.deref-2.ensures.value ∙ length-set g.places.items m.node m.place)

pub count_broken-after-requires-clause-few : goal.count_broken-after-requires-clause-few
count_broken-after-requires-clause-few c =
    let g = c.self.inside in
    let P : Placed = record { arch = g.arch.now; kernel = g.kernel.now; ii = g.ii; early = g.early.items; places = g.places.items } in
    let m = c.args.change in
    let ok : IsMove P m = subst (λ (z : Placed). IsMove z m) (sym c.self.view_is) c.requires in
    keeping.length_read P m g.table g.touching.items g.violations c.self.invariant ok c.index-2.result.now c.as_slice-2.result.now c.index-2.ensures c.as_slice-2.ensures

pub overflow_sub-self : goal.overflow_sub-self
overflow_sub-self c =
    let g = c.self.inside in
    let P : Placed = record { arch = g.arch.now; kernel = g.kernel.now; ii = g.ii; early = g.early.items; places = g.places.items } in
    let m = c.args.change in
    let ok : IsMove P m = subst (λ (z : Placed). IsMove z m) (sym c.self.view_is) c.requires in
    let before : c.count_broken-before.result ≡ count_by (is_broken g.ii g.places.items) (list_of g.touching.items m.node) =
    keeping.count_read P m g.table g.touching.items g.violations c.self.invariant ok c.index.result.now c.as_slice.result.now c.index.ensures c.as_slice.ensures c.deref.result.now g.places.items c.count_broken-before.result c.count_broken-before.ensures.value c.deref.ensures.value in
    omega (arith, before, keeping.before_few P m g.table g.touching.items g.violations c.self.invariant ok)

pub overflow_add-self : goal.overflow_add-self
overflow_add-self c =
    let g = c.self.inside in
    let P : Placed = record { arch = g.arch.now; kernel = g.kernel.now; ii = g.ii; early = g.early.items; places = g.places.items } in
    let m = c.args.change in
    let ok : IsMove P m = subst (λ (z : Placed). IsMove z m) (sym c.self.view_is) c.requires in
    let before : c.count_broken-before.result ≡ count_by (is_broken g.ii g.places.items) (list_of g.touching.items m.node) =
    keeping.count_read P m g.table g.touching.items g.violations c.self.invariant ok c.index.result.now c.as_slice.result.now c.index.ensures c.as_slice.ensures c.deref.result.now g.places.items c.count_broken-before.result c.count_broken-before.ensures.value c.deref.ensures.value in
    let b = keeping.broken_few P m g.table g.touching.items g.violations c.self.invariant ok in
    let long = keeping.length_read P m g.table g.touching.items g.violations c.self.invariant ok c.index-2.result.now c.as_slice-2.result.now c.index-2.ensures c.as_slice-2.ensures in
    let bound = c.count_broken-after.ensures.bound in
    omega (arith, b, long, bound)

pub invariant_of-self : goal.invariant_of-self
invariant_of-self c =
    let g = c.self.inside in
    let P : Placed = record { arch = g.arch.now; kernel = g.kernel.now; ii = g.ii; early = g.early.items; places = g.places.items } in
    let m = c.args.change in
    let ok : IsMove P m = subst (λ (z : Placed). IsMove z m) (sym c.self.view_is) c.requires in
    let before : c.count_broken-before.result ≡ count_by (is_broken g.ii g.places.items) (list_of g.touching.items m.node) =
    keeping.count_read P m g.table g.touching.items g.violations c.self.invariant ok c.index.result.now c.as_slice.result.now c.index.ensures c.as_slice.ensures c.deref.result.now g.places.items c.count_broken-before.result c.count_broken-before.ensures.value c.deref.ensures.value in
    let now : c.count_broken-after.result ≡ count_by (is_broken g.ii (set g.places.items m.node m.place)) (list_of g.touching.items m.node) =
    keeping.count_read P m g.table g.touching.items g.violations c.self.invariant ok c.index-2.result.now c.as_slice-2.result.now c.index-2.ensures c.as_slice-2.ensures c.deref-2.result.now (set g.places.items m.node m.place) c.count_broken-after.result c.count_broken-after.ensures.value c.deref-2.ensures.value in
    let counts : List ℕ = more g.ii (less g.ii g.table (place_in g.places.items m.node)) m.place in
    let table : c.reserve.new.self ≡ counts = keeping.reserved_is P m g.table g.touching.items g.violations c.self.invariant ok c.index-from.result.now c.entry.result c.entry-2.result c.release.new.self c.index-from.ensures c.entry.ensures c.release.ensures c.entry-2.ensures c.reserve.new.self c.reserve.ensures in
    subst (λ (z : List ℕ). IsKept (after P m) z g.touching.items (g.violations - c.count_broken-before.result + c.count_broken-after.result)) (sym table)
    (subst (λ n. IsKept (after P m) counts g.touching.items (g.violations - n + c.count_broken-after.result)) (sym before)
    (subst (λ n. IsKept (after P m) counts g.touching.items (g.violations - count_by (is_broken g.ii g.places.items) (list_of g.touching.items m.node) + n)) (sym now)
    (keeping.kept_after P m g.table g.touching.items g.violations c.self.invariant ok)))

pub returns-clause-undoes : goal.returns-clause-undoes
returns-clause-undoes c =
    let g = c.self.inside in
    let P : Placed = record { arch = g.arch.now; kernel = g.kernel.now; ii = g.ii; early = g.early.items; places = g.places.items } in
    let m = c.args.change in
    let ok : IsMove P m = subst (λ (z : Placed). IsMove z m) (sym c.self.view_is) c.requires in
    subst (λ (z : Place). MayStand P.arch P.kernel m.node z.unit) (sym (keeping.from_is P m g.table g.touching.items g.violations c.self.invariant ok c.index-from.result.now c.entry.result c.entry-2.result c.release.new.self c.index-from.ensures c.entry.ensures c.release.ensures c.entry-2.ensures))
    (keeping.undoes P m c.self.invariant.placement ok)

pub returns-clause-valid : goal.returns-clause-valid
returns-clause-valid c =
    let g = c.self.inside in
    let P : Placed = record { arch = g.arch.now; kernel = g.kernel.now; ii = g.ii; early = g.early.items; places = g.places.items } in
    let m = c.args.change in
    let ok : IsMove P m = subst (λ (z : Placed). IsMove z m) (sym c.self.view_is) c.requires in
    keeping.placement_after P m c.self.invariant.placement ok
