use Rattle.std.proofs.Common.{◌≡◌, ℕ, ◌<◌, List, length, arith, sym, ap, subst, Some}
use Rattle.cg_model.specs.declared.mapping.Place.{Place}
use Rattle.cg_check.specs.Slots.{place_in, first_shared}
use Rattle.cg_check.proofs.Marks.{scan_more, scan_found}
use Rattle.cg_check.proofs.slots.shared_node.Goals as goal

pub returns-then-index : goal.returns-then-index
returns-then-index c =
    let ii = c.ii-ii.result in
    let units = length c.args.arch.now.units in
    let places = c.places-places.result.now in
    let node = c.loop-node.node in
    let known : (place_in places node).unit < units =
    subst (λ (z : List Place). (place_in z node).unit < units) (sym c.places-places.ensures) (c.requires.units node (omega (arith, ap length c.places-places.ensures))) in
    let found = scan_found ii units places node c.loop-node.taken.items c.index.result.now (omega arith) c.loop-node-test.true known c.loop-node.invariant c.index.ensures c.if-index.true in
    subst (λ (z : List Place). Some node ≡ first_shared c.args.mapping.now.ii z 0) c.places-places.ensures (subst (λ (z : ℕ). Some node ≡ first_shared z places 0) c.ii-ii.ensures found)

pub loop-node-preserved : goal.loop-node-preserved
loop-node-preserved c =
    let units = length c.args.arch.now.units in
    let places = c.places-places.result.now in
    let node = c.loop-node.node in
    let known : (place_in places node).unit < units =
    subst (λ (z : List Place). (place_in z node).unit < units) (sym c.places-places.ensures) (c.requires.units node (omega (arith, ap length c.places-places.ensures))) in
    scan_more c.ii-ii.result units places node c.loop-node.taken.items c.index.result.now (omega arith) c.loop-node-test.true known c.loop-node.invariant c.index.ensures c.if-index.false
