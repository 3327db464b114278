use Rattle.std.proofs.Common.{◌≡◌, ◌∙◌, ℕ, ◌+◌, ◌%◌, ◌<◌, length, get_or, set, take, sym, ap, subst, arith}
use Rattle.cg_mrrg.specs.declared.links.Link.{Link}
use Rattle.cg_congestion.specs.Table as tables
use Rattle.cg_route.specs.Layers.{Sought, Layer, IsSearch, AreOffered, IsBelow, drivers, at, better, link}
use Rattle.cg_route.proofs.Offers.{next_driver, offered_more, set_below, fresh}
use Rattle.cg_route.proofs.search.Search.offer.Goals as goal

pub link-link-requires-clause-toll : goal.link-link-requires-clause-toll
link-link-requires-clause-toll c =
    c.from-toll.ensures ∙ c.toll.ensures.toll ∙ ap (λ z. tables.toll c.self.inside.usage.now (record { resource = c.args.resource; slot = c.args.time % z })) c.self.invariant.4
    ∙ ap (λ (S : Sought). tables.toll S.table (record { resource = c.args.resource; slot = c.args.time % S.table.interval })) c.self.view_is

pub slice_copy_out-found : goal.slice_copy_out-found
slice_copy_out-found c =
    let S = c.args.self.now in
    let search : IsSearch S = subst (λ (S : Sought). IsSearch S) c.self.view_is c.self.invariant.0 in
    let same_arch : c.self.inside.graph.now.arch ≡ S.table.arch = c.self.invariant.1 ∙ ap (λ (S : Sought). S.table.arch) c.self.view_is in
    let d = next_driver S search c.self.inside.graph.now c.args.resource (c.args.time % c.self.inside.interval) c.links_into-link-items.result.now c.loop-link.link-index c.links_into-link-items.ensures same_arch c.loop-link-test.true in
    let all = c.loop-link.invariant.offered.all in
    omega (arith, d, all, c.requires.all)

pub bounds-layer-driver : goal.bounds-layer-driver
bounds-layer-driver c =
    let S = c.args.self.now in
    let search : IsSearch S = subst (λ (S : Sought). IsSearch S) c.self.view_is c.self.invariant.0 in
    let same_arch : c.self.inside.graph.now.arch ≡ S.table.arch = c.self.invariant.1 ∙ ap (λ (S : Sought). S.table.arch) c.self.view_is in
    let d = next_driver S search c.self.inside.graph.now c.args.resource (c.args.time % c.self.inside.interval) c.links_into-link-items.result.now c.loop-link.link-index c.links_into-link-items.ensures same_arch c.loop-link-test.true in
    let all = c.loop-link.invariant.offered.all in
    omega (arith, d, all, c.requires.all)

pub loop-link-preserved : goal.loop-link-preserved
loop-link-preserved c =
    let S = c.args.self.now in
    let s = c.args.time in
    let r = c.args.resource in
    let price = c.args.price in
    let i = c.loop-link.link-index in
    let ds = drivers S r in
    let layer : Layer = c.loop-link.layer in
    let search : IsSearch S = subst (λ (S : Sought). IsSearch S) c.self.view_is c.self.invariant.0 in
    let same_arch : c.self.inside.graph.now.arch ≡ S.table.arch = c.self.invariant.1 ∙ ap (λ (S : Sought). S.table.arch) c.self.view_is in
    let (inside, e, known) = next_driver S search c.self.inside.graph.now r (s % c.self.inside.interval) c.links_into-link-items.result.now i c.links_into-link-items.ensures same_arch c.loop-link-test.true in
    let x = get_or ds i 0 in
    let none : Link = record { node = record { resource = 0; slot = 0 }; delay = 0 } in
    let y : ℕ = (get_or c.links_into-link-items.result.now i none).node.resource in
    let all = c.loop-link.invariant.offered.all in
    let way : c.better.result ≡ better (at layer y) (link S s r y + price) r = c.better.ensures ∙ ap (λ z. better (at layer y) (z + price) r) c.link-link.ensures.link in
    let within : x < length layer = omega (arith, known, all, c.requires.all) in
    let low = c.link-link.ensures.small in
    record {
      offered =
          subst (λ v. AreOffered S s r price (take (i + 1) ds) c.args.layer.now (set layer y v)) (sym way)
          (subst (λ z. AreOffered S s r price (take (i + 1) ds) c.args.layer.now (set layer z (better (at layer z) (link S s r z + price) r))) (sym e)
          (offered_more S s r price ds i c.args.layer.now layer inside (omega (arith, known, c.requires.all)) (fresh S.table.arch search.arch r i inside) c.loop-link.invariant.offered));
      below = λ high le old.
          subst (λ v. IsBelow high (set layer y v)) (sym c.better.ensures)
          (subst (λ z. IsBelow high (set layer z (better (at layer z) (c.link-link.result + price) r))) (sym e)
          (set_below high layer x (c.link-link.result + price) r within (omega (arith, le, low)) (c.loop-link.invariant.below high le old)));
    }
