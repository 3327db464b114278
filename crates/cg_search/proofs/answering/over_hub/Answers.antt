use Rattle.std.proofs.Common.{rules, ◌≡◌, ◌<◌, ◌≤◌, refl, sym, subst, arith, ⊎_elim}
use Rattle.std.proofs.lemmas.Bool.{cases_lt}
use Rattle.cg_model.specs.Mapping.{IsLegal}
use Rattle.cg_hub.specs.Hub.{HubEnough, hub_map}
use Rattle.cg_intervals.specs.Intervals.{last_tried}
use Rattle.cg_hub.proofs.Hubs.{hub_interval}
use Rattle.cg_intervals.specs.declared.answering.FoundBy.TheVariants.{Hub}
use Rattle.cg_search.specs.Search.{HasNoHub, IsFound}
use Rattle.cg_search.proofs.answering.over_hub.Goals as goal

pub returns-then-hub_enough : goal.returns-then-hub_enough
returns-then-hub_enough c =
    let call = c.args.call.now in
    let A = call.arch.now in
    let K = call.kernel.now in
    let asked = call.request.ii in
    let moves = call.request.moves in
    let first = call.first in
    let ii = c.loop-ii.ii in
    let is = c.in_ok-mapping.ensures in
    let same = sym (hub_interval A K ii) in
    let enough : HubEnough A K ii = search rules in
    let after : first ≤ ii = omega (arith, c.loop-ii.auto) in
    subst (λ m. IsFound A K asked moves first m Hub) (sym is)
    (record {
      arch = refl;
      kernel = refl;
      legal = subst (λ m. IsLegal m.arch m.kernel m.mapping) is c.mapping.ensures.legal;
      from = subst (λ z. first ≤ z) same after;
      to = subst (λ z. z ≤ last_tried A asked) same (omega (arith, c.loop-ii-test.true, c.last_tried-ii-end.ensures));
      by = (subst (HubEnough A K) same enough, subst (HasNoHub A K asked moves first) same c.loop-ii.invariant, subst (λ z. hub_map A K ii ≡ hub_map A K z) same refl);
    })

pub loop-ii-preserved : goal.loop-ii-preserved
loop-ii-preserved c =
    let ii = c.loop-ii.ii in
    λ j from less enough.
    ⊎_elim {C = ⊥} (λ (l : j < ii). c.loop-ii.invariant j from l enough)
    (λ (l : ii ≤ j).
    let same : j ≡ ii = omega (arith, l, less) in
    let yes = c.hub_enough.ensures.1 (subst (HubEnough c.args.call.now.arch.now c.args.call.now.kernel.now) same enough) in
    let no = c.if-hub_enough.false in
    absurd (cc))
    (cases_lt j ii)

pub returns : goal.returns
returns c = (
  refl,
  record {
    some = c.requires.posed.some;
    each = c.requires.misses;
    all = c.requires.all;
    no_hub = λ j from less enough. c.loop-ii.invariant j from (omega (arith, less, c.loop-ii-test.false, c.last_tried-ii-end.ensures)) enough;
  },
)
