use Rattle.std.proofs.Common.{◌≡◌, ℕ, ◌-◌, ◌^◌, ◌<◌, List, length, refl, sym, ap, ◌∙◌, subst, arith}
use Rattle.std.specs.Prelude.{slice_index}
use Rattle.cg_bound_flow.specs.Reach.{IsReached}
use Rattle.cg_bound_flow.specs.Lift.{LetsRise, IsRisen}
use Rattle.cg_bound_flow.proofs.Logs.{read}
use Rattle.cg_bound_flow.proofs.Lifts.{low, lifted_more}
use Rattle.cg_bound_flow.proofs.lift.lift.Goals as goal

pub reach-requires-clause-times : goal.reach-requires-clause-times
reach-requires-clause-times c = λ x. let h = c.loop-left.invariant.near (2 ^ 61) c.requires.times x in let e = ap (λ (z : List ℕ). slice_index z x) c.as_slice.ensures.value in omega arith

pub room-by-requires-clause-times : goal.room-by-requires-clause-times
room-by-requires-clause-times c = λ x. let h = c.loop-left.invariant.near (2 ^ 61) c.requires.times x in let e = ap (λ (z : List ℕ). slice_index z x) c.as_slice-in-loop-left.ensures.value in omega arith

pub rise-requires-clause-small : goal.rise-requires-clause-small
rise-requires-clause-small c = λ x o.
    let r = c.in_ok-reached.reached in
    let reached : IsReached c.args.network.links.now c.args.raise.count c.args.flow.now c.loop-left.potentials.items c.args.raise.terminals.start c.args.raise.terminals.goal r =
    subst (λ (z : List ℕ). IsReached c.args.network.links.now c.args.raise.count c.args.flow.now z c.args.raise.terminals.start c.args.raise.terminals.goal r) c.as_slice.ensures.value c.in_ok-reached.ensures in
    let e = ap (λ (z : List ℕ). slice_index z x) c.deref.ensures.value in
    let h = low c.args.network.links.now c.args.raise.count c.args.flow.now c.args.potentials.now.items c.args.raise.terminals.start c.args.raise.terminals.goal c.args.raise.need c.requires.graph c.requires.near c.loop-left.potentials.items c.loop-left.left c.loop-left.invariant
    (2 ^ 61) c.requires.times r c.room-by.result reached c.room-by.ensures.most x (omega arith) in
    omega arith

pub loop-left-preserved : goal.loop-left-preserved
loop-left-preserved c =
    let r = c.in_ok-reached.reached in
    let at = c.loop-left.potentials.items in
    let by = c.room-by.result in
    let reached : IsReached c.args.network.links.now c.args.raise.count c.args.flow.now at c.args.raise.terminals.start c.args.raise.terminals.goal r =
    subst (λ (z : List ℕ). IsReached c.args.network.links.now c.args.raise.count c.args.flow.now z c.args.raise.terminals.start c.args.raise.terminals.goal r) c.as_slice.ensures.value c.in_ok-reached.ensures in
    let rises : (k : ℕ) → k < c.args.raise.count → LetsRise c.args.network.links.now at r.order.items by k =
    λ k l. subst (λ (z : List ℕ). LetsRise c.args.network.links.now z r.order.items by k) c.as_slice-in-loop-left.ensures.value (c.room-by.ensures.rises k l) in
    let risen = subst (λ (z : List ℕ). IsRisen z at by c.rise.new.potentials.items) c.deref.ensures.value c.rise.ensures.risen in
    let e = reached.log.each in
    let f = c.loop-left.invariant.each in
    let inside : c.args.raise.terminals.goal < length r.order.items = let g = c.requires.goal in omega arith in
    let none : slice_index r.order.items c.args.raise.terminals.goal ≡ 0 = sym (read r.order.items c.args.raise.terminals.goal c.index.result.now 0 inside c.index.ensures) ∙ c.if-index-ne0.false in
    lifted_more c.args.network.links.now c.args.raise.count c.args.flow.now c.args.potentials.now.items c.args.raise.terminals.start c.args.raise.terminals.goal c.args.raise.need c.requires.graph c.requires.near at c.loop-left.left c.loop-left.invariant
    r by c.rise.new.potentials.items (c.loop-left.left - by) reached none c.room-by.ensures.most rises risen c.rise.ensures.each refl
