use Rattle.std.proofs.Common.{◌≡◌, ◌∙◌, ◌<◌, length, inl, inr, sym, ap, subst, arith, refl}
use Rattle.cg_walk_spec.specs.State.{cost}
use Rattle.cg_walk_spec.specs.Words.{generator}
use Rattle.cg_walk_spec.specs.Walk.{Walked, start}
use Rattle.cg_walk_spec.proofs.Histories.{histories_small}
use Rattle.cg_walk_spec.proofs.Keeps.{walked_good}
use Rattle.cg_anneal.specs.Walking.{Walking}
use Rattle.cg_anneal.proofs.Reached.{goes_on}
use Rattle.cg_anneal.proofs.Nodeless.{some_nodes}
use Rattle.cg_anneal.proofs.finding.make_moves.Goals as goal

pub loop-k-init : goal.loop-k-init
loop-k-init g c =
    let W = c.args.walk.now in
    let g = c.new-generator.ensures ∙ ap (λ x. generator c.args.request.seed x) (c.from.ensures ∙ c.interval-ii.ensures) in
    record {
      same = refl;
      walked = subst (λ x. Walked W.arch W.kernel W.ii W.early c.args.request.moves c.args.request.seed 0 x W.state) (sym g) (start c.requires.start);
    }

pub returns-then-cost-eq0 : goal.returns-then-cost-eq0
returns-then-cost-eq0 g c =
    let W = c.args.walk.now in
    let V = c.loop-k.walk in
    let same = c.loop-k.invariant.same in
    let zero : cost W.arch W.kernel W.ii V.state ≡ 0 = sym (ap (λ (X : Walking). cost X.arch X.kernel X.ii V.state) same) ∙ sym c.in_ok-cost.ensures ∙ c.if-cost-eq0.true in
    (same, zero, (c.loop-k.generator, (c.loop-k.invariant.walked, inl zero)))

pub step-requires-clause-some : goal.step-requires-clause-some
step-requires-clause-some g c =
    let W = c.args.walk.now in
    let V = c.loop-k.walk in
    let same = c.loop-k.invariant.same in
    let no = c.if-cost-eq0.false in
    let e = c.in_ok-cost.ensures ∙ ap (λ (X : Walking). cost X.arch X.kernel X.ii V.state) same in
    let some : 0 < cost W.arch W.kernel W.ii V.state = omega (arith, no, e) in
    let good = walked_good W.arch W.kernel W.ii W.early c.holds.ensures.ready c.args.request.moves c.args.request.seed c.loop-k.invariant.walked in
    subst (λ (X : Walking). 0 < length X.kernel.nodes) (sym same) (some_nodes W.arch W.kernel W.ii V.state c.holds.ensures.kernel good some)

pub step-requires-clause-small : goal.step-requires-clause-small
step-requires-clause-small g c =
    let W = c.args.walk.now in
    histories_small W.arch W.kernel W.ii W.early c.args.request.moves c.args.request.seed c.loop-k.invariant.walked

pub loop-k-preserved : goal.loop-k-preserved
loop-k-preserved g c =
    let W = c.args.walk.now in
    let V = c.loop-k.walk in
    let same = c.loop-k.invariant.same in
    let no = c.if-cost-eq0.false in
    let e = c.in_ok-cost.ensures ∙ ap (λ (X : Walking). cost X.arch X.kernel X.ii V.state) same in
    let some : 0 < cost W.arch W.kernel W.ii V.state = omega (arith, no, e) in
    let b = goes_on W.arch W.kernel W.ii W.early c.args.request.moves c.args.request.seed c.loop-k.k c.loop-k.generator c.step.new.generator V c.step.new.self same c.loop-k.invariant.walked c.loop-k-test.true some c.in_ok-step.ensures.step c.in_ok-step.ensures.next in
    record { same = b.0; walked = b.1 }

pub returns-then-left-eq0 : goal.returns-then-left-eq0
returns-then-left-eq0 g c =
    let W = c.args.walk.now in
    let V = c.loop-k.walk in
    let same = c.loop-k.invariant.same in
    let past = c.loop-k-test.false in
    let most = c.loop-k.auto.k-end in
    let done : c.loop-k.k ≡ c.args.request.moves = omega (arith, past, most) in
    let whole = subst (λ n. Walked W.arch W.kernel W.ii W.early c.args.request.moves c.args.request.seed n c.loop-k.generator V.state) done c.loop-k.invariant.walked in
    let zero : cost W.arch W.kernel W.ii V.state ≡ 0 = sym (ap (λ (X : Walking). cost X.arch X.kernel X.ii V.state) same) ∙ sym c.in_ok-left.ensures ∙ c.if-left-eq0.true in
    (same, zero, (c.loop-k.generator, (whole, inl zero)))

pub returns : goal.returns
returns g c =
    let W = c.args.walk.now in
    let V = c.loop-k.walk in
    let same = c.loop-k.invariant.same in
    let past = c.loop-k-test.false in
    let most = c.loop-k.auto.k-end in
    let done : c.loop-k.k ≡ c.args.request.moves = omega (arith, past, most) in
    let whole = subst (λ n. Walked W.arch W.kernel W.ii W.early c.args.request.moves c.args.request.seed n c.loop-k.generator V.state) done c.loop-k.invariant.walked in
    let no = c.if-left-eq0.false in
    let e = c.in_ok-left.ensures ∙ ap (λ (X : Walking). cost X.arch X.kernel X.ii V.state) same in
    (same, sym e, omega (arith, no), (c.loop-k.generator, (whole, inr refl)))
