use Rattle.std.proofs.Common.{◌≡◌, ◌∙◌, ℕ, ◌+◌, ◌-◌, ◌*◌, ◌^◌, ◌<◌, get_or, refl, sym, subst, ap, arith}
use Rattle.cg_route.specs.Layers.{Sought, Layer, IsSearch, IsBegun, IsSettled, IsVisited, rank, size}
use Rattle.cg_route.proofs.Ranks.{ranked}
use Rattle.cg_route.proofs.Begins.{more_below}
use Rattle.cg_route.proofs.Settles.{settled_start, settled_more, settled_end}
use Rattle.cg_route.proofs.search.Search.settle.Goals as goal

pub loop-place-init : goal.loop-place-init
loop-place-init c =
    let S = c.args.self.now in
    let search : IsSearch S = subst (λ (S : Sought). IsSearch S) c.self.view_is c.self.invariant.0 in
    record {
      all = c.requires.all;
      settled = λ later b. settled_start S (ranked S search) c.args.k (S.end - c.args.k) later c.args.here.now (size S - 0) (omega arith) (subst (λ n. IsBegun S (S.end - c.args.k) n later c.args.here.now) (omega arith) b);
      within = λ q s is. let z = c.requires.small q s is in omega arith;
    }

pub loop-place-preserved : goal.loop-place-preserved
loop-place-preserved c =
    let S = c.args.self.now in
    let n = size S in
    let k = c.args.k in
    let i = c.loop-place.place in
    let t = S.end - k in
    let p = n - (i + 1) in
    let old : Layer = c.loop-place.here in
    let new : Layer = c.visit.new.here in
    let search : IsSearch S = subst (λ (S : Sought). IsSearch S) c.self.view_is c.self.invariant.0 in
    let order = ranked S search in
    let count : c.self.inside.count ≡ n = c.self.invariant.3 ∙ ap (λ (S : Sought). size S) c.self.view_is in
    let inside : i < n = (let z = c.loop-place-test.true in omega arith) in
    let r : ℕ = get_or c.self.inside.order.now (c.self.inside.count - 1 - i) 0 in
    let is : r ≡ get_or S.order p 0 = ap (λ (S : Sought). get_or S.order (c.self.inside.count - 1 - i) 0) c.self.view_is ∙ ap (λ j. get_or S.order j 0) (omega (arith, count, inside)) in
    let known : r < n = subst (λ x. x < n) (sym is) (search.order.known p (omega (arith, order.all, inside))) in
    let place : rank S r ≡ p = ap (λ x. rank S x) is ∙ order.ranks p (omega (arith, inside)) in
    let high = (k * (n + 1) + 1 + i) * 2 ^ 52 in
    let visited : IsVisited S k r old new = c.visit.ensures.visited in
    record {
      all = c.visit.auto.here ∙ c.loop-place.invariant.all;
      settled = λ later b.
          settled_more S order k t later p r old known place (subst (λ j. IsSettled S k t j later old) (omega (arith, inside)) (c.loop-place.invariant.settled later b)) new refl visited;
      within = more_below (high + 2 ^ 52) ((k * (n + 1) + 1 + (i + 1)) * 2 ^ 52) new (omega arith) (c.visit.ensures.below high c.loop-place.invariant.within);
    }

pub returns-clause-settled : goal.returns-clause-settled
returns-clause-settled c = λ later b.
    let S = c.args.self.now in
    let search : IsSearch S = subst (λ (S : Sought). IsSearch S) c.self.view_is c.self.invariant.0 in
    let count : c.self.inside.count ≡ size S = c.self.invariant.3 ∙ ap (λ (S : Sought). size S) c.self.view_is in
    let over = c.loop-place-test.false in
    settled_end S (ranked S search) c.args.k (S.end - c.args.k) later c.loop-place.here
    (subst (λ j. IsSettled S c.args.k (S.end - c.args.k) j later c.loop-place.here) (omega (arith, count, over)) (c.loop-place.invariant.settled later b))
