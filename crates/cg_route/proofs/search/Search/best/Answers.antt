use Rattle.std.proofs.Common.{◌≡◌, ◌∙◌, ℕ, ◌+◌, ◌^◌, ◌≤◌, ◌<◌, List, Option, Some, None, length, get_or, take, sym, subst, ap, arith}
use Rattle.std.specs.Prelude.{Contains}
use Rattle.std.proofs.lemmas.List.{take_all}
use Rattle.std.proofs.lemmas.List.Elements.{Contains-get_or}
use Rattle.cg_mrrg.specs.Graph.{registers_after}
use Rattle.cg_mrrg.proofs.After.{after_is, after_ascends}
use Rattle.cg_route.specs.Layers.{Sought, Layer, ways_of, Step, Way, IsBest, way_price, better, held, no_way, IsCheap, at, link, delay_into, size}
use Rattle.cg_route.proofs.Ranks.{driven}
use Rattle.cg_route.proofs.Carries.{best_seen, below_seen, best_unseen, held_before}
use Rattle.cg_route.proofs.Best.{held_less, held_more}
use Rattle.cg_route.proofs.search.Search.best.Goals as goal
use Rattle.cg_route.proofs.search.Search.best.Goals.{in-Some+then-found-price, in-Some+else-found-price, in_default}

p-small : (w : Way) (p : ℕ) → IsCheap w → p ≤ w.onward + 2 ^ 52 → p < no_way
p-small w p h l = omega (arith, h.0, l)

held_is : {p q r s : ℕ} → p ≡ q → r ≡ s → held p r ≡ held q s
held_is {q = q} {r = r} e f = ap (λ p. held p r) e ∙ ap (λ r. held q r) f

pub bounds : goal.bounds
bounds c =
    let S = c.args.self.now in
    let same_arch : c.self.inside.graph.now.arch ≡ S.table.arch = c.self.invariant.1 ∙ ap (λ (S : Sought). S.table.arch) c.self.view_is in
    let rs = registers_after S.table.arch c.args.driver in
    let i = c.loop-register.register-index in
    let is : c.registers_after-register-items.result.now ≡ rs = c.registers_after-register-items.ensures ∙ ap (λ A. registers_after A c.args.driver) same_arch in
    let inside : i < length rs = subst (λ (l : List ℕ). i < length l) is c.loop-register-test.true in
    let r = get_or rs i 0 in
    let known : r < size S = driven S c.args.driver r (after_is S.table.arch c.args.driver r (Contains-get_or rs i 0 inside)).0 in
    let e : get_or c.registers_after-register-items.result.now i 0 ≡ r = ap (λ (l : List ℕ). get_or l i 0) is in
    omega (arith, e, known, c.requires.all)

pub loop-register-preserved : goal.loop-register-preserved
loop-register-preserved c =
    let S = c.args.self.now in
    let time = c.args.time in
    let q = c.args.driver in
    let same_arch : c.self.inside.graph.now.arch ≡ S.table.arch = c.self.invariant.1 ∙ ap (λ (S : Sought). S.table.arch) c.self.view_is in
    let rs = registers_after S.table.arch q in
    let i = c.loop-register.register-index in
    let is : c.registers_after-register-items.result.now ≡ rs = c.registers_after-register-items.ensures ∙ ap (λ A. registers_after A q) same_arch in
    let inside : i < length rs = subst (λ (l : List ℕ). i < length l) is c.loop-register-test.true in
    let r = get_or rs i 0 in
    let x : ℕ = get_or c.registers_after-register-items.result.now i 0 in
    let known : r < size S = driven S q r (after_is S.table.arch q r (Contains-get_or rs i 0 inside)).0 in
    let one : delay_into S r ≡ 1 = (after_is S.table.arch q r (Contains-get_or rs i 0 inside)).1 in
    let e : x ≡ r = ap (λ (l : List ℕ). get_or l i 0) is in
    let ways : List (Option Way) = c.args.ways.now in
    let price = c.loop-register.price in
    let next = c.loop-register.next in
    let old : Option Step = held price next in
    let new : Option Step = held c.match-ways-register.price c.match-ways-register.next in
    elim c.match-ways-register.branch [
      | in-Some+then-found-price w ↦
          let way = w.in-Some.way in
          let p = w.way_price-found.result in
          let found : get_or ways r None ≡ Some way = ap (λ n. get_or ways n None) (sym e) ∙ w.in-Some.is in
          let paid : p ≡ way_price S time r q way = w.way_price-found.ensures.price ∙ ap (λ n. way_price S time n q way) e in
          let cheap = w.way_price-found.ensures.cheap in
          let rest = (p-small w.in-Some.way p (c.requires.cheap x way w.in-Some.is) cheap) in
          let is : new ≡ better old p r = held_is w.price-is w.next-is ∙ held_less price next p x rest w.if-found-price.true ∙ ap (λ n. better old p n) e in
          record {
            best = λ later v. best_seen S time q ways rs i p old new way inside known one found paid is later v (c.loop-register.invariant.best later v);
            below = λ later high v h. below_seen S time q ways rs i p old new way known one found cheap is later high v h (c.loop-register.invariant.below later high v h);
          }
      | in-Some+else-found-price w ↦
          let way = w.in-Some.way in
          let p = w.way_price-found.result in
          let found : get_or ways r None ≡ Some way = ap (λ n. get_or ways n None) (sym e) ∙ w.in-Some.is in
          let paid : p ≡ way_price S time r q way = w.way_price-found.ensures.price ∙ ap (λ n. way_price S time n q way) e in
          let cheap = w.way_price-found.ensures.cheap in
          let rest = (p-small w.in-Some.way p (c.requires.cheap x way w.in-Some.is) cheap) in
          let stays : new ≡ old = held_is w.price-is w.next-is in
          let most : price ≤ p = w.if-found-price.false in
          let is : (later : Layer) → ways ≡ ways_of S time later → new ≡ better old p r = λ later v.
          stays ∙ held_more price next p r rest most (held_before S time q later rs i price next (after_ascends S.table.arch q) inside (omega (arith, rest, most)) (c.loop-register.invariant.best later v)) in
          record {
            best = λ later v. best_seen S time q ways rs i p old new way inside known one found paid (is later v) later v (c.loop-register.invariant.best later v);
            below = λ later high v h s b. c.loop-register.invariant.below later high v h s (sym stays ∙ b);
          }
      | in_default w ↦
          let found : get_or ways r None ≡ None = ap (λ n. get_or ways n None) (sym e) ∙ w.in_default.is in
          let is : new ≡ old = held_is w.price-is w.next-is in
          record {
            best = λ later v.
                subst (λ b. IsBest (λ x. Contains (take (i + 1) rs) x) (at later) (λ x. link S time x q) b) (sym is)
                (best_unseen S time q ways rs i old inside known one found later v (c.loop-register.invariant.best later v));
            below = λ later high v h s b. c.loop-register.invariant.below later high v h s (sym is ∙ b);
          }
    ]

pub returns-clause-best : goal.returns-clause-best
returns-clause-best c = λ later v.
    let S = c.args.self.now in
    let same_arch : c.self.inside.graph.now.arch ≡ S.table.arch = c.self.invariant.1 ∙ ap (λ (S : Sought). S.table.arch) c.self.view_is in
    let rs = registers_after S.table.arch c.args.driver in
    let is : c.registers_after-register-items.result.now ≡ rs = c.registers_after-register-items.ensures ∙ ap (λ A. registers_after A c.args.driver) same_arch in
    let over : length rs ≤ c.loop-register.register-index = subst (λ (l : List ℕ). length l ≤ c.loop-register.register-index) is c.loop-register-test.false in
    subst (λ b. IsBest (λ x. Contains rs x) (at later) (λ x. link S c.args.time x c.args.driver) b) (sym c.held.ensures)
    (subst (λ l. IsBest (λ x. Contains l x) (at later) (λ x. link S c.args.time x c.args.driver) (held c.loop-register.price c.loop-register.next)) (take_all c.loop-register.register-index rs over) (c.loop-register.invariant.best later v))

pub returns-clause-below : goal.returns-clause-below
returns-clause-below c = λ later high v h s b. c.loop-register.invariant.below later high v h s (sym c.held.ensures ∙ b)
