use Rattle.std.proofs.Common.{◌≡◌, ◌≢◌, ◌∙◌, ◌+◌, ◌-◌, ◌^◌, ◌<◌, Bool, true, false, List, Option, None, length, length-set, get_or, set, sym, subst, ap, arith, ⊎_elim}
use Rattle.std.proofs.lemmas.Bool.{cases_eq, false≢true}
use Rattle.std.proofs.lemmas.List.{get_or-set_same, get_or-set_other}
use Rattle.cg_route.specs.Layers.{Sought, AreOpen, Step, Layer, IsBest, IsBelow, Drives, delay_into, at, cost, size}
use Rattle.cg_route.proofs.Carries.{through_registers, put_below, is_met}
use Rattle.cg_route.proofs.search.Search.carry.Goals as goal
use Rattle.cg_route.proofs.search.Search.carry.Goals.{then-index, else-index}

pub loop-resource-preserved : goal.loop-resource-preserved
loop-resource-preserved c =
    let S = c.args.self.now in
    let s = c.args.time in
    let t = s - 1 in
    let i = c.loop-resource.resource in
    let old : Layer = c.loop-resource.here.items in
    let new : Layer = c.if-index.here.items in
    let all = c.loop-resource.invariant.all in
    let some = c.requires.some in
    let count : c.self.inside.count ≡ size S = c.self.invariant.3 ∙ ap (λ (S : Sought). size S) c.self.view_is in
    let test = c.loop-resource-test.true in
    let known : i < length old = omega (arith, test, count, all) in
    elim c.if-index.branch [
      | then-index w ↦
          let e : Option Step = w.best.result in
          let is : new ≡ set old i e = ap (λ v. v.items) w.here-is in
          record {
            all = ap (λ (l : Layer). length l) is ∙ length-set old i e ∙ all;
            each = λ later v q o l.
                ⊎_elim
                (λ (a : q ≡ i).
                subst (λ y. IsBest (λ x. Drives S y x × (delay_into S x ≡ 1) × (x < size S)) (at later) (cost S y t) (at new y)) (sym a)
                (subst (λ b. IsBest (λ x. Drives S i x × (delay_into S x ≡ 1) × (x < size S)) (at later) (cost S i t) b) (sym (ap (λ l. at l i) is ∙ get_or-set_same old i e None known))
                (through_registers S t s i later e (omega (arith, some)) (w.best.ensures.best later v))))
                (λ (a : q ≢ i).
                subst (λ b. IsBest (λ x. Drives S q x × (delay_into S x ≡ 1) × (x < size S)) (at later) (cost S q t) b) (sym (ap (λ l. at l q) is ∙ get_or-set_other old i q e None a))
                (c.loop-resource.invariant.each later v q o (omega (arith, a, l))))
                (cases_eq q i);
            below = λ later high v h. subst (λ l. IsBelow (high + 2 ^ 52) l) (sym is) (put_below (high + 2 ^ 52) old i e known (c.loop-resource.invariant.below later high v h) (w.best.ensures.below later high v h));
          }
      | else-index w ↦
          let is : new ≡ old = ap (λ v. v.items) w.here-is in
          let met : List Bool = c.self.inside.met.items in
          let marks : AreOpen S.table.arch S.from met = subst (λ (S : Sought). AreOpen S.table.arch S.from met) c.self.view_is c.self.invariant.5 in
          let closed : get_or met i false ≡ false = ap (λ b. get_or met i b) (sym w.if-index.false) ∙ sym c.index.ensures ∙ w.if-index.false in
          record {
            all = ap (λ (l : Layer). length l) is ∙ all;
            each = λ later v q o l.
                subst (λ l. IsBest (λ x. Drives S q x × (delay_into S x ≡ 1) × (x < size S)) (at later) (cost S q t) (at l q)) (sym is)
                (c.loop-resource.invariant.each later v q o
                (⊎_elim (λ (a : q ≡ i). absurd (false≢true (sym closed ∙ subst (λ y. get_or met y false ≡ true) a (is_met S met q marks o)))) (λ (a : q ≢ i). omega (arith, a, l)) (cases_eq q i)));
            below = λ later high v h. subst (λ l. IsBelow (high + 2 ^ 52) l) (sym is) (c.loop-resource.invariant.below later high v h);
          }
    ]

pub returns-clause-begun : goal.returns-clause-begun
returns-clause-begun c = λ later w.
    let S = c.args.self.now in
    let count : c.self.inside.count ≡ size S = c.self.invariant.3 ∙ ap (λ (S : Sought). size S) c.self.view_is in
    let over = c.loop-resource-test.false in
    record {
      all = c.loop-resource.invariant.all;
      each = λ q o. c.loop-resource.invariant.each later w q o (let l = o.0 in omega (arith, count, over));
    }
