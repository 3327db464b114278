use Rattle.std.proofs.Common.{◌≡◌, ◌∙◌, ◌+◌, ◌-◌, ◌*◌, ◌∷◌, ◌++◌, [], List, length, sym, subst, ap, arith}
use Rattle.std.proofs.lemmas.List.{length_push}
use Rattle.cg_route.specs.Layers.{Layer, IsLayer, AreLayers, IsWithin, later_at, layer_at, size}
use Rattle.cg_route.proofs.Grows.{layers_more, later_is, layer_end}
use Rattle.cg_route.proofs.search.Search.layers.Goals as goal

pub layer-requires-clause-all : goal.layer-requires-clause-all
layer-requires-clause-all c = λ some.
    let S = c.args.self.now in
    let k = c.loop-k.k in
    let ls = c.loop-k.layers.items in
    let all = c.loop-k.invariant.all in
    let here = c.requires.time in
    let is : c.later.result.now ≡ layer_at ls (k - 1) = c.later.ensures ∙ ap (λ l. later_at l k) c.deref.ensures.value ∙ later_is ls k some in
    ap (λ (l : Layer). length l) is ∙ (c.loop-k.invariant.layers.each (k - 1) (S.end - (k - 1)) (omega (arith, some, all)) (let l = c.loop-k-test.true in omega arith)).all

pub loop-k-preserved : goal.loop-k-preserved
loop-k-preserved c =
    let S = c.args.self.now in
    let k = c.loop-k.k in
    let t = S.end - k in
    let ls : List Layer = c.loop-k.layers.items in
    let here : Layer = c.in_ok-here.here in
    let all = c.loop-k.invariant.all in
    let time = c.requires.time in
    let is : c.later.result.now ≡ later_at ls k = c.later.ensures ∙ ap (λ l. later_at l k) c.deref.ensures.value in
    let new : IsLayer S k t (later_at ls k) here = subst (λ l. IsLayer S k t l here) is c.in_ok-here.ensures.layer in
    let more : AreLayers S (ls ++ here ∷ []) = layers_more S ls here k t (sym all) (let l = c.loop-k-test.true in omega arith) c.loop-k.invariant.layers new in
    record {
      all = ap (λ (l : List Layer). length l) c.in_ok-push.ensures.items ∙ length_push ls here ∙ ap (λ n. n + 1) all;
      layers = subst (λ l. AreLayers S l) (sym c.in_ok-push.ensures.items) more;
      within =
          subst (λ l. IsWithin ((k + 1) * (size S + 1)) (later_at l (k + 1))) (sym c.in_ok-push.ensures.items)
          (subst (λ l. IsWithin ((k + 1) * (size S + 1)) l) (sym (later_is (ls ++ here ∷ []) (k + 1) (omega arith) ∙ layer_end ls here (k + 1 - 1) (omega (arith, all)))) c.in_ok-here.ensures.within);
    }
