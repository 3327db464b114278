use Rattle.std.proofs.Common.{◌≡◌, ◌∙◌, ◌+◌, ◌-◌, ◌*◌, ◌++◌, length, take, drop, sym, subst, ap, arith}
use Rattle.std.proofs.Math.Seq.{take-append_seam}
use Rattle.cg_route.specs.Layers.{Layer, IsBegun, IsLayer, IsWithin, size}
use Rattle.cg_route.proofs.search.Search.layer.Goals as goal

pub returns-clause-layer : goal.returns-clause-layer
returns-clause-layer c =
    let S = c.args.self.now in
    let k = c.args.k in
    let t = S.end - k in
    let later : Layer = c.args.later.now in
    let old : Layer = c.in_ok-here.here.items in
    let new : Layer = c.settle.new.here in
    let lent : c.deref_mut.result.now ≡ old = c.deref_mut.ensures.value in
    let long : c.in_ok-here.here.len ≡ length new = (let a = c.settle.auto.here in let b = ap (λ (l : Layer). length l) lent in let d = c.in_ok-here.here.ok.0 in omega arith) in
    let whole : c.new.result ≡ new = c.new.ensures ∙ ap (λ n. take n (new ++ drop (length new) old)) long ∙ take-append_seam new (drop (length new) old) in
    subst (λ l. IsLayer S k t later l) (sym whole) (c.settle.ensures.settled later (subst (λ l. IsBegun S t (size S) later l) (sym lent) c.in_ok-here.ensures.begun))

pub returns-clause-within : goal.returns-clause-within
returns-clause-within c =
    let S = c.args.self.now in
    let k = c.args.k in
    let old : Layer = c.in_ok-here.here.items in
    let new : Layer = c.settle.new.here in
    let long : c.in_ok-here.here.len ≡ length new = (let a = c.settle.auto.here in let b = ap (λ (l : Layer). length l) c.deref_mut.ensures.value in let d = c.in_ok-here.here.ok.0 in omega arith) in
    let whole : c.new.result ≡ new = c.new.ensures ∙ ap (λ n. take n (new ++ drop (length new) old)) long ∙ take-append_seam new (drop (length new) old) in
    subst (λ l. IsWithin ((k + 1) * (size S + 1)) l) (sym whole) c.settle.ensures.within
