use Rattle.std.proofs.Common.{◌≡◌, ◌∙◌, ℕ, ◌-◌, ◌<◌, List, ◌∷◌, None, length, sym, ap, subst, arith, inl}
use Rattle.std.specs.declared.vec.Vec.{Vec}
use Rattle.std.specs.declared.alloc.Global.{Global}
use Rattle.cg_model.specs.Array.{Arch}
use Rattle.cg_congestion.specs.Table.{Table}
use Rattle.cg_route.specs.Least.{IsLeastPath, IsTimedPath, AreNear}
use Rattle.cg_route.specs.Layers.{Layer, Leads, Follows, at, layer_at, size}
use Rattle.cg_route.proofs.Cases.{some_then, none_then}
use Rattle.cg_route.proofs.Chains.{is_least, is_none, least_told, path_told}
use Rattle.cg_route.proofs.Grows.{leads}
use Rattle.cg_route.proofs.least.least_path.Goals as goal

pub trace-requires-clause-leads : goal.trace-requires-clause-leads
trace-requires-clause-leads c =
    let S = c.in_ok-search.search in
    let ls : List Layer = c.in_ok-layers.layers.items in
    let last = c.args.end - c.args.start in
    subst (λ l. Leads S l) (sym c.deref.ensures.value) (leads S ls last c.in_ok-layers.ensures.all (let z = c.in_ok-search.ensures.end in omega arith) c.in_ok-layers.ensures.layers)

pub returns-clause-least : goal.returns-clause-least
returns-clause-least c =
    let S = c.in_ok-search.search in
    let e = c.in_ok-search.ensures in
    let ls : List Layer = c.in_ok-layers.layers.items in
    let last = c.args.end - c.args.start in
    let from = c.args.from in
    let all = c.in_ok-layers.ensures.all in
    let order = c.if-end-start.false in
    let known : from < size S = subst (λ (A : Arch). from < length A.resources) (c.requires.arch ∙ ap (λ (T : Table). T.arch) (sym e.table)) c.requires.from in
    some_then (λ (path : Vec ℕ Global). (rest : List ℕ) × (path.items ≡ from ∷ rest) × Follows S c.deref.result.now last from rest)
    (λ (path : Vec ℕ Global). IsLeastPath c.args.usage.now c.args.source (record { from = from; start = c.args.start; to = c.args.to; end = c.args.end }) path.items) c.trace.result
    (λ path p.
    let f : Follows S ls last from p.0 = subst (λ l. Follows S l last from p.0) c.deref.ensures.value p.2 in
    subst (λ l. IsLeastPath c.args.usage.now c.args.source (record { from = from; start = c.args.start; to = c.args.to; end = c.args.end }) l) (sym p.1)
    (least_told S c.args.usage.now c.args.source c.args.to c.args.end e.table e.source e.to e.end from c.args.start (from ∷ p.0)
    (is_least S ls c.in_ok-layers.ensures.layers from c.args.start last p.0 (known, inl (sym e.from)) (omega (arith, all)) (omega (arith, e.end, order)) f))) c.trace.ensures.path

pub returns-clause-none : goal.returns-clause-none
returns-clause-none c =
    let S = c.in_ok-search.search in
    let e = c.in_ok-search.ensures in
    let ls : List Layer = c.in_ok-layers.layers.items in
    let last = c.args.end - c.args.start in
    let from = c.args.from in
    let all = c.in_ok-layers.ensures.all in
    let order = c.if-end-start.false in
    let known : from < size S = subst (λ (A : Arch). from < length A.resources) (c.requires.arch ∙ ap (λ (T : Table). T.arch) (sym e.table)) c.requires.from in
    none_then (at (layer_at c.deref.result.now last) from ≡ None)
    (AreNear c.args.usage.now.interval (record { from = from; start = c.args.start; to = c.args.to; end = c.args.end }) → (path : List ℕ) → IsTimedPath c.args.usage.now.arch (record { from = from; start = c.args.start; to = c.args.to; end = c.args.end }) path → ⊥) c.trace.result
    (λ p near path w.
    is_none S ls c.in_ok-layers.ensures.layers from c.args.start last (known, inl (sym e.from)) (omega (arith, all)) (omega (arith, e.end, order))
    (subst (λ l. at (layer_at l last) from ≡ None) c.deref.ensures.value p) path (path_told S c.args.usage.now c.args.source c.args.to c.args.end e.table e.source e.to e.end from c.args.start path w)) c.trace.ensures.none
