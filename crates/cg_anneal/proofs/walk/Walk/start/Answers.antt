use Rattle.std.proofs.Common.{◌≡◌, ◌∙◌, List, length, sym, ap, subst, arith}
use Rattle.cg_model.specs.Kernel.{IsKernel}
use Rattle.cg_walk_spec.specs.declared.edge.EdgeOperand.{EdgeOperand}
use Rattle.cg_walk_spec.specs.Walk.{unrouted_start}
use Rattle.cg_walk_spec.proofs.Small.{edges_few}
use Rattle.cg_place.specs.Posed.{Posed, IsTask}
use Rattle.cg_anneal.proofs.Ready.{ready, posed}
use Rattle.cg_anneal.proofs.Keeping as keeping
use Rattle.cg_anneal.proofs.walk.Walk.start.Goals as goal

pub start-requires-clause-early : goal.start-requires-clause-early
start-requires-clause-early c =
    let t = subst IsTask (sym (posed c.args.task.now c.arch-arch.result.now c.kernel-kernel.result.now c.interval-ii.result c.early.result.now c.arch-arch.ensures c.kernel-kernel.ensures c.interval-ii.ensures c.early.ensures)) c.holds.ensures in
    let r = ready (record { arch = c.arch-arch.result.now; kernel = c.kernel-kernel.result.now; ii = c.interval-ii.result; early = c.early.result.now }) t in
    record { each = r.each; soon = λ v l. let s = r.soon v l in omega (arith, s) }

pub overflow_cast-missing : goal.overflow_cast-missing
overflow_cast-missing c =
    let valid = subst IsKernel (sym c.kernel-kernel.ensures) c.holds.ensures.kernel in
    let few = edges_few c.kernel-kernel.result.now valid in
    let long = ap (λ (xs : List EdgeOperand). length xs) c.in_ok-edges.ensures in
    let h = c.len-missing.ensures in
    let ok = c.in_ok-edges.edges.ok.0 in
    omega (arith, few, long, h, ok)

pub invariant_of-result : goal.invariant_of-result
invariant_of-result c =
    let same = posed c.args.task.now c.arch-arch.result.now c.kernel-kernel.result.now c.interval-ii.result c.early.result.now c.arch-arch.ensures c.kernel-kernel.ensures c.interval-ii.ensures c.early.ensures in
    let t = subst IsTask (sym same) c.holds.ensures in
    let es = c.in_ok-edges.edges.items in
    let ok = c.in_ok-edges.edges.ok.0 in
    let h = c.len-missing.ensures in
    let i = c.len.ensures in
    let n : c.len.result ≡ length es = omega (arith, i, ok) in
    let l : c.len-missing.result ≡ length es = omega (arith, h, ok) in
    let hg = c.requires ∙ ap (λ (X : Posed). record { arch = X.arch; interval = X.ii }) (sym same) in
    keeping.kept_start c.arch-arch.result.now c.kernel-kernel.result.now c.interval-ii.result c.early.result.now t.arch t.kernel (ready (record { arch = c.arch-arch.result.now; kernel = c.kernel-kernel.result.now; ii = c.interval-ii.result; early = c.early.result.now }) t) c.args.graph.now es c.in_ok-placement.placement c.in_ok-usage.usage c.len.result c.len-missing.result c.in_ok-routes.routes.items
    hg c.in_ok-edges.ensures c.in_ok-placement.ensures.value c.in_ok-usage.ensures n l c.in_ok-routes.ensures

pub returns : goal.returns
returns c =
    let same = posed c.args.task.now c.arch-arch.result.now c.kernel-kernel.result.now c.interval-ii.result c.early.result.now c.arch-arch.ensures c.kernel-kernel.ensures c.interval-ii.ensures c.early.ensures in
    let t = subst IsTask (sym same) c.holds.ensures in
    let es = c.in_ok-edges.edges.items in
    let ok = c.in_ok-edges.edges.ok.0 in
    let h = c.len-missing.ensures in
    let i = c.len.ensures in
    let n : c.len.result ≡ length es = omega (arith, i, ok) in
    let l : c.len-missing.result ≡ length es = omega (arith, h, ok) in
    let hg = c.requires ∙ ap (λ (X : Posed). record { arch = X.arch; interval = X.ii }) (sym same) in
    let start = keeping.start_is c.arch-arch.result.now c.kernel-kernel.result.now c.interval-ii.result c.early.result.now t.arch t.kernel (ready (record { arch = c.arch-arch.result.now; kernel = c.kernel-kernel.result.now; ii = c.interval-ii.result; early = c.early.result.now }) t) c.args.graph.now es c.in_ok-placement.placement c.in_ok-usage.usage c.len.result c.len-missing.result c.in_ok-routes.routes.items
    hg c.in_ok-edges.ensures c.in_ok-placement.ensures.value c.in_ok-usage.ensures n l c.in_ok-routes.ensures in
    start ∙ ap (λ (X : Posed). record { arch = X.arch; kernel = X.kernel; ii = X.ii; early = X.early; state = unrouted_start X.arch X.kernel X.ii X.early }) same
