use Rattle.std.proofs.Common.{◌≡◌, ◌-◌, ◌*◌, ◌^◌, ◌≤◌, ℕ, [], length, ap, ap₂, refl, ◌∙◌, arith}
use Rattle.cg_model.specs.Kernel.{node}
use Rattle.cg_recur.specs.Edges.{latency}
use Rattle.cg_bound_registers.specs.declared.sums.Of.TheVariants.{From}
use Rattle.cg_bound_registers.specs.Pressure.{stays, pulls, from}
use Rattle.cg_bound_registers.proofs.Summed.{at_stays, at_pulls, sum_more, op_at, product_le}
use Rattle.cg_bound_registers.proofs.check.gains.Goals as goal

pub loop-w-preserved : goal.loop-w-preserved
loop-w-preserved c =
    let A = c.args.arch.now in
    let K = c.args.kernel.now in
    let p = c.args.p.now in
    let w = c.loop-w.w in
    let ln = ap length c.nodes-nodes.ensures.nodes in
    let a : c.sum_stays-out.result ≡ stays K p (from w) = at_stays K p [] (From w) c.deref.result.now c.sum_stays-out.result c.sum_stays-out.ensures.value c.deref.ensures.value in
    let b : c.sum_pulls-back.result ≡ pulls K p (from w) = at_pulls K p [] (From w) c.deref-in-loop-w.result.now c.sum_pulls-back.result c.sum_pulls-back.ensures.value c.deref-in-loop-w.ensures.value in
    let f : ℕ → ℕ = λ w. (pulls K p (from w) - stays K p (from w)) * latency A (node K w).op in
    let o = c.latency.ensures ∙ ap (λ z. latency A z) (op_at K c.nodes-nodes.result.now w c.index-nodes-w.result c.nodes-nodes.ensures.nodes (omega (arith, ln))) in
    let s = c.saturating_sub.ensures ∙ ap₂ (λ x y. x - y) b a in
    (sum_more w c.saturating_sub.result c.latency.result c.loop-w.gain f (pulls K p (from w)) (stays K p (from w)) (latency A (node K w).op) c.loop-w.invariant.0 s o refl, (let m : c.saturating_sub.result * c.latency.result ≤ 2 ^ 80 * 4 = product_le c.saturating_sub.result c.latency.result (2 ^ 80) 4 (omega arith) (let q = c.latencies_are_small.ensures (node K w).op in omega (arith, o, q)) in omega arith))
