use Rattle.std.proofs.Common.{◌∙◌, ◌+◌, ◌-◌, ℕ, List, sym, ap, arith}
use Rattle.std.proofs.lemmas.List.{length-map}
use Rattle.cg_model.specs.Mapping.{Position}
use Rattle.cg_mrrg.specs.Nodes.{node_at}
use Rattle.cg_congestion.specs.Claims.{excess_at, excess_below, claims_at}
use Rattle.cg_congestion.specs.Plain.{plain, plains}
use Rattle.cg_congestion.proofs.Plain.{excess_le}
use Rattle.cg_congestion.proofs.laws.excess_of.Goals as goal
use Rattle.cg_model.proofs.Ranges.{sum_more}

pub loop-place-preserved : goal.loop-place-preserved
loop-place-preserved c =
    let ii : ℕ = c.args.interval in
    let ps : List Position = plains c.args.positions.now in
    let k : ℕ = c.loop-place.place in
    let part = c.saturating_sub-total.ensures ∙ ap (λ n. n - 1) (c.count_claims.ensures ∙ ap (claims_at ii ps) c.node.ensures) in
    ap (λ n. n + c.saturating_sub-total.result) c.loop-place.invariant ∙ ap (λ n. excess_below ii ps k + n) part ∙ sym (sum_more (λ j. excess_at ii ps (node_at ii j)) k)

pub overflow_add-total : goal.overflow_add-total
overflow_add-total c =
    let ii : ℕ = c.args.interval in
    let ps : List Position = plains c.args.positions.now in
    let k : ℕ = c.loop-place.place in
    let part = c.saturating_sub-total.ensures ∙ ap (λ n. n - 1) (c.count_claims.ensures ∙ ap (claims_at ii ps) c.node.ensures) in
    let e = ap (λ n. n + c.saturating_sub-total.result) c.loop-place.invariant ∙ ap (λ n. excess_below ii ps k + n) part ∙ sym (sum_more (λ j. excess_at ii ps (node_at ii j)) k) in
    let le = excess_le ii (k + 1) ps in
    let long = length-map c.args.positions.now plain in
    let few = c.requires.room in
    omega (arith, e, le, long, few)
