use Rattle.std.proofs.Common.{ℕ, ◌∙◌, ◌+◌, suc, None, cond, List, drop, ap, arith}
use Rattle.std.proofs.lemmas.List.{take_rest, drop_all}
use Rattle.cg_congestion.specs.declared.laws.PlainPosition.{PlainPosition}
use Rattle.cg_congestion.specs.Claims.{claims_at}
use Rattle.cg_congestion.specs.Plain.{plains}
use Rattle.cg_congestion.proofs.Plain.{claims_more, claims_none}
use Rattle.cg_congestion.proofs.laws.count_claims.Goals as goal
use Rattle.cg_congestion.proofs.laws.count_claims.Goals.{then-counts, else-counts}

pub loop-place-preserved : goal.loop-place-preserved
loop-place-preserved c =
    let ii : ℕ = c.args.interval in
    let ps = c.args.positions.now in
    let n = c.args.node in
    let i : ℕ = c.loop-place.place in
    let is = rw take_rest at c.counts.ensures in
    let left : ℕ = claims_at ii (plains (drop (i + 1) ps)) n in
    let more = claims_more ii n ps i (record { source = 0; resource = 0; time = 0; from = None }) c.counts.result c.loop-place-test.true is in
    let before = c.loop-place.invariant.counted in
    let few = c.loop-place.invariant.few in
    elim c.if-counts.branch [
      | then-counts w ↦ let z = more ∙ ap (λ b. cond b (suc left) left) w.if-counts.true in let e = w.count-is in record { counted = omega (arith, z, before, e); few = omega (arith, few, e) }
      | else-counts w ↦ let z = more ∙ ap (λ b. cond b (suc left) left) w.if-counts.false in let e = w.count-is in record { counted = omega (arith, z, before, e); few = omega (arith, few, e) }
    ]

pub returns : goal.returns
returns c =
    let past = c.loop-place-test.false in
    let z = ap (λ (l : List PlainPosition). claims_at c.args.interval (plains l) c.args.node) (drop_all c.loop-place.place c.args.positions.now past) in
    let y = claims_none c.args.interval c.args.node in
    let i = c.loop-place.invariant.counted in
    omega (arith, z, y, i)
