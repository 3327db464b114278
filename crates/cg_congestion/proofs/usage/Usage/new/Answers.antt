use Rattle.std.proofs.Common.{ℕ, ◌∙◌, ◌*◌, [], length, sym, ap}
use Rattle.std.specs.Prelude.{replicate}
use Rattle.cg_model.specs.Array.{Arch}
use Rattle.cg_congestion.specs.Table.{Table}
use Rattle.cg_congestion.proofs.Tables.{no_kept, no_table}
use Rattle.cg_congestion.proofs.usage.Usage.new.Goals as goal

pub invariant_of-result : goal.invariant_of-result
invariant_of-result c =
    let A : Arch = c.arch.result.now in
    let ii : ℕ = c.interval-interval.result in
    no_kept A ii (c.resources.result * ii) c.in_ok-no_claims.field-0.items c.in_ok-vec.field-0.items c.interval-interval.ensures.some c.interval-interval.ensures.few
    (ap (λ z. z * ii) (c.resources.ensures ∙ ap (λ (B : Arch). length B.resources) (sym c.arch.ensures))) c.in_ok-no_claims.ensures (c.in_ok-vec.ensures.items_if_clones_equal (λ y e. e))

pub returns : goal.returns
returns c =
    let A : Arch = c.arch.result.now in
    let ii : ℕ = c.interval-interval.result in
    let table : Arch → ℕ → ℕ → Table = λ B i n. record { arch = B; interval = i; positions = []; history = replicate n 0 } in
    no_table A ii (c.resources.result * ii) c.in_ok-no_claims.field-0.items c.in_ok-vec.field-0.items c.in_ok-no_claims.ensures (c.in_ok-vec.ensures.items_if_clones_equal (λ y e. e))
    ∙ ap (λ z. table z ii (c.resources.result * ii)) c.arch.ensures ∙ ap (λ z. table c.args.graph.now.arch ii (z * ii)) c.resources.ensures
    ∙ ap (λ z. table c.args.graph.now.arch z (length c.args.graph.now.arch.resources * z)) c.interval-interval.ensures.value
