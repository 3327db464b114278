use Rattle.std.proofs.Common.{◌≡◌, ℕ, ◌∙◌, ◌+◌, cond, ltb, List, [], length, get_or, map, ap}
use Rattle.std.specs.List.{range_with_len}
use Rattle.std.specs.Vec.{with_items}
use Rattle.std.proofs.lemmas.List.{with_items_is}
use Rattle.cg_congestion.specs.Kept.{ClaimUse}
use Rattle.cg_congestion.specs.Nodes.{table_of}
use Rattle.cg_congestion.specs.Table.{Table, aged}
use Rattle.cg_congestion.proofs.Counts.{aged_is}
use Rattle.cg_congestion.proofs.usage.Usage.age.Goals as goal

pub returns : goal.returns
returns c =
    let g = c.self.inside in
    let T : Table = table_of g.arch.now g.interval g.nodes.items g.history.items in
    let long : length c.age_nodes.new.history ≡ g.history.len = c.age_nodes.auto.history ∙ c.deref_mut.ensures.len in
    let e : (with_items g.history c.age_nodes.new.history).items ≡ aged T =
    with_items_is g.history c.age_nodes.new.history long ∙
    c.age_nodes.ensures ∙
    ap (λ (h : List ℕ). map (λ k. get_or h k 0 + cond (ltb 1 (length (get_or c.deref.result.now k []))) 1 0) (range_with_len 0 (length c.deref.result.now))) c.deref_mut.ensures.value
    ∙ ap (λ (n : List (List ClaimUse)). map (λ k. get_or g.history.items k 0 + cond (ltb 1 (length (get_or n k []))) 1 0) (range_with_len 0 (length n))) c.deref.ensures.value
    ∙ aged_is g.arch.now g.interval g.nodes.items g.history.items g.excess c.self.invariant in
    ap (λ (h : List ℕ). record T { history = h }) e ∙ ap (λ (R : Table). record R { history = aged R }) c.self.view_is
