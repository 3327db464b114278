use Rattle.std.proofs.Common.{◌≡◌, ℕ, ◌∙◌, ◌+◌, ◌*◌, ◌%◌, ◌<◌, [], length, get_or, sym, ap, subst, arith}
use Rattle.std.proofs.lemmas.List.{get_or_read}
use Rattle.cg_mrrg.specs.Graph as graphs
use Rattle.cg_congestion.specs.Nodes.{IsKept}
use Rattle.cg_congestion.specs.Table.{Table}
use Rattle.cg_congestion.specs.Table as tables
use Rattle.cg_congestion.proofs.Tables.{node_within}
use Rattle.cg_congestion.proofs.Nodes.{claims_le}
use Rattle.cg_congestion.proofs.Counts.{toll_is}
use Rattle.cg_congestion.proofs.usage.Usage.toll.Goals as goal

pub returns-clause-toll : goal.returns-clause-toll
returns-clause-toll c =
    let g = c.self.inside in
    let kept : IsKept g.arch.now g.interval g.nodes.items g.history.items g.excess = c.self.invariant in
    let n = c.args.node in
    let node : graphs.IsNode (record { arch = g.arch.now; interval = g.interval }) n = subst (λ (T : Table). graphs.IsNode (record { arch = T.arch; interval = T.interval }) n) (sym c.self.view_is) c.requires.node in
    let k : ℕ = n.resource * g.interval + n.slot % g.interval in
    let l : k < length g.nodes.items = node_within g.arch.now g.interval g.nodes.items g.history.items g.excess n kept node in
    let m : k < length g.history.items = subst (λ z. k < z) (kept.each ∙ sym kept.histories) l in
    let count : c.len.result ≡ length (get_or g.nodes.items k []) =
    c.len.ensures ∙ ap length (get_or_read g.nodes.items k c.index-2.result.now l (c.index-2.ensures ∙ ap (λ z. get_or g.nodes.items z c.index-2.result.now) c.place-place.ensures) []) in
    let past : c.from.result ≡ get_or g.history.items k 0 =
    c.from.ensures ∙ get_or_read g.history.items k c.index.result.now m (c.index.ensures ∙ ap (λ z. get_or g.history.items z c.index.result.now) c.place-place.ensures) 0 in
    ap (λ z. 1 + z + 8 * c.len.result) past ∙ ap (λ z. 1 + get_or g.history.items k 0 + 8 * z) count
    ∙ toll_is g.arch.now g.interval g.nodes.items g.history.items g.excess n kept node ∙ ap (λ (T : Table). tables.toll T n) c.self.view_is

pub returns-clause-small : goal.returns-clause-small
returns-clause-small c =
    let g = c.self.inside in
    let kept : IsKept g.arch.now g.interval g.nodes.items g.history.items g.excess = c.self.invariant in
    let n = c.args.node in
    let node : graphs.IsNode (record { arch = g.arch.now; interval = g.interval }) n = subst (λ (T : Table). graphs.IsNode (record { arch = T.arch; interval = T.interval }) n) (sym c.self.view_is) c.requires.node in
    let k : ℕ = n.resource * g.interval + n.slot % g.interval in
    let l : k < length g.nodes.items = node_within g.arch.now g.interval g.nodes.items g.history.items g.excess n kept node in
    let count : c.len.result ≡ length (get_or g.nodes.items k []) =
    c.len.ensures ∙ ap length (get_or_read g.nodes.items k c.index-2.result.now l (c.index-2.ensures ∙ ap (λ z. get_or g.nodes.items z c.index-2.result.now) c.place-place.ensures) []) in
    let le = claims_le g.interval g.nodes.items k l kept.lists in
    let room = kept.room in
    let from = c.from.ensures in
    let i = c.index.type_inv in
    omega (arith, count, le, room, from)

pub overflow_mul-result : goal.overflow_mul-result
overflow_mul-result c =
    let g = c.self.inside in
    let kept : IsKept g.arch.now g.interval g.nodes.items g.history.items g.excess = c.self.invariant in
    let n = c.args.node in
    let node : graphs.IsNode (record { arch = g.arch.now; interval = g.interval }) n = subst (λ (T : Table). graphs.IsNode (record { arch = T.arch; interval = T.interval }) n) (sym c.self.view_is) c.requires.node in
    let k : ℕ = n.resource * g.interval + n.slot % g.interval in
    let l : k < length g.nodes.items = node_within g.arch.now g.interval g.nodes.items g.history.items g.excess n kept node in
    let count : c.len.result ≡ length (get_or g.nodes.items k []) =
    c.len.ensures ∙ ap length (get_or_read g.nodes.items k c.index-2.result.now l (c.index-2.ensures ∙ ap (λ z. get_or g.nodes.items z c.index-2.result.now) c.place-place.ensures) []) in
    let le = claims_le g.interval g.nodes.items k l kept.lists in
    let room = kept.room in
    let from = c.from.ensures in
    let i = c.index.type_inv in
    omega (arith, count, le, room, from)

pub overflow_add-result-2 : goal.overflow_add-result-2
overflow_add-result-2 c =
    let g = c.self.inside in
    let kept : IsKept g.arch.now g.interval g.nodes.items g.history.items g.excess = c.self.invariant in
    let n = c.args.node in
    let node : graphs.IsNode (record { arch = g.arch.now; interval = g.interval }) n = subst (λ (T : Table). graphs.IsNode (record { arch = T.arch; interval = T.interval }) n) (sym c.self.view_is) c.requires.node in
    let k : ℕ = n.resource * g.interval + n.slot % g.interval in
    let l : k < length g.nodes.items = node_within g.arch.now g.interval g.nodes.items g.history.items g.excess n kept node in
    let count : c.len.result ≡ length (get_or g.nodes.items k []) =
    c.len.ensures ∙ ap length (get_or_read g.nodes.items k c.index-2.result.now l (c.index-2.ensures ∙ ap (λ z. get_or g.nodes.items z c.index-2.result.now) c.place-place.ensures) []) in
    let le = claims_le g.interval g.nodes.items k l kept.lists in
    let room = kept.room in
    let from = c.from.ensures in
    let i = c.index.type_inv in
    omega (arith, count, le, room, from)
