use Rattle.std.proofs.Common.{◌≡◌, ℕ, ◌∙◌, ◌+◌, ◌*◌, ◌%◌, ◌<◌, List, [], length, get_or, sym, ap, subst}
use Rattle.std.proofs.lemmas.List.{get_or_read}
use Rattle.cg_mrrg.specs.Graph as graphs
use Rattle.cg_mrrg.specs.declared.links.MNode.{MNode}
use Rattle.cg_congestion.specs.Kept.{ClaimUse, AreClaims, expand_all}
use Rattle.cg_congestion.specs.Nodes.{IsKept}
use Rattle.cg_congestion.specs.Table.{Table}
use Rattle.cg_congestion.proofs.Tables.{node_within, node_is}
use Rattle.cg_congestion.proofs.Nodes.{are_claims}
use Rattle.cg_congestion.proofs.usage.Usage.claims_at.Goals as goal

pub returns : goal.returns
returns c =
    let g = c.self.inside in
    let kept : IsKept g.arch.now g.interval g.nodes.items g.history.items g.excess = c.self.invariant in
    let n = c.args.node in
    let node : graphs.IsNode (record { arch = g.arch.now; interval = g.interval }) n = subst (λ (T : Table). graphs.IsNode (record { arch = T.arch; interval = T.interval }) n) (sym c.self.view_is) c.requires.node in
    let k : ℕ = n.resource * g.interval + n.slot % g.interval in
    let l : k < length g.nodes.items = node_within g.arch.now g.interval g.nodes.items g.history.items g.excess n kept node in
    let read : c.as_slice.result.now ≡ get_or g.nodes.items k [] = c.as_slice.ensures ∙ get_or_read g.nodes.items k c.index.result.now l (c.index.ensures ∙ ap (λ z. get_or g.nodes.items z c.index.result.now) c.place.ensures) [] in
    subst (λ (T : Table). AreClaims T.interval T.positions n c.as_slice.result.now) c.self.view_is
    (subst (λ (z : List ClaimUse). AreClaims g.interval (expand_all g.interval 0 g.nodes.items) n z) (sym read)
    (subst (λ (z : MNode). AreClaims g.interval (expand_all g.interval 0 g.nodes.items) z (get_or g.nodes.items k [])) (node_is g.arch.now g.interval n node)
    (are_claims g.interval kept.some k g.nodes.items l kept.lists)))
