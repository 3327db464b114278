use Rattle.std.proofs.Common.{◌≡◌, ◌+◌, ◌*◌, sym, ap, ◌∙◌, subst}
use Rattle.std.specs.Prelude.{slice_index, slice_range}
use Rattle.cg_mrrg.specs.Graph.{Graph, IsNode, links_into}
use Rattle.cg_mrrg.proofs.Numbers.{into_lent}
use Rattle.cg_mrrg.proofs.graph.Mrrg.links_into.Goals as goal

pub returns : goal.returns
returns c =
    let g = c.self.inside in
    let n = c.args.node in
    let node : IsNode (record { arch = g.arch.now; interval = g.interval }) n = subst (λ (z : Graph). IsNode z n) (sym c.self.view_is) c.requires in
    let place : c.place.result ≡ n.resource * g.interval + n.slot = c.place.ensures ∙ ap (λ (z : Graph). n.resource * z.interval + n.slot) (sym c.self.view_is) in
    c.get.ensures
    ∙ ap (λ z. slice_range g.into.links.items (slice_index g.into.starts.items z) (slice_index g.into.starts.items (z + 1))) place
    ∙ into_lent g.arch.now g.interval n.resource n.slot g.into.links.items g.into.starts.items c.self.invariant.0.into_parts node.resource node.slot
    ∙ ap (λ (z : Graph). links_into z n) c.self.view_is
