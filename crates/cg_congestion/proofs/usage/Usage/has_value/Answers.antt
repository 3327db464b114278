use Rattle.std.proofs.Common.{◌≡◌, ℕ, ◌∙◌, ◌+◌, ◌*◌, ◌%◌, ◌<◌, eqb, List, [], length, get_or, sym, ap, subst}
use Rattle.std.specs.Prelude.{◌&&◌}
use Rattle.std.specs.List.{list_any}
use Rattle.std.proofs.lemmas.List.{get_or_read}
use Rattle.cg_model.specs.Mapping.{Position}
use Rattle.cg_congestion.specs.Kept.{ClaimUse}
use Rattle.cg_congestion.specs.Nodes.{IsKept}
use Rattle.cg_congestion.specs.Table.{Table}
use Rattle.cg_congestion.proofs.Tables.{place_within}
use Rattle.cg_congestion.proofs.Found.{value_at}
use Rattle.cg_congestion.proofs.usage.Usage.has_value.Goals as goal

pub returns : goal.returns
returns c =
    let g = c.self.inside in
    let kept : IsKept g.arch.now g.interval g.nodes.items g.history.items g.excess = c.self.invariant in
    let r : ℕ = c.args.resource in
    let k : ℕ = r * g.interval + c.args.time % g.interval in
    let known : r < length g.arch.now.resources = subst (λ (T : Table). r < length T.arch.resources) (sym c.self.view_is) c.requires in
    let l : k < length g.nodes.items = subst (λ z. k < z) (sym kept.each) (place_within (length g.arch.now.resources) g.interval r c.args.time kept.some known) in
    let read : c.as_slice.result.now ≡ get_or g.nodes.items k [] = c.as_slice.ensures ∙ get_or_read g.nodes.items k c.index.result.now l (c.index.ensures ∙ ap (λ z. get_or g.nodes.items z c.index.result.now) c.place-place.ensures) [] in
    c.any_value.ensures ∙ ap (λ (z : List ClaimUse). list_any (λ (x : ClaimUse). eqb x.source c.args.source && eqb x.time c.args.time) z) read
    ∙ value_at g.interval kept.some g.nodes.items kept.lists r c.args.time l c.args.source
    ∙ ap (λ (T : Table). list_any (λ (p : Position). eqb p.source c.args.source && eqb p.resource c.args.resource && eqb p.time c.args.time) T.positions) c.self.view_is
