use Rattle.std.proofs.Common.{◌≡◌, ◌∙◌, ◌+◌, max, ap, length, arith}
use Rattle.cg_list_laws.specs.Below.{greatest_below}
use Rattle.cg_layout.specs.Tiles.{row_of, tile_of}
use Rattle.cg_list_laws.proofs.Gathered.{none_great, greater, larger}
use Rattle.cg_layout.proofs.tiled.Tiled.rows.Goals as goal

pub loop-resource-init : goal.loop-resource-init
loop-resource-init c = (none_great (λ r. row_of (tile_of c.args.self.now r) + 1), omega arith)

pub loop-resource-preserved : goal.loop-resource-preserved
loop-resource-preserved c =
    let most = c.loop-resource.invariant.1 in
    let is : c.max-most.result ≡ max c.loop-resource.most (row_of c.tile.result + 1) = c.max-most.ensures ∙ larger c.loop-resource.most (row_of c.tile.result + 1) in
    let here = c.tile.ensures.small in
    (greater (λ r. row_of (tile_of c.args.self.now r) + 1) c.loop-resource.resource c.loop-resource.most _ _ c.loop-resource.invariant.0 (ap (λ t. row_of t + 1) c.tile.ensures.value) is, omega (arith, most, here, is))

pub returns-clause-value : goal.returns-clause-value
returns-clause-value c =
    let last : c.loop-resource.resource ≡ length c.args.self.now.resources = omega (arith, c.resource_count-resource-end.ensures.value) in
    c.loop-resource.invariant.0 ∙ ap (greatest_below (λ r. row_of (tile_of c.args.self.now r) + 1)) last
