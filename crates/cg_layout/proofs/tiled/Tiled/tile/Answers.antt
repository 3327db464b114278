use Rattle.std.proofs.Common.{◌≡◌, ◌∙◌, ap, get_or, arith}
use Rattle.cg_layout.specs.Tiles.{tile_of}
use Rattle.cg_layout.proofs.Listed.{tile_small}
use Rattle.cg_layout.proofs.tiled.Tiled.tile.Goals as goal

pub returns-clause-small : goal.returns-clause-small
returns-clause-small c =
    let A = c.self.inside.arch.now in
    let is : get_or c.as_slice-tiles.result.now c.args.resource 0 ≡ tile_of A c.args.resource = ap (λ z. get_or z c.args.resource 0) c.as_slice-tiles.ensures.value ∙ c.self.invariant.each c.args.resource in
    omega (arith, is, tile_small A c.args.resource)
