use Rattle.std.proofs.Common.{◌∙◌, sym, ap, map}
use Rattle.std.specs.Prelude.{unwrap_or, is_some}
use Rattle.std.specs.List.{list_all}
use Rattle.cg_layout.proofs.Listed.{tile_listed}
use Rattle.cg_layout.proofs.tiled.Tiled.of.Goals as goal

pub invariant_of-result : goal.invariant_of-result
invariant_of-result c = record {
  tiled = sym (c.are_all.ensures ∙ ap (list_all is_some) (c.as_slice.ensures.value ∙ c.in_ok-found.ensures)) ∙ c.if-not-are_all.false;
  each = tile_listed c.args.arch.now _ (c.in_ok-tiles.ensures ∙ ap (map (λ tile. unwrap_or tile 0)) (c.as_slice-2.ensures.value ∙ c.in_ok-found.ensures));
}
