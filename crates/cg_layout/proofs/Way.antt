-- A way from what is kept of its two chips.
use Rattle.std.proofs.Common.{◌≡◌, ◌∙◌, ap, ℕ, Bool, eqb}
use Rattle.cg_model.specs.Array.{Arch}
use Rattle.cg_layout.specs.Layout.{Frame}
use Rattle.cg_layout.specs.Tiles.{tile_of}
use Rattle.cg_layout.specs.Ways.{Chip, lane, chip, bends_by, way_by, way}

pub way_found : (A : Arch) (F G : Frame) (v q r : ℕ) (same : Bool) (k : ℕ) (a b : Chip) → G ≡ F → same ≡ eqb q r → k ≡ lane v → a ≡ chip A F q → b ≡ chip A F r → way_by G same a.tile b.tile (bends_by G k a b) ≡ way A F v q r
unfolding way
way_found A F G v q r same k a b g s l x y =
    ap (λ z. way_by z same a.tile b.tile (bends_by z k a b)) g
    ∙ ap (λ z. way_by F z a.tile b.tile (bends_by F k a b)) s
    ∙ ap (λ z. way_by F (eqb q r) a.tile b.tile (bends_by F z a b)) l
    ∙ ap (λ z. way_by F (eqb q r) z.tile b.tile (bends_by F (lane v) z b)) x
    ∙ ap (λ z. way_by F (eqb q r) (tile_of A q) z.tile (bends_by F (lane v) (chip A F q) z)) y
