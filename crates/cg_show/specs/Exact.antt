-- The marks of each panel, by the node that each unit begins and the value that each resource carries in its slot.
use Rattle.std.specs.Prelude.{◌≡◌, ℕ, ◌<◌, true, false, List, [], ◌++◌, length, Option, Some, None, flat_map, slice_index_or}
use Rattle.cg_check.specs.Legal.{Mapped}
use Rattle.cg_occupancy.specs.Marks.{start_at, stay_at}
use Rattle.cg_layout.specs.Tiles.{is_tiled}
use Rattle.cg_layout.specs.Layout.{frame_of, seat, box}
use Rattle.cg_show.specs.Marked.{start_mark, stay_mark, link_from, cell_mark}
use Rattle.cg_show.specs.Panels.{grid_with, column_with, panel_text}
use Rattle.cg_show.specs.Foot.{foot_text}
use Rattle.cg_show.specs.Picture.{panels_in, picture_text}

-- the text has one piece for each number below n, in order, and no more: the mark of what is at the number, and nothing
-- where nothing is there
pub record AreMarks {T : Type 0} (at : ℕ → Option T) (mark : ℕ → T → List ℕ) (n : ℕ) (text : List ℕ) : Type 0 where
  pub pieces : List (List ℕ)
  pub each : length pieces ≡ n
  pub joined : text ≡ flat_map (λ piece. piece) pieces
  pub marked : (k : ℕ) (v : T) → k < n → at k ≡ Some v → slice_index_or pieces k [] ≡ mark k v
  pub bare : (k : ℕ) → k < n → at k ≡ None → slice_index_or pieces k [] ≡ []

-- a grid has the line of the link that brings a value to each resource that carries one in slot s, the node that each
-- unit begins there, in its box, and the value that each resource carries, on its chip
pub record ShowsGrid (m : Mapped) (s : ℕ) (text : List ℕ) : Type 0 where
  pub links : List ℕ
  pub starts : List ℕ
  pub stays : List ℕ
  pub whole : text ≡ grid_with m s links starts stays
  pub linked : AreMarks (λ r. stay_at m r s) (λ r p. link_from m p p.from) (length m.arch.resources) links
  pub started : AreMarks (λ x. start_at m x s) (λ x v. start_mark m x (box m.arch (frame_of m.arch) x) v) (length m.arch.units) starts
  pub stayed : AreMarks (λ r. stay_at m r s) (λ r p. stay_mark m (seat m.arch (frame_of m.arch) r) p) (length m.arch.resources) stays

-- a column has the value that each resource carries in slot s, in its cell
pub record ShowsColumn (m : Mapped) (s : ℕ) (text : List ℕ) : Type 0 where
  pub cells : List ℕ
  pub whole : text ≡ column_with s cells
  pub celled : AreMarks (λ r. stay_at m r s) (cell_mark m) (length m.arch.resources) cells

-- the panel of each slot shows what happens in it, and no more, and the picture has the panel of each slot for which
-- there is room
pub record ShowsSlots (m : Mapped) (lines : List (List ℕ)) : Type 0 where
  pub grid : (s : ℕ) → is_tiled m.arch ≡ true → ShowsGrid m s (panel_text m s)
  pub column : (s : ℕ) → is_tiled m.arch ≡ false → ShowsColumn m s (panel_text m s)
  pub placed : (s : ℕ) → s < panels_in m (length (foot_text m lines)) →
      (before : List ℕ) × (after : List ℕ) × (picture_text m lines ≡ before ++ (panel_text m s ++ after))
