-- The marks of each panel, by the definitions of its text.
use Rattle.std.proofs.Common.{◌≡◌, ℕ, zero, suc, ◌+◌, ◌<◌, ◌≤◌, true, false, List, [], ◌∷◌, ◌++◌, length, get_or, Option, Some, None, refl, sym, ap, ◌∙◌, subst, arith, ⊎_elim, append_assoc}
use Rattle.std.specs.Prelude.{codes, flat_map}
use Rattle.std.proofs.lemmas.Bool.{cases_lt}
use Rattle.std.proofs.lemmas.List.{append-nil, flat_map_more, get_or_append_left, get_or_push}
use Rattle.cg_model.specs.Mapping.{Position}
use Rattle.cg_check.specs.Legal.{Mapped}
use Rattle.cg_list_laws.specs.Below.{lists_below}
use Rattle.cg_list_laws.proofs.Grown.{length_of_items}
use Rattle.cg_occupancy.specs.Marks.{start_at, stay_at}
use Rattle.cg_layout.specs.Tiles.{is_tiled}
use Rattle.cg_layout.specs.Layout.{frame_of, seat, box}
use Rattle.cg_layout.specs.Svg.{group_head}
use Rattle.cg_show.specs.Marked.{start_mark, start_by, start_in, starts_text, stay_mark, stay_by, stay_in, stays_text, link_from, link_by, link_in, links_text, cell_mark, cell_by, cell_in, cells_text}
use Rattle.cg_show.specs.Panels.{panel_text}
use Rattle.cg_show.specs.Foot.{foot_text}
use Rattle.cg_show.specs.Picture.{head_with, panels_in, panels_bottom, picture_width, picture_height, picture_text}
use Rattle.cg_show.specs.Exact.{AreMarks, ShowsGrid, ShowsColumn, ShowsSlots}
use Rattle.cg_show.proofs.Pictured.{grid_shown, column_shown}

-- ---- pieces

items_joined : (f : ℕ → List ℕ) (n : ℕ) → lists_below f n ≡ flat_map (λ piece. piece) (lists_below (λ k. f k ∷ []) n)
unfolding lists_below
items_joined f zero = refl
items_joined f (suc n) = ap (λ z. z ++ f n) (items_joined f n) ∙ flat_map_more (λ (piece : List ℕ). piece) [] (lists_below (λ k. f k ∷ []) n) (f n)

item_at : (f : ℕ → List ℕ) (n k : ℕ) → k < n → get_or (lists_below (λ j. f j ∷ []) n) k [] ≡ f k
unfolding lists_below
item_at f zero k l = absurd (omega arith)
item_at f (suc n) k l =
    let long : length (lists_below (λ j. f j ∷ []) n) ≡ n = length_of_items f n in
    ⊎_elim
    (λ (b : k < n). get_or_append_left (lists_below (λ j. f j ∷ []) n) (f n ∷ []) [] k (omega arith) ∙ item_at f n k b)
    (λ (b : n ≤ k). let e : k ≡ n = omega arith in subst (λ z. get_or (lists_below (λ j. f j ∷ []) n ++ f n ∷ []) z [] ≡ f z) (sym e) (get_or_push (lists_below (λ j. f j ∷ []) n) (f n) [] n long))
    (cases_lt k n)

-- marks, by what each piece is
marks_of : {T : Type 0} (at : ℕ → Option T) (mark : ℕ → T → List ℕ) (piece : ℕ → List ℕ) (n : ℕ) →
    ((k : ℕ) (v : T) → at k ≡ Some v → piece k ≡ mark k v) → ((k : ℕ) → at k ≡ None → piece k ≡ []) → AreMarks at mark n (lists_below piece n)
marks_of at mark piece n some none =
    record {
      pieces = lists_below (λ k. piece k ∷ []) n;
      each = length_of_items piece n;
      joined = items_joined piece n;
      marked = λ k v l e. item_at piece n k l ∙ some k v e;
      bare = λ k l e. item_at piece n k l ∙ none k e;
    }

module _ (m : Mapped) (s : ℕ) where
  links_marked : AreMarks (λ r. stay_at m r s) (λ r (p : Position). link_from m p p.from) (length m.arch.resources) (links_text m s)
  unfolding links_text
  links_marked = marks_of (λ r. stay_at m r s) (λ r (p : Position). link_from m p p.from) (link_in m s) (length m.arch.resources) (λ r p e. ap (link_by m) e) (λ r e. ap (link_by m) e)

  starts_marked : AreMarks (λ x. start_at m x s) (λ x v. start_mark m x (box m.arch (frame_of m.arch) x) v) (length m.arch.units) (starts_text m s)
  unfolding starts_text
  starts_marked = marks_of (λ x. start_at m x s) (λ x v. start_mark m x (box m.arch (frame_of m.arch) x) v) (start_in m s) (length m.arch.units) (λ x v e. ap (start_by m x) e) (λ x e. ap (start_by m x) e)

  stays_marked : AreMarks (λ r. stay_at m r s) (λ r p. stay_mark m (seat m.arch (frame_of m.arch) r) p) (length m.arch.resources) (stays_text m s)
  unfolding stays_text
  stays_marked = marks_of (λ r. stay_at m r s) (λ r p. stay_mark m (seat m.arch (frame_of m.arch) r) p) (stay_in m s) (length m.arch.resources) (λ r p e. ap (stay_by m r) e) (λ r e. ap (stay_by m r) e)

  cells_marked : AreMarks (λ r. stay_at m r s) (cell_mark m) (length m.arch.resources) (cells_text m s)
  unfolding cells_text
  cells_marked = marks_of (λ r. stay_at m r s) (cell_mark m) (cell_in m s) (length m.arch.resources) (λ r p e. ap (cell_by m r) e) (λ r e. ap (cell_by m r) e)

  shows_grid : is_tiled m.arch ≡ true → ShowsGrid m s (panel_text m s)
  shows_grid tiled = record { links = links_text m s; starts = starts_text m s; stays = stays_text m s; whole = sym (grid_shown m s tiled); linked = links_marked; started = starts_marked; stayed = stays_marked }

  shows_column : is_tiled m.arch ≡ false → ShowsColumn m s (panel_text m s)
  shows_column tiled = record { cells = cells_text m s; whole = sym (column_shown m s tiled); celled = cells_marked }

-- ---- the panels of a picture

-- a list has the parts of the numbers below n
has_part : (f : ℕ → List ℕ) (n k : ℕ) → k < n → (before : List ℕ) × (after : List ℕ) × (lists_below f n ≡ before ++ (f k ++ after))
unfolding lists_below
has_part f zero k l = absurd (omega arith)
has_part f (suc n) k l =
    ⊎_elim {C = (before : List ℕ) × (after : List ℕ) × (lists_below f n ++ f n ≡ before ++ (f k ++ after))}
    (λ (b : k < n).
    let (before, after, e) = has_part f n k b in
    (before, after ++ f n, ap (λ z. z ++ f n) e ∙ append_assoc before (f k ++ after) (f n) ∙ ap (λ z. before ++ z) (append_assoc (f k) after (f n))))
    (λ (b : n ≤ k). let e : n ≡ k = omega arith in (lists_below f n, [], ap (λ z. lists_below f n ++ z) (ap f e ∙ sym (append-nil (f k)))))
    (cases_lt k n)

-- and a longer one too
part_within : (head text rest part : List ℕ) → (before : List ℕ) × (after : List ℕ) × (text ≡ before ++ (part ++ after)) →
    (before : List ℕ) × (after : List ℕ) × (head ++ (text ++ rest) ≡ before ++ (part ++ after))
part_within head text rest part (before, after, e) = (
  head ++ before,
  after ++ rest,
  ap (λ z. head ++ (z ++ rest)) e ∙ ap (λ z. head ++ z) (append_assoc before (part ++ after) rest ∙ ap (λ z. before ++ z) (append_assoc part after rest)) ∙ sym (append_assoc head before (part ++ (after ++ rest))),
)

has_panel : (m : Mapped) (lines : List (List ℕ)) (s : ℕ) → s < panels_in m (length (foot_text m lines)) →
    (before : List ℕ) × (after : List ℕ) × (picture_text m lines ≡ before ++ (panel_text m s ++ after))
unfolding picture_text
has_panel m lines s l =
    let foot = foot_text m lines in
    let n = panels_in m (length foot) in
    part_within (head_with m (picture_width m) (picture_height m n lines) n) (lists_below (panel_text m) n) (group_head 30 (panels_bottom m n) ++ (foot ++ codes "</g>\n</svg>\n")) (panel_text m s)
    (has_part (panel_text m) n s l)

pub shows_slots : (m : Mapped) (lines : List (List ℕ)) → ShowsSlots m lines
shows_slots m lines = record { grid = shows_grid m; column = shows_column m; placed = has_panel m lines }
