-- Panels and the whole picture, by what is printed one after the other.
use Rattle.std.proofs.Common.{◌≡◌, ℕ, ◌+◌, ◌*◌, Bool, true, false, cond, List, [], ◌++◌, length, sym, ap, ◌∙◌}
use Rattle.std.specs.Prelude.{codes}
use Rattle.cg_model.specs.Array.{Arch}
use Rattle.cg_check.specs.Legal.{Mapped}
use Rattle.cg_list_laws.specs.Below.{lists_below}
use Rattle.cg_layout.specs.Tiles.{is_tiled}
use Rattle.cg_layout.specs.Svg.{group_head}
use Rattle.cg_show.specs.Panels.{grid_panel, column_panel, panel_text}
use Rattle.cg_show.specs.Foot.{foot_text, report_top}
use Rattle.cg_show.specs.Picture.{grid_text, table_text, shared_text, head_with, panels_in, panels_bottom, picture_width, picture_height, picture_with, picture_text}
use Rattle.cg_show.proofs.Steps.{joined}

pub grid_shown : (m : Mapped) (s : ℕ) → is_tiled m.arch ≡ true → grid_panel m s ≡ panel_text m s
unfolding panel_text
grid_shown m s tiled = ap (λ (b : Bool). cond b (grid_panel m s) (column_panel m s)) (sym tiled)

pub column_shown : (m : Mapped) (s : ℕ) → is_tiled m.arch ≡ false → column_panel m s ≡ panel_text m s
unfolding panel_text
column_shown m s tiled = ap (λ (b : Bool). cond b (grid_panel m s) (column_panel m s)) (sym tiled)

pub grid_shared : (m : Mapped) (A : Arch) → A ≡ m.arch → is_tiled m.arch ≡ true → grid_text A ≡ shared_text m
grid_shared m A same tiled = ap grid_text same ∙ ap (λ (b : Bool). cond b (grid_text m.arch) (table_text m)) (sym tiled)

pub table_shared : (m : Mapped) → is_tiled m.arch ≡ false → table_text m ≡ shared_text m
table_shared m tiled = ap (λ (b : Bool). cond b (grid_text m.arch) (table_text m)) (sym tiled)

pub height_is : (m : Mapped) (n : ℕ) (lines : List (List ℕ)) (bottom top count : ℕ) → bottom ≡ panels_bottom m n → top ≡ report_top m → count ≡ length lines
    → bottom + top + 16 * count + 40 ≡ picture_height m n lines
height_is m n lines bottom top count is_bottom is_top is_count =
    ap (λ z. z + top + 16 * count + 40) is_bottom ∙ ap (λ z. panels_bottom m n + z + 16 * count + 40) is_top ∙ ap (λ z. panels_bottom m n + report_top m + 16 * z + 40) is_count

pub picture_is : (m : Mapped) (lines : List (List ℕ)) (old a b d e f panels foot : List ℕ) (n width height bottom : ℕ)
    → old ≡ [] → foot ≡ foot_text m lines → n ≡ panels_in m (length foot) → panels ≡ lists_below (panel_text m) n
    → width ≡ picture_width m → height ≡ picture_height m n lines → bottom ≡ panels_bottom m n
    → a ≡ old ++ head_with m width height n
    → b ≡ a ++ panels
    → d ≡ b ++ group_head 30 bottom
    → e ≡ d ++ foot
    → f ≡ e ++ codes "</g>\n</svg>\n"
    → f ≡ picture_text m lines
unfolding picture_text
picture_is m lines old a b d e f panels foot n width height bottom is_old is_foot is_n is_panels is_width is_height is_bottom head first group last end =
    joined old (head_with m width height n) a f _ head (joined a panels b f _ first (joined b (group_head 30 bottom) d f _ group (joined d foot e f _ last end)))
    ∙ ap (λ z. z ++ (head_with m width height n ++ (panels ++ (group_head 30 bottom ++ (foot ++ codes "</g>\n</svg>\n"))))) is_old
    ∙ ap (λ z. head_with m z height n ++ (panels ++ (group_head 30 bottom ++ (foot ++ codes "</g>\n</svg>\n")))) is_width
    ∙ ap (λ z. head_with m (picture_width m) z n ++ (panels ++ (group_head 30 bottom ++ (foot ++ codes "</g>\n</svg>\n")))) is_height
    ∙ ap (λ z. head_with m (picture_width m) (picture_height m n lines) n ++ (z ++ (group_head 30 bottom ++ (foot ++ codes "</g>\n</svg>\n")))) is_panels
    ∙ ap (λ z. head_with m (picture_width m) (picture_height m n lines) n ++ (lists_below (panel_text m) n ++ (group_head 30 z ++ (foot ++ codes "</g>\n</svg>\n")))) is_bottom
    ∙ ap (λ z. picture_with m lines foot z) is_n
    ∙ ap (λ z. picture_with m lines z (panels_in m (length z))) is_foot
