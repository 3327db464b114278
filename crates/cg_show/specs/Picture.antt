-- The picture of a legal mapping (SVG 1.1): panels, one iteration in time below them, and the lines of the report.
use Rattle.std.specs.Prelude.{ℕ, ◌+◌, ◌-◌, ◌*◌, ◌/◌, max, min, nat_lt, List, [], ◌++◌, length, if◌then◌else◌, codes, decimal}
use Rattle.cg_model.specs.Array.{Arch}
use Rattle.cg_check.specs.Legal.{Mapped, config_of}
use Rattle.cg_list_laws.specs.Below.{lists_below}
use Rattle.cg_layout.specs.Tiles.{is_tiled}
use Rattle.cg_layout.specs.Layout.{frame_of, panel_width, panel_height}
use Rattle.cg_layout.specs.Svg.{words_text, group_head}
use Rattle.cg_show.specs.declared.style.TheConstants.{STYLE}
use Rattle.cg_show.specs.Panels.{tiles_text, boxes_text, column_text, rows_text, panel_text, shown}
use Rattle.cg_show.specs.Schedule.{cycles}
use Rattle.cg_show.specs.Foot.{foot_text, report_top}

-- the look of each class, and seven colours that people with red-green blindness can distinguish, each with its arrow
abbrev pub style_text : List ℕ
style_text = STYLE.now

-- ---- the head

-- the number of bytes for panels and the foot
abbrev pub most_bytes : ℕ
most_bytes = 16000000

-- the number of panels for which there is room
abbrev pub panels_in : Mapped → ℕ → ℕ
panels_in m foot = shown m (most_bytes - foot) m.mapping.ii

-- the size of the panels that are shown
abbrev pub panels_width : Mapped → ℕ
panels_width m = if is_tiled m.arch then 60 + (panel_width (frame_of m.arch) + 24) * min 3 m.mapping.ii else 290 + 104 * m.mapping.ii

abbrev pub panels_bottom : Mapped → ℕ → ℕ
panels_bottom m n =
    if is_tiled m.arch then 70 + (panel_height (frame_of m.arch) + 40) * ((n + 2) / 3) else 110 + 18 * length m.arch.resources

abbrev pub picture_width : Mapped → ℕ
picture_width m = max (panels_width m) (max (330 + 48 * cycles m) 900)

abbrev pub picture_height : Mapped → ℕ → List (List ℕ) → ℕ
picture_height m n lines = panels_bottom m n + report_top m + 16 * length lines + 40

abbrev pub svg_head : ℕ → ℕ → List ℕ
svg_head width height =
    codes "<svg xmlns='http://www.w3.org/2000/svg' xmlns:xlink='http://www.w3.org/1999/xlink' version='1.1' width='" ++ (decimal width ++
    (codes "' height='" ++ (decimal height ++ codes "' font-family='monospace'>\n")))

-- the elements that all panels share
abbrev pub grid_text : Arch → List ℕ
grid_text A = codes "<defs><g id='tiles'>" ++ (tiles_text A ++ (codes "</g><g id='boxes'>" ++ (boxes_text A ++ codes "</g></defs>\n")))

abbrev pub table_text : Mapped → List ℕ
table_text m = codes "<defs><g id='tiles'>" ++ (column_text m.arch ++ (codes "</g></defs>\n" ++ rows_text m))

abbrev pub shared_text : Mapped → List ℕ
shared_text m = if is_tiled m.arch then grid_text m.arch else table_text m

-- the name, and which slots are left out
abbrev pub title_text : Mapped → List ℕ
title_text m =
    words_text (codes "h") 30 28 (m.arch.name ++ (codes ": interval " ++ (decimal m.mapping.ii ++ (codes ", stages " ++ decimal (config_of m).stages))))

abbrev pub left_out : ℕ → ℕ → List ℕ
left_out n ii =
    if nat_lt n ii
    then words_text (codes "o") 330 46 (codes "slots " ++ (decimal n ++ (codes " to " ++ (decimal (ii - 1) ++ codes " are left out: there is no room for them in 16 MB"))))
    else []

unfoldable pub head_with : Mapped → ℕ → ℕ → ℕ → List ℕ
head_with m width height n =
    (svg_head width height ++ style_text) ++ (shared_text m ++ (title_text m ++ left_out n m.mapping.ii))

-- ---- the whole

abbrev pub picture_with : Mapped → List (List ℕ) → List ℕ → ℕ → List ℕ
picture_with m lines foot n =
    head_with m (picture_width m) (picture_height m n lines) n ++ (lists_below (panel_text m) n ++ (group_head 30 (panels_bottom m n) ++ (foot ++ codes "</g>\n</svg>\n")))

unfoldable pub picture_text : Mapped → List (List ℕ) → List ℕ
picture_text m lines = picture_with m lines (foot_text m lines) (panels_in m (length (foot_text m lines)))
