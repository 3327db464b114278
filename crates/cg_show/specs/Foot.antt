-- The part of a picture below the panels: one iteration in time, and the lines of the report.
use Rattle.std.specs.Prelude.{ℕ, ◌+◌, List, [], ◌∷◌, ◌++◌, codes, decimal}
use Rattle.cg_check.specs.Legal.{Mapped}
use Rattle.cg_occupancy.specs.Counts.{busy_units}
use Rattle.cg_show.specs.Schedule.{schedule_text, row_top}

-- a line of the report
abbrev pub report_line : ℕ → List ℕ → List ℕ
report_line y line = codes "<text class='m' xml:space='preserve' x='0' y='" ++ (decimal y ++ (codes "'>" ++ (line ++ codes "</text>\n")))

abbrev pub report_text : ℕ → List (List ℕ) → List ℕ
report_text y [] = []
report_text y (line ∷ lines) = report_line y line ++ report_text (y + 16) lines

abbrev pub report_top : Mapped → ℕ
report_top m = row_top (busy_units m) + 40

-- one iteration in time, and the report
unfoldable pub foot_text : Mapped → List (List ℕ) → List ℕ
foot_text m lines = schedule_text m ++ report_text (report_top m) lines
