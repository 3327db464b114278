-- One iteration in time: a row for each unit that begins a node, a column for each cycle, a bar for each node over its
-- latency.
use Rattle.std.specs.Prelude.{ℕ, suc, ◌+◌, ◌-◌, ◌*◌, ◌%◌, nat_lt, List, [], ◌++◌, Option, Some, None, length, if◌then◌else◌, codes, decimal}
use Rattle.cg_model.specs.Kernel.{size}
use Rattle.cg_model.specs.Array.{unit}
use Rattle.cg_model.specs.Mapping.{place}
use Rattle.cg_check.specs.Legal.{Mapped, config_of}
use Rattle.cg_list_laws.specs.Below.{lists_below, count_below, greatest_below}
use Rattle.cg_occupancy.specs.Marks.{start_at}
use Rattle.cg_occupancy.specs.Counts.{starts_of, busy_units}
use Rattle.cg_layout.specs.Svg.{rect_text, words_text, mark_text}
use Rattle.cg_show.specs.Words.{colour, cut, node_name, unit_name, start_title, time_of}

-- the latency of the unit of node v, and the cycle after its last one
abbrev pub latency_of : Mapped → ℕ → ℕ
latency_of m v = (unit m.arch (place m.mapping v).unit).latency

abbrev pub end_of : Mapped → ℕ → ℕ
end_of m v = time_of m v + latency_of m v

unfoldable pub cycles : Mapped → ℕ
cycles m = greatest_below (end_of m) (size m.kernel)

-- where cycle t begins, and the row of a number
abbrev pub cycle_left : ℕ → ℕ
cycle_left t = 260 + 48 * t

abbrev pub row_top : ℕ → ℕ
row_top k = 46 + 28 * k

-- the numbers of the cycles
abbrev pub cycle_part : ℕ → List ℕ
cycle_part t = words_text (codes "o") (cycle_left t + 24) 36 (decimal t)

unfoldable pub cycles_text : Mapped → List ℕ
cycles_text m = lists_below cycle_part (cycles m)

-- a line before each stage and after the last, over a height of n rows
abbrev pub stage_line : Mapped → ℕ → ℕ → List ℕ
stage_line m n k = codes "M" ++ (decimal (cycle_left (m.mapping.ii * k)) ++ (codes " 42V" ++ decimal (row_top n)))

unfoldable pub stages_text : Mapped → List ℕ
stages_text m = codes "<path class='g' d='" ++ (lists_below (stage_line m (busy_units m)) (suc (config_of m).stages) ++ codes "'/>")

-- the cycles after a node's first one: nodes on which a unit works at the same time have separate lines
abbrev pub tail_text : ℕ → ℕ → ℕ → List ℕ
tail_text t latency top =
    if nat_lt 1 latency then rect_text (codes "k") (record { x = cycle_left (t + 1); y = top + 17 + 2 * (t % 4); width = 48 * (latency - 1) - 2; height = 1 }) else []

-- the bar of node v on unit x
abbrev pub bar_text : Mapped → ℕ → ℕ → ℕ → List ℕ
bar_text m x top v =
    mark_text (colour v) (start_title m x v)
    (rect_text (codes "b") (record { x = cycle_left (time_of m v) + 1; y = top; width = 46; height = 16 })
    ++ (words_text (codes "o") (cycle_left (time_of m v) + 24) (top + 12) (cut 8 (node_name m v))
    ++ tail_text (time_of m v) (latency_of m v) top))

abbrev pub bar_by : Mapped → ℕ → ℕ → Option ℕ → List ℕ
bar_by m x top None = []
bar_by m x top (Some v) = bar_text m x top v

abbrev pub bar_in : Mapped → ℕ → ℕ → ℕ → List ℕ
bar_in m x top s = bar_by m x top (start_at m x s)

-- the name of unit x and its bars
abbrev pub unit_row : Mapped → ℕ → ℕ → List ℕ
unit_row m x top = words_text (codes "a") 252 (top + 12) (unit_name m x) ++ lists_below (bar_in m x top) m.mapping.ii

-- the number of rows before that of unit x
abbrev pub row_number : Mapped → ℕ → ℕ
row_number m x = count_below (λ y. nat_lt 0 (starts_of m y)) x

abbrev pub row_by : Mapped → ℕ → List ℕ
row_by m x = if nat_lt 0 (starts_of m x) then unit_row m x (row_top (row_number m x)) else []

unfoldable pub bars_text : Mapped → List ℕ
bars_text m = lists_below (row_by m) (length m.arch.units)

unfoldable pub schedule_text : Mapped → List ℕ
schedule_text m =
    words_text (codes "h") 0 12 (codes "one turn in time: " ++ (decimal (cycles m) ++ codes " cycles"))
    ++ (cycles_text m ++ (stages_text m ++ bars_text m))
