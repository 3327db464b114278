-- The marks of a picture: a node in the box of its unit, a value on the chip of a resource, and the line of a link.
use Rattle.std.specs.Prelude.{ℕ, ◌+◌, ◌*◌, List, [], ◌++◌, Option, Some, None, length, codes, decimal}
use Rattle.cg_model.specs.declared.array.Kind.{Kind}
use Rattle.cg_model.specs.declared.array.Kind.TheVariants.{Wire, Register, Port, Out}
use Rattle.cg_model.specs.Array.{resource}
use Rattle.cg_model.specs.Mapping.{Position}
use Rattle.cg_check.specs.Legal.{Mapped}
use Rattle.cg_list_laws.specs.Below.{lists_below}
use Rattle.cg_occupancy.specs.Marks.{start_at, stay_at}
use Rattle.cg_layout.specs.declared.spot.Spot.{Spot}
use Rattle.cg_layout.specs.Layout.{frame_of, seat, box}
use Rattle.cg_layout.specs.Svg.{rect_text, words_text, ring_text, path_text, mark_text}
use Rattle.cg_layout.specs.Ways.{way}
use Rattle.cg_show.specs.Words.{colour, cut, node_name, op_text, start_title, stay_title, link_title, round_of}

-- ---- nodes

-- node v in the box of unit x, which begins there
abbrev pub start_inside : Mapped → ℕ → Spot → List ℕ
start_inside m v b =
    rect_text (codes "b") (record { x = b.x; y = b.y; width = 84; height = 36 })
    ++ (words_text (codes "n") (b.x + 42) (b.y + 16) (cut 12 (node_name m v)) ++ words_text (codes "o") (b.x + 42) (b.y + 29) (op_text m v))

abbrev pub start_mark : Mapped → ℕ → Spot → ℕ → List ℕ
start_mark m x b v = mark_text (colour v) (start_title m x v) (start_inside m v b)

abbrev pub start_by : Mapped → ℕ → Option ℕ → List ℕ
start_by m x None = []
start_by m x (Some v) = start_mark m x (box m.arch (frame_of m.arch) x) v

-- the mark of unit x in slot s, and those of all units
abbrev pub start_in : Mapped → ℕ → ℕ → List ℕ
start_in m s x = start_by m x (start_at m x s)

unfoldable pub starts_text : Mapped → ℕ → List ℕ
starts_text m s = lists_below (start_in m s) (length m.arch.units)

-- ---- values

abbrev pub stay_inside : Mapped → Position → Spot → List ℕ
stay_inside m p b =
    rect_text (codes "b") (record { x = b.x; y = b.y; width = 33; height = 12 })
    ++ words_text (codes "r") (b.x + 16) (b.y + 9) (cut 7 (node_name m p.source))

abbrev pub stay_mark : Mapped → Spot → Position → List ℕ
stay_mark m b p = mark_text (colour p.source) (stay_title m p) (stay_inside m p b)

abbrev pub stay_by : Mapped → ℕ → Option Position → List ℕ
stay_by m r None = []
stay_by m r (Some p) = stay_mark m (seat m.arch (frame_of m.arch) r) p

-- the mark of resource r in slot s, and those of all resources
abbrev pub stay_in : Mapped → ℕ → ℕ → List ℕ
stay_in m s r = stay_by m r (stay_at m r s)

unfoldable pub stays_text : Mapped → ℕ → List ℕ
stays_text m s = lists_below (stay_in m s) (length m.arch.resources)

-- ---- links

-- a link into a register takes a cycle: its line is dashed, with a ring where the value was a cycle before
abbrev pub line_class : Kind → List ℕ
line_class Register = codes "l d"
line_class Wire = codes "l"
line_class Port = codes "l"
line_class Out = codes "l"

abbrev pub ring_by : Kind → Spot → List ℕ
ring_by Register b = ring_text (b.x + 33) (b.y + 6)
ring_by Wire b = []
ring_by Port b = []
ring_by Out b = []

abbrev pub link_inside : Mapped → Position → ℕ → List ℕ
link_inside m p q =
    path_text (line_class (resource m.arch p.resource).kind) (way m.arch (frame_of m.arch) p.source q p.resource)
    ++ ring_by (resource m.arch p.resource).kind (seat m.arch (frame_of m.arch) q)

abbrev pub link_from : Mapped → Position → Option ℕ → List ℕ
link_from m p None = []
link_from m p (Some q) = mark_text (colour p.source) (link_title m p q) (link_inside m p q)

abbrev pub link_by : Mapped → Option Position → List ℕ
link_by m None = []
link_by m (Some p) = link_from m p p.from

-- the line of the link that brings a value to resource r in slot s, and those of all resources
abbrev pub link_in : Mapped → ℕ → ℕ → List ℕ
link_in m s r = link_by m (stay_at m r s)

unfoldable pub links_text : Mapped → ℕ → List ℕ
links_text m s = lists_below (link_in m s) (length m.arch.resources)

-- ---- cells of a table

-- a value in the row of its resource: its name, and its stage
abbrev pub cell_words : Mapped → Position → List ℕ
cell_words m p = cut 10 (node_name m p.source) ++ (codes " @" ++ decimal (round_of m p.time))

abbrev pub cell_inside : Mapped → ℕ → Position → List ℕ
cell_inside m r p =
    rect_text (codes "b") (record { x = 0; y = 14 + 18 * r; width = 100; height = 16 })
    ++ words_text (codes "o") 50 (26 + 18 * r) (cell_words m p)

abbrev pub cell_mark : Mapped → ℕ → Position → List ℕ
cell_mark m r p = mark_text (colour p.source) (stay_title m p) (cell_inside m r p)

abbrev pub cell_by : Mapped → ℕ → Option Position → List ℕ
cell_by m r None = []
cell_by m r (Some p) = cell_mark m r p

-- the cell of resource r in slot s, and those of all resources
abbrev pub cell_in : Mapped → ℕ → ℕ → List ℕ
cell_in m s r = cell_by m r (stay_at m r s)

unfoldable pub cells_text : Mapped → ℕ → List ℕ
cells_text m s = lists_below (cell_in m s) (length m.arch.resources)
