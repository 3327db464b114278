-- The words in a picture. Names have only letters, digits and `_`, so that no character of them has to be escaped in
-- XML.
use Rattle.std.specs.Prelude.{ℕ, ◌-◌, ◌%◌, ◌/◌, nat_le, length, take, List, [], ◌∷◌, ◌++◌, Option, Some, None, if◌then◌else◌, codes, decimal}
use Rattle.cg_word.specs.Word.{name_of}
use Rattle.cg_model.specs.Kernel.{node}
use Rattle.cg_model.specs.Array.{resource, unit}
use Rattle.cg_model.specs.Mapping.{Position, place}
use Rattle.cg_check.specs.Legal.{Mapped}

-- the colour of node v's value: neighbours by number differ
abbrev pub colour : ℕ → ℕ
colour v = v % 7

-- a name of at most n characters: a longer one is cut, and ends with a dot
abbrev pub cut : ℕ → List ℕ → List ℕ
cut n name = if nat_le (length name) n then name else take (n - 1) name ++ 46 ∷ []

-- the names of node v, resource r and unit x
abbrev pub node_name : Mapped → ℕ → List ℕ
node_name m v = (node m.kernel v).name

abbrev pub resource_name : Mapped → ℕ → List ℕ
resource_name m r = (resource m.arch r).name

abbrev pub unit_name : Mapped → ℕ → List ℕ
unit_name m x = (unit m.arch x).name

abbrev pub op_name : Mapped → ℕ → List ℕ
op_name m v = name_of (node m.kernel v).op

-- when node v begins in iteration 0, and its stage
abbrev pub time_of : Mapped → ℕ → ℕ
time_of m v = (place m.mapping v).time

abbrev pub round_of : Mapped → ℕ → ℕ
round_of m t = t / m.mapping.ii

-- an operation with its stage, as `load @1`
abbrev pub op_text : Mapped → ℕ → List ℕ
op_text m v = op_name m v ++ (codes " @" ++ decimal (round_of m (time_of m v)))

-- the title of a node's mark: `x1 load on r0c1_f at 3, stage 1`
abbrev pub start_title : Mapped → ℕ → ℕ → List ℕ
start_title m x v =
    node_name m v ++ (codes " " ++ (op_name m v ++ (codes " on " ++ (unit_name m x ++ (codes " at " ++ (decimal (time_of m v) ++
    (codes ", stage " ++ decimal (round_of m (time_of m v)))))))))

-- where a value comes from
abbrev pub from_text : Mapped → Option ℕ → List ℕ
from_text m None = codes ""
from_text m (Some q) = codes ", from " ++ resource_name m q

-- the title of a value's mark: `x1 on r0c1_h at 3, from r0c0_f_o`
abbrev pub stay_title : Mapped → Position → List ℕ
stay_title m p =
    node_name m p.source ++ (codes " on " ++ (resource_name m p.resource ++ (codes " at " ++ (decimal p.time ++ from_text m p.from))))

-- the title of a line: `x1: r0c0_f_o to r0c1_h at 3`
abbrev pub link_title : Mapped → Position → ℕ → List ℕ
link_title m p q =
    node_name m p.source ++ (codes ": " ++ (resource_name m q ++ (codes " to " ++ (resource_name m p.resource ++ (codes " at " ++ decimal p.time)))))
