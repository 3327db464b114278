-- The report on a legal mapping, line by line.
use Rattle.std.specs.Prelude.{ℕ, ◌*◌, List, [], ◌∷◌, ◌++◌, length, flat_map, Option, Some, None, codes, decimal}
use Rattle.cg_model.specs.declared.array.Kind.{Kind}
use Rattle.cg_model.specs.declared.array.Kind.TheVariants.{Wire, Register, Port}
use Rattle.cg_model.specs.Kernel.{Kernel}
use Rattle.cg_model.specs.Array.{Arch}
use Rattle.cg_check.specs.Legal.{Mapped, config_of}
use Rattle.cg_bound.specs.Text.{chain_text, set_text}
use Rattle.cg_occupancy.specs.Counts.{busy_units, busy_slots, resources_of, taken_slots}
use Rattle.cg_show_table.specs.declared.margin.LongChain.{LongChain}
use Rattle.cg_show_table.specs.declared.margin.FullClass.{FullClass}
use Rattle.cg_show_table.specs.declared.margin.Margin.{Margin}
use Rattle.cg_show_table.specs.Columns.{grid_lines}

-- the interval and the stages
abbrev pub interval_line : Mapped → List ℕ
interval_line m = codes "ii " ++ (decimal m.mapping.ii ++ (codes "  stages " ++ decimal (config_of m).stages))

-- the number of units that begin a node, and the share of their slots
abbrev pub units_line : Mapped → List ℕ
units_line m =
    codes "units " ++ (decimal (busy_units m) ++ (codes " of " ++ (decimal (length m.arch.units) ++ (codes "  busy " ++
    (decimal (busy_slots m) ++ (codes " of " ++ (decimal (length m.arch.units * m.mapping.ii) ++ codes " slots")))))))

-- the share of slots in which the resources of a kind carry a value
abbrev pub taken_text : Mapped → Kind → List ℕ
taken_text m kind = decimal (taken_slots m kind) ++ (codes " of " ++ decimal (resources_of m kind * m.mapping.ii))

abbrev pub resources_line : Mapped → List ℕ
resources_line m =
    codes "registers " ++ (taken_text m Register ++ (codes " slots  wires " ++ (taken_text m Wire ++ (codes "  ports " ++ taken_text m Port))))

abbrev pub least_text : ℕ → List ℕ
least_text n = codes " (least interval " ++ (decimal n ++ codes ")")

-- the longest recurrence, and the fullest class of operations
abbrev pub longest_line : Arch → Kernel → LongChain → List ℕ
longest_line A K c = codes "recurrence:" ++ (chain_text A K c.edges.items ++ least_text c.least)

abbrev pub chain_line : Arch → Kernel → Option LongChain → List ℕ
chain_line A K None = codes "recurrence: none"
chain_line A K (Some c) = longest_line A K c

abbrev pub fullest_line : Arch → Kernel → FullClass → List ℕ
fullest_line A K c = codes "fullest class:" ++ (set_text A K c.ops ++ least_text c.least)

abbrev pub class_line : Arch → Kernel → Option FullClass → List ℕ
class_line A K None = codes "fullest class: none"
class_line A K (Some c) = fullest_line A K c

-- the lines before the table, and those after it
abbrev pub count_lines : Mapped → List (List ℕ)
count_lines m = interval_line m ∷ units_line m ∷ resources_line m ∷ []

abbrev pub margin_lines : Arch → Kernel → Margin → List (List ℕ)
margin_lines A K margin = chain_line A K margin.chain ∷ class_line A K margin.«class» ∷ []

-- all lines
unfoldable pub table_lines : Mapped → Margin → List (List ℕ)
table_lines m margin = count_lines m ++ (grid_lines m ++ margin_lines m.arch m.kernel margin)

-- the lines as a text
unfoldable pub text_of : List (List ℕ) → List ℕ
text_of lines = flat_map (λ line. line ++ 10 ∷ []) lines
