-- The assignments of a bench before the run: the configuration in the cells, the image, and the expected result.
use Rattle.std.specs.Prelude.{ℕ, ◌+◌, ◌*◌, Bool, List, [], ◌++◌, length, slice_index, codes, decimal, eqb, Option, Some, None, if◌then◌else◌}
use Rattle.cg_word.specs.declared.op.Op.{Op}
use Rattle.cg_word.specs.Word.{code, name_of}
use Rattle.cg_model.specs.declared.array.Kind.{Kind}
use Rattle.cg_model.specs.declared.array.Kind.TheVariants.{Wire, Register, Port, Out}
use Rattle.cg_model.specs.Limits.{port_count}
use Rattle.cg_model.specs.Work.{Image, Left}
use Rattle.cg_model.specs.Array.{Arch, resource, unit}
use Rattle.cg_model.specs.declared.config.UnitFields.{UnitFields}
use Rattle.cg_model.specs.declared.config.ArgFields.{ArgFields}
use Rattle.cg_model.specs.Config.{Config, arg, select, fields}
use Rattle.cg_list_laws.specs.Below.{lists_below}
use Rattle.cg_testbench.specs.Pieces.{port_letter}
use Rattle.cg_testbench.specs.Sizes.{stream, taken, sent}
use Rattle.cg_testbench.specs.Lines.{number_line, word_line, memory_line, left_memory_line, input_line, left_output_line, length_line}

-- ---- the configuration

-- the prefix of the name of the cell that drives the select of a resource
abbrev pub select_prefix : Kind → List ℕ
select_prefix Wire = codes "c_"
select_prefix Port = codes "c_"
select_prefix Register = codes "p_"
select_prefix Out = codes "c_"

abbrev pub select_cell : Arch → ℕ → List ℕ
select_cell A r = select_prefix (resource A r).kind ++ (resource A r).name

-- the select of resource r in a slot
abbrev pub select_line : Arch → Config → ℕ → ℕ → List ℕ
select_line A C slot r = number_line (select_cell A r) (codes "select") slot (select C r slot)

abbrev pub unit_cell : Arch → ℕ → List ℕ
unit_cell A x = codes "u_" ++ (unit A x).name

-- the operation, by its code
abbrev pub op_line : List ℕ → ℕ → Option Op → List ℕ
op_line cell slot None = []
op_line cell slot (Some op) =
    codes "    array." ++ (cell ++ (codes ".op[" ++ (decimal slot ++ (codes "] = " ++ (decimal (code op) ++ (codes "; // " ++ (name_of op ++ codes "\n")))))))

abbrev pub fixed_line : List ℕ → ℕ → ℕ → Bool → List ℕ
fixed_line cell slot i fixed =
    if fixed then codes "    array." ++ (cell ++ (codes ".fixed_" ++ (port_letter i ++ (codes "[" ++ (decimal slot ++ codes "] = 1;\n"))))) else []

-- initial word k of argument i
abbrev pub first_line : List ℕ → ℕ → ℕ → ArgFields → ℕ → List ℕ
first_line cell slot i a k = word_line cell (codes "first_" ++ port_letter i) (4 * slot + k) (slice_index a.init k)

-- argument i
abbrev pub argument_lines : List ℕ → ℕ → UnitFields → ℕ → List ℕ
argument_lines cell slot f i =
    fixed_line cell slot i (arg f i).fixed
    ++ (number_line cell (codes "count_" ++ port_letter i) slot (arg f i).count
    ++ lists_below (first_line cell slot i (arg f i)) 4)

-- the configuration of a unit's cell for a slot
abbrev pub fields_lines : List ℕ → ℕ → UnitFields → List ℕ
fields_lines cell slot f =
    op_line cell slot f.op
    ++ (number_line cell (codes "stage") slot f.stage
    ++ (number_line cell (codes "port") slot f.port
    ++ (word_line cell (codes "immediate") slot f.immediate
    ++ lists_below (argument_lines cell slot f) 3)))

abbrev pub unit_lines : Arch → Config → ℕ → ℕ → List ℕ
unit_lines A C slot x = fields_lines (unit_cell A x) slot (fields C x slot)

-- a slot: the selects of all resources, followed by the configuration of all units
abbrev pub slot_lines : Arch → Config → ℕ → List ℕ
slot_lines A C slot =
    lists_below (select_line A C slot) (length A.resources) ++ lists_below (unit_lines A C slot) (length A.units)

abbrev pub configuration_lines : Arch → Config → List ℕ
configuration_lines A C = lists_below (slot_lines A C) C.ii

-- ---- the image

abbrev pub word_of_memory : List ℕ → ℕ → List ℕ
word_of_memory memory at = if eqb (slice_index memory at) 0 then [] else memory_line at (slice_index memory at)

abbrev pub word_of_input : List (List ℕ) → ℕ → ℕ → List ℕ
word_of_input streams p k = input_line p k (slice_index (stream streams p) k)

-- the words of stream p that n iterations can take
abbrev pub input_lines : ℕ → List (List ℕ) → ℕ → List ℕ
input_lines n streams p = lists_below (word_of_input streams p) (taken n streams p)

abbrev pub image_lines : ℕ → Image → List ℕ
image_lines n image =
    lists_below (word_of_memory image.memory) (length image.memory) ++ lists_below (input_lines n image.streams) port_count

-- ---- what is to be left

-- a word of the memory that differs from the one before
abbrev pub changed_word : List ℕ → List ℕ → ℕ → List ℕ
changed_word before after at =
    if eqb (slice_index after at) (slice_index before at) then [] else left_memory_line at (slice_index after at)

abbrev pub word_of_output : List (List ℕ) → ℕ → ℕ → List ℕ
word_of_output streams p k = left_output_line p k (slice_index (stream streams p) k)

abbrev pub output_lines : List (List ℕ) → ℕ → List ℕ
output_lines streams p =
    length_line p (sent streams p) ++ lists_below (word_of_output streams p) (sent streams p)

abbrev pub outside_line : ℕ → List ℕ
outside_line outside = codes "    left_outside = 64'd" ++ (decimal outside ++ codes ";\n")

abbrev pub left_lines : Image → Left → List ℕ
left_lines image left =
    lists_below (changed_word image.memory left.image.memory) (length left.image.memory)
    ++ (lists_below (output_lines left.image.streams) port_count ++ outside_line left.outside)
