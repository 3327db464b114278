-- The parts of a bench that depend on the array: the modules of its cells, the words that a line of the trace shows,
-- and the units that are examined when a cycle ends.
use Rattle.std.specs.Prelude.{ℕ, Bool, ◌||◌, List, [], ◌++◌, length, take, slice_get, codes, bytes_eq, Option, Some, None, if◌then◌else◌}
use Rattle.std.specs.List.{list_any}
use Rattle.cg_word.specs.declared.op.Op.{Op}
use Rattle.cg_word.specs.declared.op.Op.TheVariants.{Load, Store, Output, LoadIf, StoreIf, OutputIf}
use Rattle.cg_word.specs.Sets.{among}
use Rattle.cg_model.specs.Array.{Arch, resource, unit}
use Rattle.cg_netlist.specs.declared.forms.Form.{Form}
use Rattle.cg_netlist.specs.declared.parts.Cell.{Cell}
use Rattle.cg_netlist.specs.Forms.{form_of}
use Rattle.cg_list_laws.specs.Below.{lists_below}
use Rattle.cg_testbench.specs.Cells.{cell_text}

-- ---- the modules of cells, each where its form is used first

abbrev pub is_called : List ℕ → Cell → Bool
is_called name c = bytes_eq c.«module» name

abbrev pub text_by : List ℕ → Option Form → List ℕ
text_by name None = []
text_by name (Some form) = cell_text name form

-- the module of cell k of these, unless an earlier cell has the same module
abbrev pub first_use : List Cell → ℕ → Option Cell → List ℕ
first_use cells k None = []
first_use cells k (Some c) = if list_any (is_called c.«module») (take k cells) then [] else text_by c.«module» (form_of c.«module»)

abbrev pub module_at : List Cell → ℕ → List ℕ
module_at cells k = first_use cells k (slice_get cells k)

abbrev pub modules_text : List Cell → List ℕ
modules_text cells = lists_below (module_at cells) (length cells)

-- ---- the trace

-- the word of a resource, where it isn't 0
abbrev pub trace_line_of : List ℕ → List ℕ
trace_line_of name =
    codes "      if (array.n_" ++ (name ++ (codes " !== 0) $write(\" " ++ (name ++ (codes " %0d\", array.n_" ++ (name ++ codes ");\n")))))

abbrev pub trace_line : Arch → ℕ → List ℕ
trace_line A r = trace_line_of (resource A r).name

abbrev pub trace_lines : Arch → List ℕ
trace_lines A = lists_below (trace_line A) (length A.resources)

-- ---- the end of a cycle

-- a unit with these operations may access the memory, or send a word
abbrev pub may_access : List Op → Bool
may_access ops = among ops Load || (among ops Store || (among ops LoadIf || among ops StoreIf))

abbrev pub may_send : List Op → Bool
may_send ops = among ops Output || among ops OutputIf

abbrev pub access_line : List ℕ → List ℕ
access_line name =
    codes "    if (array.u_" ++ (name ++ (codes ".accesses) access(array.u_" ++ (name ++ (codes ".stores, array.u_" ++ (name ++ (codes ".address, array.u_" ++ (name ++ codes ".word);\n")))))))

abbrev pub send_line : List ℕ → List ℕ
send_line name =
    codes "    if (array.u_" ++ (name ++ (codes ".sends) send(array.u_" ++ (name ++ (codes ".stream, array.u_" ++ (name ++ codes ".word);\n")))))

abbrev pub end_lines_of : List ℕ → List Op → List ℕ
end_lines_of name ops = (if may_access ops then access_line name else []) ++ (if may_send ops then send_line name else [])

abbrev pub end_lines : Arch → ℕ → List ℕ
end_lines A x = end_lines_of (unit A x).name (unit A x).ops

abbrev pub units_text : Arch → List ℕ
units_text A = lists_below (end_lines A) (length A.units)
