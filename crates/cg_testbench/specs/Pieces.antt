-- The parts of modules of behavioural Verilog (IEEE 1364-2005): a module under its macro, and the ports and choices of
-- cells with many pins.
use Rattle.std.specs.Prelude.{ℕ, ◌+◌, ◌-◌, List, ◌++◌, codes, decimal, eqb, if◌then◌else◌}
use Rattle.cg_list_laws.specs.Below.{lists_below}
use Rattle.cg_flat.specs.Slots.{width}

-- a module of that name, which is read only where its macro isn't defined: after a note, its ports and its body
abbrev pub module_text : List ℕ → List ℕ → List ℕ → List ℕ → List ℕ
module_text name note ports body =
    codes "\n`ifndef OWN_" ++ (name ++ (codes "\n// " ++ (note ++ (codes "\nmodule " ++ (name ++ (codes " (" ++ (ports ++ (codes ");\n" ++ (body ++ codes "endmodule\n`endif\n")))))))))

-- ---- drivers, numbered from 1 on

abbrev pub driver_name : ℕ → List ℕ
driver_name j = codes "d" ++ (decimal (j + 1) ++ codes ", ")

abbrev pub driver_input : ℕ → List ℕ
driver_input j = codes "  input [31:0] d" ++ (decimal (j + 1) ++ codes ";\n")

abbrev pub driver_choice : ℕ → List ℕ
driver_choice j = codes "    s == " ++ (decimal (j + 1) ++ (codes " ? d" ++ (decimal (j + 1) ++ codes " :\n")))

-- the ports, declarations and choices of the first k drivers
abbrev pub driver_names : ℕ → List ℕ
driver_names k = lists_below driver_name k

abbrev pub driver_inputs : ℕ → List ℕ
driver_inputs k = lists_below driver_input k

abbrev pub driver_choices : ℕ → List ℕ
driver_choices k = lists_below driver_choice k

-- the greatest bit of a select among k drivers
abbrev pub top_bit : ℕ → ℕ
top_bit k = width k - 1

-- ---- arguments

-- the port of an argument, and the word that a unit takes for it
abbrev pub port_letter : ℕ → List ℕ
port_letter i = if eqb i 0 then codes "a" else if eqb i 1 then codes "b" else codes "c"

abbrev pub argument_letter : ℕ → List ℕ
argument_letter i = if eqb i 0 then codes "x" else if eqb i 1 then codes "y" else codes "z"

abbrev pub port_name : ℕ → List ℕ
port_name i = port_letter i ++ codes ", "

abbrev pub port_input : ℕ → List ℕ
port_input i = codes "  input [31:0] " ++ (port_letter i ++ codes ";\n")
