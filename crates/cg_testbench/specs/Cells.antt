-- A module of behavioural Verilog (IEEE 1364-2005) for each form of cell of a netlist. The time, the memory and the
-- input streams are those of the bench, `cgra_bench`.
use Rattle.std.specs.Prelude.{ℕ, ◌-◌, List, ◌++◌, codes, decimal}
use Rattle.cg_netlist.specs.declared.forms.Form.{Form}
use Rattle.cg_netlist.specs.declared.forms.Form.TheVariants.{Context as ContextForm, Preselect as PreselectForm, Mux as MuxForm, Register as RegisterForm, Zero as ZeroForm, FunctionalUnit as UnitForm}
use Rattle.cg_testbench.specs.Pieces.{module_text, driver_names, driver_inputs, driver_choices, top_bit}
use Rattle.cg_testbench.specs.Unit.{unit_note, unit_ports, unit_body}

-- a select of w bits for each slot; the cell outputs that of a slot of the bench
abbrev pub select_body : List ℕ → ℕ → List ℕ
select_body slot w =
    codes "  input clk;\n  input rst;\n  output [" ++ (decimal (w - 1) ++ (codes ":0] q;\n  reg [" ++ (decimal (w - 1)
    ++ (codes ":0] select [0:63];\n  integer i;\n  initial for (i = 0; i < 64; i = i + 1) select[i] = 0;\n  assign q = select[cgra_bench." ++ (slot ++ codes "];\n")))))

-- the word of the selected one of k drivers, now or a cycle ago
abbrev pub mux_body : ℕ → List ℕ
mux_body k =
    codes "  input [" ++ (decimal (top_bit k) ++ (codes ":0] s;\n" ++ (driver_inputs k ++ (codes "  output [31:0] q;\n  assign q =\n" ++ (driver_choices k ++ codes "    0;\n")))))

abbrev pub register_body : ℕ → List ℕ
register_body k =
    codes "  input clk;\n  input rst;\n  input [" ++ (decimal (top_bit k) ++ (codes ":0] s;\n" ++ (driver_inputs k
    ++ (codes "  output [31:0] q;\n  reg [31:0] q;\n  always @(posedge clk) q <=\n    rst ? 0 :\n" ++ (driver_choices k ++ codes "    0;\n")))))

-- the module of that name for a form
abbrev pub cell_text : List ℕ → Form → List ℕ
cell_text name (ContextForm w) =
    module_text name (codes "the select of a wire or a port in the slot of the cycle, by slot") (codes "clk, rst, q") (select_body (codes "slot") w)
cell_text name (PreselectForm w) =
    module_text name (codes "the select of a register in the slot of the next cycle, by slot") (codes "clk, rst, q") (select_body (codes "next_slot") w)
cell_text name (MuxForm k) =
    module_text name (codes "the word of the selected driver, 0 for none") (codes "s, " ++ (driver_names k ++ codes "q")) (mux_body k)
cell_text name (RegisterForm k) =
    module_text name (codes "the word that the selected driver had a cycle ago, 0 for none") (codes "clk, rst, s, " ++ (driver_names k ++ codes "q")) (register_body k)
cell_text name ZeroForm = module_text name (codes "the word 0") (codes "q") (codes "  output [31:0] q;\n  assign q = 0;\n")
cell_text name (UnitForm p latency operations) =
    module_text name (unit_note p latency operations) (unit_ports p) (unit_body p latency operations)
