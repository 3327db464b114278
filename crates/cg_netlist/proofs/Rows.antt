-- The text of a small array, worked out by hand: a unit with two ports and a register.
use Rattle.std.proofs.Common.{◌≡◌, ℕ, List, [], ◌∷◌, ◌++◌, refl}
use Rattle.std.specs.Prelude.{codes}
use Rattle.std.specs.Fmt.{digits}
use Rattle.cg_word.specs.declared.op.Op.TheVariants.{Iter, Add, Output}
use Rattle.cg_model.specs.declared.array.Kind.TheVariants.{Register, Port, Out}
use Rattle.cg_model.specs.Array.{Arch}
use Rattle.cg_flat.specs.Slots.{width_by}
use Rattle.cg_verilog.specs.Printed.{module_text}
use Rattle.cg_netlist.specs.Netlist.{netlist_of, bits_of}
use Rattle.cg_netlist.specs.Text.{module_of}

one_unit : Arch
one_unit = record {
  name = codes "t1";
  contexts = 4;
  memory = 16;
  resources =
      record { name = codes "r0c0_r"; kind = Register; drivers = 3 ∷ 0 ∷ [] }
      ∷ record { name = codes "r0c0_u_a"; kind = Port; drivers = 3 ∷ 0 ∷ [] }
      ∷ record { name = codes "r0c0_u_b"; kind = Port; drivers = 3 ∷ 0 ∷ [] }
      ∷ record { name = codes "r0c0_u_o"; kind = Out; drivers = [] }
      ∷ [];
  units = record { name = codes "r0c0_u"; ops = Iter ∷ Add ∷ Output ∷ []; latency = 1; ports = 1 ∷ 2 ∷ []; out = 3 } ∷ [];
  hub = 0 ∷ [];
}

nets : List ℕ
nets =
    codes "  wire [31:0] n_r0c0_r;\n  wire [1:0] s_r0c0_r;\n  wire [31:0] n_r0c0_u_a;\n  wire [1:0] s_r0c0_u_a;\n"
    ++ codes "  wire [31:0] n_r0c0_u_b;\n  wire [1:0] s_r0c0_u_b;\n  wire [31:0] n_r0c0_u_o;\n"

cells : List ℕ
cells =
    codes "  cg_pre_2 p_r0c0_r (.clk(clk), .rst(rst), .q(s_r0c0_r));\n"
    ++ codes "  cg_reg_2 r_r0c0_r (.clk(clk), .rst(rst), .s(s_r0c0_r), .d1(n_r0c0_u_o), .d2(n_r0c0_r), .q(n_r0c0_r));\n"
    ++ codes "  cg_ctx_2 c_r0c0_u_a (.clk(clk), .rst(rst), .q(s_r0c0_u_a));\n"
    ++ codes "  cg_mux_2 m_r0c0_u_a (.s(s_r0c0_u_a), .d1(n_r0c0_u_o), .d2(n_r0c0_r), .q(n_r0c0_u_a));\n"
    ++ codes "  cg_ctx_2 c_r0c0_u_b (.clk(clk), .rst(rst), .q(s_r0c0_u_b));\n"
    ++ codes "  cg_mux_2 m_r0c0_u_b (.s(s_r0c0_u_b), .d1(n_r0c0_u_o), .d2(n_r0c0_r), .q(n_r0c0_u_b));\n"
    ++ codes "  cg_unit_2_1_400014 u_r0c0_u (.clk(clk), .rst(rst), .a(n_r0c0_u_a), .b(n_r0c0_u_b), .q(n_r0c0_u_o));\n"

its_text : module_text (module_of (netlist_of one_unit)) ≡ codes "module cgra_array (clk, rst);\n  input clk;\n  input rst;\n" ++ nets ++ cells ++ codes "endmodule\n"
unfolding netlist_of bits_of width_by digits one_unit nets cells
its_text = refl
