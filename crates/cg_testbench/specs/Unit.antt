-- The module of a unit's cell: its tables of the configuration, slot by slot, and its behaviour in a cycle.
use Rattle.std.specs.Prelude.{ℕ, ◌+◌, ◌/◌, ◌%◌, ◌^◌, Bool, ◌&&◌, ◌||◌, List, [], ◌++◌, flat_map, codes, decimal, eqb, nat_lt, if◌then◌else◌}
use Rattle.cg_word.specs.declared.op.Op.{Op}
use Rattle.cg_word.specs.declared.op.Op.TheVariants.{Const, Iter, Input, Add, Sub, Mul, And, Or, Xor, Shl, Shr, Sar, Eq, Ne, Lts, Ltu, Mins, Maxs, Select, Load, Store, Output, LoadIf, StoreIf, OutputIf}
use Rattle.cg_word.specs.Word.{all_ops, code, name_of, is_store, is_output, has_value, last_arg}
use Rattle.cg_list_laws.specs.Below.{lists_below}
use Rattle.cg_testbench.specs.declared.unit.TheConstants.{FIELDS, WORK, TAKEN, EFFECTS, LOADED}
use Rattle.cg_testbench.specs.Pieces.{port_letter, argument_letter, port_name, port_input}

-- the operations, with bit k for the operation of code k, include this one
abbrev pub offers : ℕ → Op → Bool
offers operations op = eqb ((operations / 2 ^ code op) % 2) 1

-- the names of the operations, each after a blank
abbrev pub op_word : ℕ → Op → List ℕ
op_word operations op = if offers operations op then codes " " ++ name_of op else []

abbrev pub op_words : ℕ → List ℕ
op_words operations = flat_map (op_word operations) all_ops

-- ---- what it keeps of the configuration

-- the tables of argument i for each slot: whether it is the immediate, the number of its initial words, and these, four
-- for each slot
abbrev pub argument_tables : ℕ → List ℕ
argument_tables i =
    codes "  reg fixed_" ++ (port_letter i ++ (codes " [0:63];\n  reg [2:0] count_" ++ (port_letter i ++ (codes " [0:63];\n  reg [31:0] first_" ++ (port_letter i ++ codes " [0:255];\n")))))

abbrev pub argument_zeros : ℕ → List ℕ
argument_zeros i =
    codes "      fixed_" ++ (port_letter i ++ (codes "[i] = 0;\n      count_" ++ (port_letter i ++ codes "[i] = 0;\n")))

abbrev pub word_zeros : ℕ → List ℕ
word_zeros i = codes "    for (i = 0; i < 256; i = i + 1) first_" ++ (port_letter i ++ codes "[i] = 0;\n")

-- the tables of a unit with p ports, all 0 at first
abbrev pub tables : ℕ → List ℕ
tables p =
    codes "  // the configuration, by slot: an operation of 0 is none\n"
    ++ (FIELDS.now
    ++ (lists_below argument_tables p
    ++ (codes "  integer i;\n  initial begin\n    for (i = 0; i < 64; i = i + 1) begin\n      op[i] = 0;\n      stage[i] = 0;\n      port[i] = 0;\n      immediate[i] = 0;\n"
    ++ (lists_below argument_zeros p ++ (codes "    end\n" ++ (lists_below word_zeros p ++ codes "  end\n"))))))

-- ---- what it does in a cycle

-- argument i: the immediate, or the initial word of the iteration, or the word on its port
abbrev pub argument_wire : ℕ → List ℕ
argument_wire i =
    codes "  wire [31:0] " ++ (argument_letter i ++ (codes " = fixed_" ++ (port_letter i ++ (codes "[slot] ? immediate[slot] : turn < count_" ++ (port_letter i
    ++ (codes "[slot] ? first_" ++ (port_letter i ++ (codes "[4 * slot + turn] : " ++ (port_letter i ++ codes ";\n")))))))))

-- 0 where the unit has no port for it
abbrev pub no_argument_wire : ℕ → List ℕ
no_argument_wire i = codes "  wire [31:0] " ++ (argument_letter i ++ codes " = 0;\n")

abbrev pub argument_of : ℕ → ℕ → List ℕ
argument_of p i = if nat_lt i p then argument_wire i else no_argument_wire i

-- the arguments of a unit with p ports
abbrev pub arguments : ℕ → List ℕ
arguments p = WORK.now ++ (lists_below (argument_of p) 3 ++ codes "\n")

-- the unit takes words of input streams, or reads the memory
abbrev pub taken : ℕ → List ℕ
taken operations = if offers operations Input then TAKEN.now else []

abbrev pub loads : ℕ → Bool
loads operations = offers operations Load || offers operations LoadIf

abbrev pub loaded : ℕ → List ℕ
loaded operations = if loads operations then LOADED.now else []

-- the word that an operation stores or sends, its last argument
abbrev pub word_line : ℕ → Op → List ℕ
word_line operations op =
    if offers operations op && (is_store op || is_output op)
    then codes "    code == " ++ (decimal (code op) ++ (codes " ? " ++ (argument_letter (last_arg op) ++ (codes " : // " ++ (name_of op ++ codes "\n")))))
    else []

-- the effects of the unit on the memory and the streams
abbrev pub effects : ℕ → List ℕ
effects operations = taken operations ++ (EFFECTS.now ++ (flat_map (word_line operations) all_ops ++ (codes "    0;\n" ++ loaded operations)))

-- the value of an operation on x, y and z
abbrev pub value_of : Op → List ℕ
value_of Const = codes "x"
value_of Iter = codes "turn"
value_of Input = codes "taken"
value_of Add = codes "x + y"
value_of Sub = codes "x - y"
value_of Mul = codes "x * y"
value_of And = codes "x & y"
value_of Or = codes "x | y"
value_of Xor = codes "x ^ y"
value_of Shl = codes "x << y[4:0]"
value_of Shr = codes "x >> y[4:0]"
value_of Sar = codes "$signed(x) >>> y[4:0]"
value_of Eq = codes "x == y"
value_of Ne = codes "x != y"
value_of Lts = codes "$signed(x) < $signed(y)"
value_of Ltu = codes "x < y"
value_of Mins = codes "$signed(y) < $signed(x) ? y : x"
value_of Maxs = codes "$signed(x) < $signed(y) ? y : x"
value_of Select = codes "x != 0 ? y : z"
value_of Load = codes "loaded"
value_of Store = codes "0"
value_of Output = codes "0"
value_of LoadIf = codes "x != 0 ? loaded : 0"
value_of StoreIf = codes "0"
value_of OutputIf = codes "0"

abbrev pub value_line : ℕ → Op → List ℕ
value_line operations op =
    if offers operations op && has_value op
    then codes "    " ++ (decimal (code op) ++ (codes ": value = " ++ (value_of op ++ (codes "; // " ++ (name_of op ++ codes "\n")))))
    else []

-- the value of each operation that the unit offers
abbrev pub values : ℕ → List ℕ
values operations =
    codes "\n  // the value of each operation\n  reg [31:0] value;\n  always @* case (code)\n"
    ++ (flat_map (value_line operations) all_ops ++ codes "    default: value = 0;\n  endcase\n\n")

-- the work that was begun k + 1 cycles ago
abbrev pub stage_register : ℕ → List ℕ
stage_register k = codes "  reg [31:0] q" ++ (decimal (k + 1) ++ codes ";\n")

abbrev pub stage_step : ℕ → List ℕ
stage_step k =
    if eqb k 0
    then codes "    q1 <= rst || !active ? 0 : value;\n"
    else codes "    q" ++ (decimal (k + 1) ++ (codes " <= rst ? 0 : q" ++ (decimal k ++ codes ";\n")))

-- the result on the out, after the latency
abbrev pub results : ℕ → List ℕ
results latency =
    codes "  // the result, a latency later\n"
    ++ (lists_below stage_register latency
    ++ (codes "  always @(posedge clk) begin\n" ++ (lists_below stage_step latency ++ (codes "  end\n  assign q = q" ++ (decimal latency ++ codes ";\n")))))

-- ---- the module

abbrev pub unit_note : ℕ → ℕ → ℕ → List ℕ
unit_note p latency operations =
    codes "a unit with " ++ (decimal p ++ (codes " ports and a latency of " ++ (decimal latency ++ (codes ":" ++ op_words operations))))

abbrev pub unit_ports : ℕ → List ℕ
unit_ports p = codes "clk, rst, " ++ (lists_below port_name p ++ codes "q")

abbrev pub unit_pins : ℕ → List ℕ
unit_pins p = codes "  input clk;\n  input rst;\n" ++ (lists_below port_input p ++ codes "  output [31:0] q;\n\n")

abbrev pub unit_body : ℕ → ℕ → ℕ → List ℕ
unit_body p latency operations =
    unit_pins p ++ (tables p ++ (codes "\n" ++ (arguments p ++ (effects operations ++ (values operations ++ results latency)))))
