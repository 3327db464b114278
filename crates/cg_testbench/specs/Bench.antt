-- A test bench of an array under a configuration, in Verilog (IEEE 1364-2005): behavioural cells, and a module that
-- runs n iterations from an image and compares the result with the expected one.
use Rattle.std.specs.Prelude.{ℕ, ◌-◌, ◌*◌, List, ◌++◌, length, max, codes, decimal}
use Rattle.cg_model.specs.Work.{Image, Left}
use Rattle.cg_model.specs.Array.{Arch}
use Rattle.cg_model.specs.Config.{Config}
use Rattle.cg_model.specs.Machine.{cycles}
use Rattle.cg_netlist.specs.Netlist.{netlist_of}
use Rattle.cg_testbench.specs.declared.frame.TheConstants.{CELLS, NO_MORE_CELLS, TIME, TASKS, EDGE, NEXT, START, IMAGE, LEFT, RUN, CHECKS}
use Rattle.cg_testbench.specs.Sizes.{depth, room}
use Rattle.cg_testbench.specs.Setup.{configuration_lines, image_lines, left_lines}
use Rattle.cg_testbench.specs.Array.{modules_text, trace_lines, units_text}

-- the lines before the cells
abbrev pub head_text : Arch → Config → ℕ → List ℕ
head_text A C n =
    codes "// The array " ++ (A.name ++ (codes " under one configuration: " ++ (decimal n ++ (codes " turns at interval " ++ (decimal C.ii
    ++ (codes ", in " ++ (decimal (cycles C n) ++ codes " cycles.\n")))))))

abbrev pub cells_text : Arch → List ℕ
cells_text A = CELLS.now ++ (modules_text (netlist_of A).cells ++ NO_MORE_CELLS.now)

-- the clock and the counters
abbrev pub time_text : ℕ → ℕ → List ℕ
time_text ii n =
    codes "module cgra_bench;\n  // cycle C has slot C % " ++ (decimal ii ++ (codes " and round C / " ++ (decimal ii ++ (TIME.now
    ++ (decimal (ii - 1) ++ (codes " ? 0 : slot + 1;\n  wire [31:0] turns = " ++ (decimal n ++ codes ";\n\n")))))))

-- the memory of w words, and input and output streams with `depth` and `room` words each
abbrev pub memory_text : ℕ → List ℕ
memory_text w =
    codes "  // the memory, and sixteen streams each way, one after another\n  wire [31:0] words = " ++ (decimal w
    ++ (codes ";\n  reg [31:0] memory [0:" ++ (decimal (max w 1 - 1) ++ codes "];\n")))

abbrev pub streams_text : ℕ → ℕ → List ℕ
streams_text depth room =
    codes "  wire [31:0] depth = " ++ (decimal depth ++ (codes ";\n  reg [31:0] inputs [0:" ++ (decimal (16 * depth - 1)
    ++ (codes "];\n  wire [31:0] room = " ++ (decimal room ++ (codes ";\n  reg [31:0] outputs [0:" ++ (decimal (16 * room - 1)
    ++ codes "];\n  reg [31:0] sent [0:15];\n  reg [63:0] outside;\n\n")))))))

-- the expected memory and streams
abbrev pub left_text : ℕ → ℕ → List ℕ
left_text w room =
    codes "  // what is to be left of them\n  reg [31:0] left_memory [0:" ++ (decimal (max w 1 - 1)
    ++ (codes "];\n  reg [31:0] left_outputs [0:" ++ (decimal (16 * room - 1)
    ++ codes "];\n  reg [31:0] left_sent [0:15];\n  reg [63:0] left_outside;\n\n")))

abbrev pub declarations : Config → ℕ → Image → Left → List ℕ
declarations C n image left =
    time_text C.ii n
    ++ (memory_text (length image.memory) ++ (streams_text (depth n image) (room left) ++ left_text (length image.memory) (room left)))

-- the actions when a cycle ends: a line of the trace, and the effects of the units on the memory and the streams, one
-- after another
abbrev pub edge_text : Arch → List ℕ
edge_text A = TASKS.now ++ (trace_lines A ++ (EDGE.now ++ (units_text A ++ NEXT.now)))

-- the assignments before the run
abbrev pub setup_text : Arch → Config → ℕ → Image → Left → List ℕ
setup_text A C n image left =
    START.now ++ (configuration_lines A C ++ (IMAGE.now ++ (image_lines n image ++ (LEFT.now ++ left_lines image left))))

-- the run of that number of cycles, and the comparison
abbrev pub run_text : ℕ → List ℕ
run_text cycles = RUN.now ++ (codes "    repeat (" ++ (decimal cycles ++ (codes ") begin\n" ++ CHECKS.now)))

-- the bench
unfoldable pub bench_text : Arch → Config → ℕ → Image → Left → List ℕ
bench_text A C n image left =
    head_text A C n
    ++ (cells_text A
    ++ (declarations C n image left ++ (edge_text A ++ (setup_text A C n image left ++ run_text (cycles C n)))))
