-- The kernel that bytes describe, or why they describe none.
use Rattle.std.specs.Prelude.{ℕ, List, map, Option, Some, None, Result, Ok, Err, unwrap_or}
use Rattle.serde_json.specs.Data.{Data}
use Rattle.cg_word.specs.declared.op.Op.TheVariants.{Const}
use Rattle.cg_model.specs.Kernel.{Kernel}
use Rattle.cg_model.specs.declared.kernel.Node.{Node}
use Rattle.cg_model.specs.declared.kernel.Operand.{Operand}
use Rattle.cg_model.specs.declared.kernel.Operand.TheVariants.{Const as Constant, Edge}
use Rattle.cg_model.specs.declared.kernel.OrderEdge.{OrderEdge}
use Rattle.cg_json.specs.Bytes.{value_of}
use Rattle.cg_kernel.specs.Written.{KernelPlace, WrittenArg, WrittenNode, WrittenEdge, WrittenKernel, written_of}
use Rattle.cg_kernel.specs.Rules.{number_of, op_of, all_rules, first_fault}
use Rattle.cg_kernel.specs.declared.written.WrittenArg.TheVariants.{Number, Source}
pub use Rattle.cg_kernel.specs.declared.fault.KernelFault.{KernelFault}
use Rattle.cg_kernel.specs.declared.fault.KernelFault.TheVariants as fault

-- the number of the node of that name
abbrev pub node_number : WrittenKernel → List ℕ → ℕ
node_number w name = unwrap_or (number_of w.nodes name) 0

-- the operand that an argument describes
abbrev pub operand_of : WrittenKernel → WrittenArg → Operand
operand_of w (Number c) = Constant c
operand_of w (Source from distance init other) = Edge (node_number w from) distance init

-- the node that is described, with port 0 where none is given
abbrev pub node_of : WrittenKernel → WrittenNode → Node
node_of w n = record { name = n.name; op = unwrap_or (op_of w n) Const; port = unwrap_or n.port 0; operands = map (operand_of w) n.args }

-- the order edge that is described
abbrev pub edge_of : WrittenKernel → WrittenEdge → OrderEdge
edge_of w e = record { from = node_number w e.from; to = node_number w e.to; distance = e.distance }

-- the kernel that is described: the nodes and order edges in their order
unfoldable pub kernel_of : WrittenKernel → Kernel
kernel_of w = record { nodes = map (node_of w) w.nodes; order = map (edge_of w) w.order }

-- the fault, if there is one, and otherwise the kernel
abbrev pub unless : Option KernelFault → Kernel → Result Kernel KernelFault
unless None kernel = Ok kernel
unless (Some f) kernel = Err f

-- the lowest of K3 to K16 that applies to the description, at its first place, or the kernel
unfoldable pub judged : WrittenKernel → Result Kernel KernelFault
judged w = unless (first_fault all_rules w) (kernel_of w)

-- K2, checked before K3 to K16
abbrev pub answer_written : Result WrittenKernel KernelPlace → Result Kernel KernelFault
answer_written (Err p) = Err (fault.WrongShape p)
answer_written (Ok w) = judged w

-- K1, checked before K2
abbrev pub answer_in : Option Data → Result Kernel KernelFault
answer_in None = Err fault.NotJson
answer_in (Some d) = answer_written (written_of d)

-- the kernel that the bytes describe, or the lowest of K1 to K16 that applies, at its first place
unfoldable pub answer_of : List ℕ → Result Kernel KernelFault
answer_of bytes = answer_in (value_of bytes)
