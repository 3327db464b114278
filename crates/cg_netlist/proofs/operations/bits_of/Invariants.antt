use Rattle.std.proofs.Common.{◌≡◌, ◌*◌, ◌≤◌, take}
use Rattle.std.specs.List.{sum_by}
use Rattle.cg_word.specs.Word.{all_ops}
use Rattle.cg_netlist.specs.Netlist.{bit_of}
use Rattle.cg_netlist.proofs.operations.bits_of.Given as goal

abbrev pub invariant-loop-op : goal.invariant-loop-op
invariant-loop-op l = record {
  value : l.bits ≡ sum_by (bit_of l.ops) (take l.op-index all_ops);
  few : l.bits ≤ l.op-index * 33554432;
}
