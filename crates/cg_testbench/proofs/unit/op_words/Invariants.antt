use Rattle.std.proofs.Common.{◌≡◌, string_bytes, take, flat_map}
use Rattle.cg_word.specs.Word.{all_ops}
use Rattle.cg_testbench.specs.Unit.{op_word}
use Rattle.cg_testbench.proofs.unit.op_words.Given as goal

abbrev pub invariant-loop-op : goal.invariant-loop-op
invariant-loop-op l = string_bytes l.text ≡ flat_map (op_word l.operations) (take l.op-index all_ops)
