use Rattle.std.proofs.Common.{◌≡◌, string_bytes, take, flat_map}
use Rattle.cg_word.specs.Word.{all_ops}
use Rattle.cg_testbench.specs.Unit.{word_line}
use Rattle.cg_testbench.proofs.unit.word_lines.Given as goal

abbrev pub invariant-loop-op : goal.invariant-loop-op
invariant-loop-op l = string_bytes l.text ≡ flat_map (word_line l.operations) (take l.op-index all_ops)
