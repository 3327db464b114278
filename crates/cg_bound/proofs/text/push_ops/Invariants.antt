use Rattle.std.proofs.Common.{◌≡◌, ◌++◌, take, flat_map}
use Rattle.cg_word.specs.Word.{all_ops}
use Rattle.cg_flat.specs.Text.{op_word}
use Rattle.cg_bound.proofs.text.push_ops.Given as goal

abbrev pub invariant-loop-op : goal.invariant-loop-op
invariant-loop-op l = l.text.items ≡ l.fn.text.items ++ flat_map (op_word l.set) (take l.op-index all_ops)
