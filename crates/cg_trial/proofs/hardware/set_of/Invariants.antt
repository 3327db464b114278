use Rattle.std.proofs.Common.{◌≡◌, [], drop, fold}
use Rattle.cg_word.specs.Sets.{with_op}
use Rattle.cg_trial.proofs.hardware.set_of.Given as goal

-- the operations that are left, added to the set, make the whole
abbrev pub invariant-loop-op : goal.invariant-loop-op
invariant-loop-op l = fold with_op l.set (drop l.op-index l.ops) ≡ fold with_op [] l.ops
