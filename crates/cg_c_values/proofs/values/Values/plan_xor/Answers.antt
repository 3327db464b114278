use Rattle.std.proofs.Common.{arith}
use Rattle.cg_word.specs.declared.op.Op.TheVariants as ops
use Rattle.cg_c_values.proofs.Bits.{xor_itself}
use Rattle.cg_c_values.proofs.Planning.{number_if_equal}
use Rattle.cg_c_values.proofs.values.Values.plan_xor.Goals as goal

pub returns-then-first-second : goal.returns-then-first-second
returns-then-first-second c = number_if_equal c.args.self.now.values.keys ops.Xor c.args.first c.args.second c.requires.first 0 (omega arith) c.if-first-second.true (λ y l. xor_itself y)
