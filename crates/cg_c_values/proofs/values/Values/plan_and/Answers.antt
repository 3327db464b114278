use Rattle.cg_word.specs.declared.op.Op.TheVariants as ops
use Rattle.cg_c_values.proofs.Bits.{and_itself, and_zero}
use Rattle.cg_c_values.proofs.Planning.{first_if_equal, second_at}
use Rattle.cg_c_values.proofs.values.Values.plan_and.Goals as goal

pub returns-then-is_number : goal.returns-then-is_number
returns-then-is_number c = second_at c.args.self.now.values.keys ops.And c.args.first c.args.second c.requires.first 0 (c.is_number.ensures c.if-is_number.true) (λ y l. and_zero y)

pub returns-then-first-second : goal.returns-then-first-second
returns-then-first-second c = first_if_equal c.args.self.now.values.keys ops.And c.args.first c.args.second c.requires.first c.if-first-second.true (λ y l. and_itself y)
