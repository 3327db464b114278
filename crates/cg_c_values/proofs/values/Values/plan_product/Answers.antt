use Rattle.cg_word.specs.declared.op.Op.TheVariants as ops
use Rattle.cg_c_values.proofs.Adding.{mul_one, mul_zero}
use Rattle.cg_c_values.proofs.Planning.{first_at, number_is, second_at}
use Rattle.cg_c_values.proofs.values.Values.plan_product.Goals as goal

pub returns-in-Some-eq0 : goal.returns-in-Some-eq0
returns-in-Some-eq0 c = second_at c.args.self.now.values.keys ops.Mul c.args.first c.args.second c.requires.first 0 (number_is c.args.self.now.values.keys c.args.second _ 0 c.in-Some-eq0.ensures.means c.in-Some-eq0.field-0-test) (λ y l. mul_zero y)

pub returns-in-Some-eq1 : goal.returns-in-Some-eq1
returns-in-Some-eq1 c = first_at c.args.self.now.values.keys ops.Mul c.args.first c.args.second c.requires.first 1 (number_is c.args.self.now.values.keys c.args.second _ 1 c.in-Some-eq1.ensures.means c.in-Some-eq1.field-0-test) mul_one
