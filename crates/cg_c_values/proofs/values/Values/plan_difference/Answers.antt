use Rattle.std.proofs.Common.{arith, refl}
use Rattle.cg_word.specs.declared.op.Op.TheVariants as ops
use Rattle.cg_c_values.proofs.Adding.{sub_itself, sub_number}
use Rattle.cg_c_values.proofs.Planning.{again_with, number_if_equal}
use Rattle.cg_c_values.proofs.values.Values.plan_difference.Goals as goal

pub returns-in-Some : goal.returns-in-Some
returns-in-Some c = again_with c.args.self.now.values.keys ops.Sub c.args.first c.args.second c.requires.first ops.Add c.in-Some.word _ refl (omega arith) c.in-Some.ensures.means (λ y l m. sub_number y c.in-Some.word m)

pub returns-then-first-second : goal.returns-then-first-second
returns-then-first-second c = number_if_equal c.args.self.now.values.keys ops.Sub c.args.first c.args.second c.requires.first 0 (omega arith) c.if-first-second.true (λ y l. sub_itself y l)
