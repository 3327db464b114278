use Rattle.std.proofs.Common.{arith, refl, sym}
use Rattle.cg_word.specs.declared.op.Op.TheVariants as ops
use Rattle.cg_c_values.proofs.Adding.{add_twice, add_zero}
use Rattle.cg_c_values.proofs.Planning.{again_inner, first_at, number_is}
use Rattle.cg_c_values.proofs.values.Values.plan_sum_with.Goals as goal

pub returns-then-word-eq0 : goal.returns-then-word-eq0
returns-then-word-eq0 c = first_at c.args.self.now.values.keys ops.Add c.args.first c.args.second c.requires.first 0 (number_is c.args.self.now.values.keys c.args.second c.args.word 0 c.requires.number c.if-word-eq0.true) (λ y l. sym (add_zero y l))

pub returns-in-Some : goal.returns-in-Some
returns-in-Some c = again_inner c.args.self.now.values.keys ops.Add c.args.first c.args.second c.requires.first ops.Add ops.Add c.in-Some.x c.in-Some.other c.args.word _ refl (omega arith) c.in-Some.ensures.within c.in-Some.ensures.means c.requires.number (λ y l m. add_twice y c.in-Some.other c.args.word)
