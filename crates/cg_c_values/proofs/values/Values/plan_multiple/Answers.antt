use Rattle.std.proofs.Common.{arith, refl}
use Rattle.cg_word.specs.declared.op.Op.TheVariants as ops
use Rattle.cg_c_values.proofs.Adding.{mul_power, mul_twice}
use Rattle.cg_c_values.proofs.Planning.{again_inner, again_with, number_is, top_gives}
use Rattle.cg_c_values.proofs.values.Values.plan_multiple.Goals as goal

pub returns-in-Some : goal.returns-in-Some
returns-in-Some c =
    let k = c.in-Some.ensures in
    again_with c.args.self.now.values.keys ops.Mul c.args.first c.args.second c.requires.first ops.Shl c.args.word c.in-Some.bits refl (let l = k.0 in omega arith) c.requires.number (λ y l m. mul_power y c.in-Some.bits c.args.word k.0 k.1)

pub returns-then-word-eq4294967295 : goal.returns-then-word-eq4294967295
returns-then-word-eq4294967295 c = top_gives c.args.self.now.values.keys c.args.first c.args.second c.requires.first (number_is c.args.self.now.values.keys c.args.second c.args.word 4294967295 c.requires.number c.if-word-eq4294967295.true)

pub returns-in-Some-inner : goal.returns-in-Some-inner
returns-in-Some-inner c =
    again_inner c.args.self.now.values.keys ops.Mul c.args.first c.args.second c.requires.first ops.Mul ops.Mul c.in-Some-inner.x c.in-Some-inner.other c.args.word _ refl (omega arith) c.in-Some-inner.ensures.within c.in-Some-inner.ensures.means c.requires.number
    (λ y l m. mul_twice y c.in-Some-inner.other c.args.word)
