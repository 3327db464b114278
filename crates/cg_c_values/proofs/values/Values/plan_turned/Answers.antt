use Rattle.std.proofs.Common.{refl}
use Rattle.std.proofs.lemmas.Nat.{xor_of_32}
use Rattle.cg_word.specs.declared.op.Op.TheVariants as ops
use Rattle.cg_c_values.proofs.Bits.{xor_twice, xor_zero}
use Rattle.cg_c_values.proofs.Planning.{again_inner, first_at, number_is}
use Rattle.cg_c_values.proofs.values.Values.plan_turned.Goals as goal

pub returns-then-word-eq0 : goal.returns-then-word-eq0
returns-then-word-eq0 c = first_at c.args.self.now.values.keys ops.Xor c.args.first c.args.second c.requires.first 0 (number_is c.args.self.now.values.keys c.args.second c.args.word 0 c.requires.number c.if-word-eq0.true) (λ y l. xor_zero y)

pub returns-in-Some : goal.returns-in-Some
returns-in-Some c =
    again_inner c.args.self.now.values.keys ops.Xor c.args.first c.args.second c.requires.first ops.Xor ops.Xor c.in-Some.x c.in-Some.other c.args.word _ refl (xor_of_32 c.in-Some.other c.args.word c.in-Some.ensures.word c.ranges.word.fits) c.in-Some.ensures.within c.in-Some.ensures.means c.requires.number
    (λ y l m. xor_twice y c.in-Some.other c.args.word)
