use Rattle.std.proofs.Common.{arith, refl, subst, sym}
use Rattle.cg_word.specs.declared.op.Op.TheVariants as ops
use Rattle.cg_word.specs.Word.{apply_of}
use Rattle.cg_c_values.specs.Plans.{Gives, Plan}
use Rattle.cg_c_values.proofs.Adding.{sub_small}
use Rattle.cg_c_values.proofs.Comparing.{ne_itself, ne_more, ne_one, ne_sum, ne_zero}
use Rattle.cg_c_values.proofs.Planning.{again_inner, first_if_truth, number_if_equal, number_if_truth, number_is, plan_if_truth}
use Rattle.cg_c_values.proofs.values.Values.plan_ne.Goals as goal

pub returns-then-first-second : goal.returns-then-first-second
returns-then-first-second c = number_if_equal c.args.self.now.values.keys ops.Ne c.args.first c.args.second c.requires.first 0 (omega arith) c.if-first-second.true (λ y l. ne_itself y)

pub returns-in-Some-inner : goal.returns-in-Some-inner
returns-in-Some-inner c =
    let sum = c.in-Some-inner in
    let word = c.in-Some.word in
    subst (λ (plan : Plan). Gives c.args.self.now.values.keys plan (λ E. apply_of ops.Ne (E c.args.first) (E c.args.second) 0)) (sym c.compares_sum.ensures)
    (again_inner c.args.self.now.values.keys ops.Ne c.args.first c.args.second c.requires.first ops.Add ops.Ne sum.x sum.other word (apply_of ops.Sub word sum.other 0) refl (sub_small word sum.other)
    sum.ensures.within sum.ensures.means c.in-Some.ensures.means (λ y l m. ne_sum y sum.other word l sum.ensures.word m))

pub returns-then-word-eq0 : goal.returns-then-word-eq0
returns-then-word-eq0 c = first_if_truth c.args.self.now.values.keys ops.Ne c.args.first c.args.second c.requires.first 0 (number_is c.args.self.now.values.keys c.args.second c.in-Some.word 0 c.in-Some.ensures.means c.if-word-eq0.true) (c.is_truth.ensures c.if-is_truth.true) ne_zero

pub returns-then-word-eq1 : goal.returns-then-word-eq1
returns-then-word-eq1 c =
    plan_if_truth c.args.self.now.values.keys ops.Ne c.args.first c.args.second c.requires.first c.plan_negated.result 1 (λ y. apply_of ops.Eq y 0 0) (number_is c.args.self.now.values.keys c.args.second c.in-Some.word 1 c.in-Some.ensures.means c.if-word-eq1.true) (c.is_truth.ensures c.if-is_truth.true) c.plan_negated.ensures ne_one

pub returns-else-word-eq1 : goal.returns-else-word-eq1
returns-else-word-eq1 c =
    number_if_truth c.args.self.now.values.keys ops.Ne c.args.first c.args.second c.requires.first c.in-Some.word 1 (omega arith) c.in-Some.ensures.means (c.is_truth.ensures c.if-is_truth.true) (λ y l. ne_more y c.in-Some.word l c.if-word-eq0.false c.if-word-eq1.false)
