use Rattle.std.proofs.Common.{arith, refl, subst, sym}
use Rattle.cg_word.specs.declared.op.Op.TheVariants as ops
use Rattle.cg_word.specs.Word.{apply_of}
use Rattle.cg_c_values.specs.Plans.{Gives, Plan}
use Rattle.cg_c_values.proofs.Adding.{sub_small}
use Rattle.cg_c_values.proofs.Comparing.{eq_itself, eq_more, eq_one, eq_sum}
use Rattle.cg_c_values.proofs.Planning.{again_inner, first_if_truth, number_if_equal, number_if_truth, number_is}
use Rattle.cg_c_values.proofs.values.Values.plan_eq.Goals as goal

pub returns-then-first-second : goal.returns-then-first-second
returns-then-first-second c = number_if_equal c.args.self.now.values.keys ops.Eq c.args.first c.args.second c.requires.first 1 (omega arith) c.if-first-second.true (λ y l. eq_itself y)

pub returns-in-Some-inner : goal.returns-in-Some-inner
returns-in-Some-inner c =
    let sum = c.in-Some-inner in
    let word = c.in-Some.word in
    subst (λ (plan : Plan). Gives c.args.self.now.values.keys plan (λ E. apply_of ops.Eq (E c.args.first) (E c.args.second) 0)) (sym c.compares_sum.ensures)
    (again_inner c.args.self.now.values.keys ops.Eq c.args.first c.args.second c.requires.first ops.Add ops.Eq sum.x sum.other word (apply_of ops.Sub word sum.other 0) refl (sub_small word sum.other)
    sum.ensures.within sum.ensures.means c.in-Some.ensures.means (λ y l m. eq_sum y sum.other word l sum.ensures.word m))

pub returns-then-word-eq1 : goal.returns-then-word-eq1
returns-then-word-eq1 c = first_if_truth c.args.self.now.values.keys ops.Eq c.args.first c.args.second c.requires.first 1 (number_is c.args.self.now.values.keys c.args.second c.in-Some.word 1 c.in-Some.ensures.means c.if-word-eq1.true) (c.is_truth.ensures c.if-is_truth.true) eq_one

pub returns-else-word-eq1 : goal.returns-else-word-eq1
returns-else-word-eq1 c =
    number_if_truth c.args.self.now.values.keys ops.Eq c.args.first c.args.second c.requires.first c.in-Some.word 0 (omega arith) c.in-Some.ensures.means (c.is_truth.ensures c.if-is_truth.true) (λ y l. eq_more y c.in-Some.word l c.if-word-eq0.false c.if-word-eq1.false)
