use Rattle.std.proofs.Common.{arith, eqb-true, refl, sym, ◌∙◌}
use Rattle.std.specs.Prelude.{bit_and}
use Rattle.std.proofs.lemmas.Nat.{and_le_r}
use Rattle.cg_word.specs.declared.op.Op.TheVariants as ops
use Rattle.cg_c_values.proofs.Bits.{and_all, and_truth, and_twice}
use Rattle.cg_c_values.proofs.Planning.{again_inner, first_at, first_if_truth, number_is}
use Rattle.cg_c_values.proofs.values.Values.plan_masked.Goals as goal
use Rattle.cg_c_values.proofs.values.Values.plan_masked.Goals.{then-word-eq4294967295-via-then-word-eq4294967295, then-word-eq4294967295-via-else-word-eq4294967295+then-is_truth, then-word-eq1, else-word-eq1}

pub returns-then-word-eq4294967295 : goal.returns-then-word-eq4294967295
returns-then-word-eq4294967295 c =
    elim c.then-word-eq4294967295.branch [
      | then-word-eq4294967295-via-then-word-eq4294967295 w ↦ first_at c.args.self.now.values.keys ops.And c.args.first c.args.second c.requires.first 4294967295 (number_is c.args.self.now.values.keys c.args.second c.args.word 4294967295 c.requires.number w.if-word-eq4294967295.true) and_all
      | then-word-eq4294967295-via-else-word-eq4294967295+then-is_truth w ↦ elim w.if-word-eq1.branch [
        | then-word-eq1 z ↦ first_if_truth c.args.self.now.values.keys ops.And c.args.first c.args.second c.requires.first c.args.word c.requires.number (z.is_truth.ensures (sym z.value-is ∙ w.if-is_truth.true)) (λ y l. and_truth y c.args.word l z.if-word-eq1.true)
        | else-word-eq1 z ↦ absurd (z.if-word-eq1.false (eqb-true (bit_and c.args.word 1) 1 (sym z.value-is ∙ w.if-is_truth.true)))
      ]
    ]

pub returns-in-Some : goal.returns-in-Some
returns-in-Some c =
    again_inner c.args.self.now.values.keys ops.And c.args.first c.args.second c.requires.first ops.And ops.And c.in-Some.x c.in-Some.other c.args.word _ refl (let l = and_le_r c.in-Some.other c.args.word in omega arith) c.in-Some.ensures.within c.in-Some.ensures.means c.requires.number
    (λ y l m. and_twice y c.in-Some.other c.args.word)
