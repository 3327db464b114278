use Rattle.std.proofs.Common.{arith, subst, sym}
use Rattle.cg_word.specs.declared.op.Op.{Op}
use Rattle.cg_simplify_facts.specs.Facts.{IsTop}
use Rattle.cg_simplify_facts.specs.Cases.{IsCover}
use Rattle.cg_simplify_facts.proofs.Values.{add_small, and_small, const_small, eq_small, lts_small, ltu_small, mul_small, ne_small, or_small, select_small, value_small, xor_small}
use Rattle.cg_simplify_facts.proofs.tops.top_of.Goals as goal

pub returns-in-Const : goal.returns-in-Const
returns-in-Const c = subst (λ (op : Op). IsTop op c.args.facts (c.args.facts.first.top)) (sym c.in-Const.is) (λ x y z f. const_small x y z c.args.facts.first.top f.first.below)

pub returns-in-Eq : goal.returns-in-Eq
returns-in-Eq c = subst (λ (op : Op). IsTop op c.args.facts (1)) (sym c.in-Eq.is) (λ x y z f. eq_small x y z)

pub returns-in-Ne : goal.returns-in-Ne
returns-in-Ne c = subst (λ (op : Op). IsTop op c.args.facts (1)) (sym c.in-Ne.is) (λ x y z f. ne_small x y z)

pub returns-in-Lts : goal.returns-in-Lts
returns-in-Lts c = subst (λ (op : Op). IsTop op c.args.facts (1)) (sym c.in-Lts.is) (λ x y z f. lts_small x y z)

pub returns-in-Ltu : goal.returns-in-Ltu
returns-in-Ltu c = subst (λ (op : Op). IsTop op c.args.facts (1)) (sym c.in-Ltu.is) (λ x y z f. ltu_small x y z)

pub returns-in-And : goal.returns-in-And
returns-in-And c = subst (λ (op : Op). IsTop op c.args.facts (c.less.result)) (sym c.in-And.is) (λ x y z f. let e = c.less.ensures in let s = and_small x y z c.args.facts.first.top c.args.facts.second.top f.first.below f.second.below in omega arith)

pub returns-in-Or : goal.returns-in-Or
returns-in-Or c = subst (λ (op : Op). IsTop op c.args.facts (c.cover.result)) (sym c.in-Or.is) (λ x y z f. or_small x y z c.args.facts.first.top c.args.facts.second.top c.cover.result f.first.below f.second.below (subst (λ t. IsCover t c.cover.result) c.greater.ensures c.cover.ensures))

pub returns-in-Xor : goal.returns-in-Xor
returns-in-Xor c = subst (λ (op : Op). IsTop op c.args.facts (c.cover-in-Xor.result)) (sym c.in-Xor.is) (λ x y z f. xor_small x y z c.args.facts.first.top c.args.facts.second.top c.cover-in-Xor.result f.first.below f.second.below (subst (λ t. IsCover t c.cover-in-Xor.result) c.greater-in-Xor.ensures c.cover-in-Xor.ensures))

pub returns-in-Add : goal.returns-in-Add
returns-in-Add c = subst (λ (op : Op). IsTop op c.args.facts (c.saturating_add.result)) (sym c.in-Add.is) (λ x y z f. let e = c.saturating_add.ensures in let s = add_small x y z c.args.facts.first.top c.args.facts.second.top f.first.below f.second.below in omega arith)

pub returns-in-Mul : goal.returns-in-Mul
returns-in-Mul c = subst (λ (op : Op). IsTop op c.args.facts (c.saturating_mul.result)) (sym c.in-Mul.is) (λ x y z f. let e = c.saturating_mul.ensures in let s = mul_small x y z c.args.facts.first.top c.args.facts.second.top f.first.below f.second.below in omega arith)

pub returns-in-Shr : goal.returns-in-Shr
returns-in-Shr c = subst (λ (op : Op). IsTop op c.args.facts (c.shifted_down.result)) (sym c.in-Shr.is) (λ x y z f. c.shifted_down.ensures x y z f)

pub returns-in-Shl : goal.returns-in-Shl
returns-in-Shl c = subst (λ (op : Op). IsTop op c.args.facts (c.shifted_up.result)) (sym c.in-Shl.is) (λ x y z f. c.shifted_up.ensures x y z f)

pub returns-in-Select : goal.returns-in-Select
returns-in-Select c = subst (λ (op : Op). IsTop op c.args.facts (c.greater-in-Select.result)) (sym c.in-Select.is) (λ x y z f. let e = c.greater-in-Select.ensures in let s = select_small x y z c.args.facts.second.top c.args.facts.third.top f.second.below f.third.below in omega arith)

pub returns-in_default : goal.returns-in_default
returns-in_default c = λ x y z f. value_small c.args.op x y z f.first.small f.second.small f.third.small
