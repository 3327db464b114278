use Rattle.std.proofs.Common.{◌≡◌, ℕ, ◌%◌, sym, subst}
use Rattle.std.specs.Prelude.{◌⊎◌, Option, IfSome, [], ◌∷◌, slice_index}
use Rattle.cg_word.specs.declared.op.Op.{Op}
use Rattle.cg_word.specs.declared.op.Op.TheVariants.{Add, Sub, Mul, And, Or, Xor, Shl, Shr, Sar, Eq, Ne, Mins, Maxs, Select}
use Rattle.cg_word.specs.Word.{apply_of}
use Rattle.cg_simplify_facts.specs.Facts.{AreFacts, Facts, IsOperand}
use Rattle.cg_simplify_facts.specs.Cases.{IsBeside, IsSelected, IsTruthBeside, IsUnmasked}
use Rattle.cg_simplify_facts.proofs.Values.{some_weaker, sum_beside, less_zero, mul_beside, and_unmasked, or_kept, xor_beside, shl_none, shr_none, sar_none, eq_truth, ne_truth, mins_equal, maxs_equal, select_chosen}
use Rattle.cg_simplify_facts.proofs.identities.operand_of.Goals as goal

-- an operation keeps the operand that is found by what is seen of the operands
keep : (is op : Op) (f : Facts) (o : Option ℕ) (P : ℕ → ℕ → ℕ → ℕ → Type 0) → op ≡ is → ((p x y z : ℕ) → AreFacts f x y z → P p x y z → apply_of is x y z ≡ slice_index (x ∷ y ∷ z ∷ []) p)
    → IfSome o (λ p. (x y z : ℕ) → AreFacts f x y z → P p x y z) → IfSome o (IsOperand op f)
keep is op f o P e law seen =
    subst (λ (a : Op). IfSome o (IsOperand a f)) (sym e)
    (some_weaker (λ p. (x y z : ℕ) → AreFacts f x y z → P p x y z) (IsOperand is f) o (λ p h x y z facts. law p x y z facts (h x y z facts)) seen)

pub returns-in-Add : goal.returns-in-Add
returns-in-Add c = keep Add c.args.op c.args.facts c.beside.result (λ p x y z. IsBeside 0 p x y) c.in-Add.is (λ p x y z f h. sum_beside p x y z f.first.small f.second.small h) c.beside.ensures

pub returns-in-Sub : goal.returns-in-Sub
returns-in-Sub c = keep Sub c.args.op c.args.facts c.less_nothing.result (λ p x y z. (p ≡ 0) × (y ≡ 0)) c.in-Sub.is (λ p x y z f h. less_zero p x y z f.first.small h) c.less_nothing.ensures

pub returns-in-Mul : goal.returns-in-Mul
returns-in-Mul c = keep Mul c.args.op c.args.facts c.beside-in-Mul.result (λ p x y z. IsBeside 1 p x y) c.in-Mul.is (λ p x y z f h. mul_beside p x y z f.first.small f.second.small h) c.beside-in-Mul.ensures

pub returns-in-And : goal.returns-in-And
returns-in-And c = keep And c.args.op c.args.facts c.of_and.result (λ p x y z. IsUnmasked p x y) c.in-And.is (λ p x y z f h. and_unmasked p x y z h) c.of_and.ensures

pub returns-in-Or : goal.returns-in-Or
returns-in-Or c = keep Or c.args.op c.args.facts c.of_or.result (λ p x y z. IsBeside 0 p x y ⊎ ((p ≡ 0) × (x ≡ y))) c.in-Or.is (λ p x y z f h. or_kept p x y z h) c.of_or.ensures

pub returns-in-Xor : goal.returns-in-Xor
returns-in-Xor c = keep Xor c.args.op c.args.facts c.beside-in-Xor.result (λ p x y z. IsBeside 0 p x y) c.in-Xor.is (λ p x y z f h. xor_beside p x y z h) c.beside-in-Xor.ensures

pub returns-in-Shl : goal.returns-in-Shl
returns-in-Shl c = keep Shl c.args.op c.args.facts c.not_shifted.result (λ p x y z. (p ≡ 0) × (y % 32 ≡ 0)) c.in-Shl.is (λ p x y z f h. shl_none p x y z f.first.small h) c.not_shifted.ensures

pub returns-in-Shr : goal.returns-in-Shr
returns-in-Shr c = keep Shr c.args.op c.args.facts c.not_shifted-in-Shr.result (λ p x y z. (p ≡ 0) × (y % 32 ≡ 0)) c.in-Shr.is (λ p x y z f h. shr_none p x y z h) c.not_shifted-in-Shr.ensures

pub returns-in-Sar : goal.returns-in-Sar
returns-in-Sar c = keep Sar c.args.op c.args.facts c.not_shifted-in-Sar.result (λ p x y z. (p ≡ 0) × (y % 32 ≡ 0)) c.in-Sar.is (λ p x y z f h. sar_none p x y z f.first.small h) c.not_shifted-in-Sar.ensures

pub returns-in-Eq : goal.returns-in-Eq
returns-in-Eq c = keep Eq c.args.op c.args.facts c.truth_beside.result (λ p x y z. IsTruthBeside 1 p x y) c.in-Eq.is (λ p x y z f h. eq_truth p x y z h) c.truth_beside.ensures

pub returns-in-Ne : goal.returns-in-Ne
returns-in-Ne c = keep Ne c.args.op c.args.facts c.truth_beside-in-Ne.result (λ p x y z. IsTruthBeside 0 p x y) c.in-Ne.is (λ p x y z f h. ne_truth p x y z h) c.truth_beside-in-Ne.ensures

pub returns-in-Mins : goal.returns-in-Mins
returns-in-Mins c = keep Mins c.args.op c.args.facts c.one_of_equals.result (λ p x y z. (p ≡ 0) × (x ≡ y)) c.in-Mins.is (λ p x y z f h. mins_equal p x y z h) c.one_of_equals.ensures

pub returns-in-Maxs : goal.returns-in-Maxs
returns-in-Maxs c = keep Maxs c.args.op c.args.facts c.one_of_equals-in-Maxs.result (λ p x y z. (p ≡ 0) × (x ≡ y)) c.in-Maxs.is (λ p x y z f h. maxs_equal p x y z h) c.one_of_equals-in-Maxs.ensures

pub returns-in-Select : goal.returns-in-Select
returns-in-Select c = keep Select c.args.op c.args.facts c.selected.result (λ p x y z. IsSelected p x y z) c.in-Select.is (λ p x y z f h. select_chosen p x y z h) c.selected.ensures
