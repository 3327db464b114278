-- What is known of the operands of an operation, and what it gives for them.
use Rattle.std.specs.Prelude.{◌≡◌, ℕ, ◌≤◌, ◌<◌, true, [], ◌∷◌, IfSome, slice_index}
use Rattle.cg_word.specs.declared.op.Op.{Op}
use Rattle.cg_word.specs.Word.{apply_of, words}
pub use Rattle.cg_simplify_facts.specs.declared.facts.Fact.{Fact}
pub use Rattle.cg_simplify_facts.specs.declared.facts.Facts.{Facts}

-- x is a word of which this is known
pub record Fits (f : Fact) (x : ℕ) : Type 0 where
  pub small : x < words
  pub word : IfSome f.word (λ w. x ≡ w)
  pub below : x ≤ f.top

-- x, y and z are words of which this is known
pub record AreFacts (f : Facts) (x y z : ℕ) : Type 0 where
  pub first : Fits f.first x
  pub second : Fits f.second y
  pub third : Fits f.third z
  pub equal : f.first_two_equal ≡ true → x ≡ y
  pub alike : f.last_two_equal ≡ true → y ≡ z

-- in each case that fits the facts, the operation has the value of its operand number p
abbrev pub IsOperand : Op → Facts → ℕ → Type 0
IsOperand op f p = (x y z : ℕ) → AreFacts f x y z → apply_of op x y z ≡ slice_index (x ∷ y ∷ z ∷ []) p

-- in each case that fits the facts, the operation has the value k
abbrev pub IsConstant : Op → Facts → ℕ → Type 0
IsConstant op f k = (x y z : ℕ) → AreFacts f x y z → apply_of op x y z ≡ k

-- in each case that fits the facts, the operation has a value of at most t
abbrev pub IsTop : Op → Facts → ℕ → Type 0
IsTop op f t = (x y z : ℕ) → AreFacts f x y z → apply_of op x y z ≤ t
