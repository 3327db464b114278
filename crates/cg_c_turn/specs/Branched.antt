-- The steps of the translation of branches.
use Rattle.std.specs.Prelude.{◌≡◌, ℕ, nat_lt, not, List, Option}
use Rattle.cg_word.specs.Word.{one_if}
use Rattle.cg_c_values.specs.Values.{Means}
use Rattle.cg_c_turn.specs.Draft.{Draft}
use Rattle.cg_c_turn.specs.Conditions.{IsElsewhere, EntersArm, IsMerged, with_point}

-- the point d, with this guard and these words, was left under the condition c; n is the value of its negation
pub record Begins (d d1 : Draft) (c n : ℕ) (guard_then : Option ℕ) (words_then : List (Option ℕ)) : Type 0 where
  pub first : Draft
  pub same : IsElsewhere d first
  pub guard : first.guard ≡ d.guard
  pub words : first.words ≡ d.words
  pub negation : Means first.values n (λ x E. one_if (not (nat_lt 0 (E c))))
  pub enters : EntersArm first d1 c
  pub guard_is : guard_then ≡ first.guard
  pub words_are : words_then ≡ first.words

-- back at the point, it was left again under the condition n
pub record Switches (d2 d4 : Draft) (n : ℕ) (guard_then : Option ℕ) (words_then : List (Option ℕ)) (guard_now : Option ℕ) (words_now : List (Option ℕ)) : Type 0 where
  pub between : Draft
  pub is : between ≡ with_point d2 guard_then words_then
  pub enters : EntersArm between d4 n
  pub guard_is : guard_now ≡ between.guard
  pub words_are : words_now ≡ between.words

-- back at the point, each word has its value behind the branches
pub record Ends (d5 d7 : Draft) (c : ℕ) (guard_then : Option ℕ) (words_then : List (Option ℕ)) (chosen other : List (Option ℕ)) : Type 0 where
  pub between : Draft
  pub is : between ≡ with_point d5 guard_then words_then
  pub merged : IsMerged between d7 c chosen other
