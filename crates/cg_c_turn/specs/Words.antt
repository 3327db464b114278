-- The words of the program in a draft.
use Rattle.std.specs.Prelude.{◌≡◌, ℕ, nat_lt, true, false, List, length, Option}
use Rattle.cg_c_values.specs.Values.{Moment, Words, IsBelow}
use Rattle.cg_c_turn.specs.Draft.{Draft}
use Rattle.cg_c_turn.specs.Stands.{Runs, begun, word_or}

-- the draft with other words
abbrev pub with_words : Draft → List (Option ℕ) → Draft
with_words d words = record d { words = words }

-- the draft with more values
abbrev pub with_values : Draft → Draft → Draft
with_values d e = record d { values = e.values }

-- of a word that is `a` where the condition isn't 0, and else `b`, o is the value
pub record Merges (d : Draft) (condition number : ℕ) (a b o : Option ℕ) : Type 0 where
  pub below : IsBelow (length d.values) o
  pub chosen : (x : Moment) (E : Words) → Runs d x E → nat_lt 0 (E condition) ≡ true →
      word_or E (begun x d number) o ≡ word_or E (begun x d number) a
  pub other : (x : Moment) (E : Words) → Runs d x E → nat_lt 0 (E condition) ≡ false →
      word_or E (begun x d number) o ≡ word_or E (begun x d number) b
