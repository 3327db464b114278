-- Words as they were when a turn began, and words that depend on a condition.
use Rattle.std.proofs.Common.{◌≡◌, ℕ, ◌<◌, ◌==◌, nat_lt, if◌then◌else◌, Bool, true, false, length, Option, Some, None, refl, sym, ◌∙◌}
use Rattle.std.proofs.lemmas.Bool.{eqb-true}
use Rattle.std.proofs.lemmas.Option.{none-some}
use Rattle.cg_word.specs.declared.op.Op.TheVariants as ops
use Rattle.cg_word.specs.Word.{apply_of}
use Rattle.cg_c_values.specs.declared.value.Value.TheVariants.{Carried}
use Rattle.cg_c_values.specs.Values.{Moment, Words, IsWordOf, value_at}
use Rattle.cg_c_turn.specs.Draft.{Draft, initial_in}
use Rattle.cg_c_turn.specs.Stands.{Runs, begun, word_or}
use Rattle.cg_c_turn.specs.Words.{Merges}

by_turn : (x : Moment) (d : Draft) (number w : ℕ) (b : Bool) → (x.turn == 0) ≡ b → w ≡ x.carried number → (x.turn ≡ 0 → x.carried number ≡ initial_in d number) → w ≡ (if b then initial_in d number else x.carried number)
by_turn x d number w true is h first = h ∙ first (eqb-true x.turn 0 is)
by_turn x d number w false is h first = h

pub carried : (d : Draft) (v number : ℕ) → v < length d.values → value_at d.values v ≡ Carried number → (x : Moment) (E : Words) → Runs d x E → E v ≡ begun x d number
unfolding IsWordOf
carried d v number within is x E r =
    let w : IsWordOf x E (Carried number) (E v) = let h = r.fits.is v within in rw is at h in
    by_turn x d number (E v) (x.turn == 0) refl w (λ t. r.first t number (v, within, is))

by_choice : (c a b : ℕ) (t : Bool) → nat_lt 0 c ≡ t → apply_of ops.Select c a b ≡ (if t then a else b)
unfolding apply_of
by_choice c a b true h = rw h refl
by_choice c a b false h = rw h refl

pub merges : (d : Draft) (condition number a b v : ℕ) (chosen other : Option ℕ) → v < length d.values → ((x : Moment) (E : Words) → Runs d x E → E v ≡ apply_of ops.Select (E condition) (E a) (E b)) → ((x : Moment) (E : Words) → Runs d x E → E a ≡ word_or E (begun x d number) chosen) → ((x : Moment) (E : Words) → Runs d x E → E b ≡ word_or E (begun x d number) other) → Merges d condition number chosen other (Some v)
merges d condition number a b v chosen other within is a_is b_is =
    record {
      below = within;
      chosen = λ x E r c. is x E r ∙ by_choice (E condition) (E a) (E b) true c ∙ a_is x E r;
      other = λ x E r c. is x E r ∙ by_choice (E condition) (E a) (E b) false c ∙ b_is x E r;
    }

pub unassigned : (d : Draft) (v number : ℕ) (o : Option ℕ) → o ≡ None → v < length d.values → value_at d.values v ≡ Carried number → (x : Moment) (E : Words) → Runs d x E → E v ≡ word_or E (begun x d number) o
unassigned d v number None none within is x E r = carried d v number within is x E r
unassigned d v number (Some w) none within is x E r = absurd (none-some w (sym none))
