-- Fields of units that are off, and greatest values.
use Rattle.std.proofs.Common.{◌≡◌, ℕ, true, not, ap, eqb, leb, ◌-◌, ◌<◌, get_or, replicate, ◌∙◌, zero, suc, ◌≤◌, arith, max, refl, Bool, false}
use Rattle.std.proofs.lemmas.Bool.{or_left, and_from, or_from}
use Rattle.cg_model.specs.declared.config.UnitFields.{UnitFields}
use Rattle.cg_model.specs.Config.{arg, no_arg}
use Rattle.cg_model.specs.Canonical.{mode_right, count_right, word_right, greatest_of, any_below}
use Rattle.std.specs.Prelude.{slice_index}
use Rattle.std.proofs.lemmas.List.{get_or-replicate}

-- an argument that is all zero keeps the rules
pub zero_mode : (f : UnitFields) (p : ℕ) → arg f p ≡ no_arg → mode_right f p ≡ true
zero_mode f p e = or_left _ _ (ap (λ a. not a.fixed) e)

pub zero_count : (f : UnitFields) (p : ℕ) → arg f p ≡ no_arg → count_right f p ≡ true
zero_count f p e = and_from _ _ (ap (λ a. leb a.count 4) e) (or_left _ _ (ap (λ a. eqb a.count 0) e))

pub zero_word : (f : UnitFields) (p k : ℕ) → k < 4 → arg f p ≡ no_arg → word_right f p k ≡ true
zero_word f p k lt e = or_left _ _ (ap (λ a. eqb (slice_index a.init k) 0) e ∙ ap (λ z. eqb z 0) (get_or-replicate 4 k 0 0 lt))

pub greatest_below : (f : ℕ → ℕ) (n b : ℕ) → ((i : ℕ) → i < n → f i ≤ b) → greatest_of f n ≤ b
unfolding greatest_of
greatest_below f zero b h = omega arith
greatest_below f (suc n) b h = let before = greatest_below f n b (λ i lt. h i (omega arith)) in let last = h n (omega arith) in omega arith

pub greatest_same : (f g : ℕ → ℕ) (n : ℕ) → ((i : ℕ) → i < n → f i ≡ g i) → greatest_of f n ≡ greatest_of g n
unfolding greatest_of
greatest_same f g zero h = refl
greatest_same f g (suc n) h = ap (λ z. max z (f n)) (greatest_same f g n (λ i lt. h i (omega arith))) ∙ ap (λ z. max (greatest_of g n) z) (h n (omega arith))

pub any_none : (f : ℕ → Bool) (n : ℕ) → ((i : ℕ) → i < n → f i ≡ false) → any_below f n ≡ false
unfolding any_below
any_none f zero h = refl
any_none f (suc n) h = or_from (any_below f n) (f n) (any_none f n (λ i lt. h i (omega arith))) (h n (omega arith))
