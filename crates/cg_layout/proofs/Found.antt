-- The first item that passes a test: in a list of what each item gives, and as a loop finds it.
use Rattle.std.proofs.Common.{◌≡◌, ℕ, ◌+◌, ◌<◌, ◌≤◌, Bool, true, false, cond, List, [], ◌∷◌, length, get_or, drop, map, refl, sym, ap, ◌∙◌, Option, Some, None, add-one, arith, drop-cons}
use Rattle.std.proofs.Math.Seq.{drop-length}
use Rattle.std.specs.Prelude.{unwrap_or}
use Rattle.cg_model.specs.First.{first_from}

pub first_mapped : {X Y : Type 0} (f : X → Y) (t : ℕ → Y → Bool) (i : ℕ) (xs : List X) → first_from (λ v x. t v (f x)) i xs ≡ first_from t i (map f xs)
first_mapped f t i [] = refl
first_mapped f t i (x ∷ xs) = ap (λ z. cond (t i (f x)) (Some i) z) (first_mapped f t (i + 1) xs)

-- from item i on
pub first_after : {X : Type 0} (t : ℕ → X → Bool) (xs : List X) (i : ℕ) → Option ℕ
first_after t xs i = first_from t i (drop i xs)

pub first_begun : {X : Type 0} (t : ℕ → X → Bool) (xs : List X) → first_from t 0 xs ≡ first_after t xs 0
unfolding first_after
first_begun t xs = refl

opened : {X : Type 0} (t : ℕ → X → Bool) (xs : List X) (i : ℕ) (d : X) → i < length xs → first_after t xs i ≡ cond (t i (get_or xs i d)) (Some i) (first_after t xs (i + 1))
unfolding first_after
opened t xs i d h =
    ap (first_from t i) (drop-cons xs i d h) ∙ ap (λ n. cond (t i (get_or xs i d)) (Some i) (first_from t (i + 1) (drop n xs))) (sym (add-one i))

pub first_missed : {X : Type 0} (t : ℕ → X → Bool) (xs : List X) (i : ℕ) (d : X) (o : Option ℕ) → i < length xs → t i (get_or xs i d) ≡ false → o ≡ first_after t xs i → o ≡ first_after t xs (i + 1)
first_missed t xs i d o h fails e = e ∙ opened t xs i d h ∙ ap (λ b. cond b (Some i) (first_after t xs (i + 1))) fails

pub first_met : {X : Type 0} (t : ℕ → X → Bool) (xs : List X) (i : ℕ) (d : X) (o : Option ℕ) → i < length xs → t i (get_or xs i d) ≡ true → o ≡ first_after t xs i → o ≡ Some i
first_met t xs i d o h passes e = e ∙ opened t xs i d h ∙ ap (λ b. cond b (Some i) (first_after t xs (i + 1))) passes

pub first_missing : {X : Type 0} (t : ℕ → X → Bool) (xs : List X) (i : ℕ) (o : Option ℕ) → i ≡ length xs → o ≡ first_after t xs i → o ≡ None
unfolding first_after
first_missing t xs i o h e = e ∙ ap (λ n. first_from t i (drop n xs)) h ∙ ap (first_from t i) (drop-length xs)

-- it is one of them
pub first_within : {X : Type 0} (t : ℕ → X → Bool) (v : ℕ) (xs : List X) (n : ℕ) → v + length xs ≤ n → 0 < n → unwrap_or (first_from t v xs) 0 < n
first_within t v [] n h p = p
first_within t v (x ∷ xs) n h p = either (t v x) v (first_from t (v + 1) xs) n (omega arith) (first_within t (v + 1) xs n (omega arith) p)
  where
    either : (b : Bool) (v : ℕ) (o : Option ℕ) (n : ℕ) → v < n → unwrap_or o 0 < n → unwrap_or (cond b (Some v) o) 0 < n
    either true v o n a b = a
    either false v o n a b = b
