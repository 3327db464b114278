-- The words behind a condition, one by one.
use Rattle.std.proofs.Common.{◌≡◌, ◌⊎◌, inl, inr, ℕ, ◌+◌, ◌<◌, ◌≤◌, List, [], ◌∷◌, ◌++◌, length, Option, Some, None, slice_index_or, refl, sym, ap, ◌∙◌, subst, arith}
use Rattle.std.proofs.Math.Nat.{eq-or-lt_of_le}
use Rattle.std.proofs.lemmas.Bool.{cases_lt}
use Rattle.std.proofs.Math.ListN.{get_or-append, get_or-eq_default}
use Rattle.std.proofs.lemmas.List.{get_or-append-add}
use Rattle.cg_c_values.specs.Values.{Moment, Words, Extends, IsBelow}
use Rattle.cg_c_turn.specs.Draft.{Draft}
use Rattle.cg_c_turn.specs.Stands.{begun, word_or}
use Rattle.cg_c_turn.specs.Words.{Merges}
use Rattle.cg_c_turn.proofs.Prefixes.{runs_shorter, begun_same}

pub below_more : (m n : ℕ) (o : Option ℕ) → m ≤ n → IsBelow m o → IsBelow n o
below_more m n None h b = tt
below_more m n (Some v) h b = omega (arith, h, b)

other_begun : (d e : Draft) (x : Moment) (E : Words) (number : ℕ) (o a : Option ℕ) → e.initial ≡ d.initial → word_or E (begun x d number) o ≡ word_or E (begun x d number) a → word_or E (begun x e number) o ≡ word_or E (begun x e number) a
other_begun d e x E number o a initial h = subst (λ z. word_or E z o ≡ word_or E z a) (begun_same x d e number initial) h

pub merges_later : (d e : Draft) (condition number : ℕ) (a b o : Option ℕ) → Extends d.values e.values → e.initial ≡ d.initial → Merges d condition number a b o → Merges e condition number a b o
merges_later d e condition number a b o longer initial m =
    record {
      below = below_more (length d.values) (length e.values) o longer.longer m.below;
      chosen = λ x E r c. other_begun d e x E number o a initial (m.chosen x E (runs_shorter d e longer initial r) c);
      other = λ x E r c. other_begun d e x E number o b initial (m.other x E (runs_shorter d e longer initial r) c);
    }

new_word : (d e : Draft) (condition : ℕ) (chosen other words : List (Option ℕ)) (o : Option ℕ) (k n : ℕ) → length words ≡ k → Extends d.values e.values → e.initial ≡ d.initial → ((n : ℕ) → n < k → Merges d condition n (slice_index_or chosen n None) (slice_index_or other n None) (slice_index_or words n None)) → Merges e condition k (slice_index_or chosen k None) (slice_index_or other k None) o → (n ≡ k) ⊎ (n < k) → Merges e condition n (slice_index_or chosen n None) (slice_index_or other n None) (slice_index_or (words ++ o ∷ []) n None)
new_word d e condition chosen other words o k n long longer initial before here (inl is) =
    let found : slice_index_or (words ++ o ∷ []) n None ≡ o = ap (λ z. slice_index_or (words ++ o ∷ []) z None) (is ∙ omega (arith, long)) ∙ get_or-append-add words (o ∷ []) 0 None in
    subst (λ z. Merges e condition n (slice_index_or chosen n None) (slice_index_or other n None) z) (sym found)
    (subst (λ z. Merges e condition z (slice_index_or chosen z None) (slice_index_or other z None) o) (sym is) here)
new_word d e condition chosen other words o k n long longer initial before here (inr h) =
    subst (λ z. Merges e condition n (slice_index_or chosen n None) (slice_index_or other n None) z) (sym (get_or-append words (o ∷ []) None n (omega (arith, long, h))))
    (merges_later d e condition n (slice_index_or chosen n None) (slice_index_or other n None) (slice_index_or words n None) longer initial (before n h))

pub one_more_word : (d e : Draft) (condition : ℕ) (chosen other words : List (Option ℕ)) (o : Option ℕ) (k : ℕ) → length words ≡ k → Extends d.values e.values → e.initial ≡ d.initial → ((n : ℕ) → n < k → Merges d condition n (slice_index_or chosen n None) (slice_index_or other n None) (slice_index_or words n None)) → Merges e condition k (slice_index_or chosen k None) (slice_index_or other k None) o → (n : ℕ) → n < k + 1 → Merges e condition n (slice_index_or chosen n None) (slice_index_or other n None) (slice_index_or (words ++ o ∷ []) n None)
one_more_word d e condition chosen other words o k long longer initial before here n h = new_word d e condition chosen other words o k n long longer initial before here (eq-or-lt_of_le (omega (arith, h)))

nothing_merged : (d : Draft) (condition number : ℕ) (a b o : Option ℕ) → a ≡ None → b ≡ None → o ≡ None → Merges d condition number a b o
nothing_merged d condition number None None None ha hb ho = record { below = tt; chosen = λ x E r c. refl; other = λ x E r c. refl }
nothing_merged d condition number (Some a) b o ha hb ho = absurd (cc)
nothing_merged d condition number None (Some b) o ha hb ho = absurd (cc)
nothing_merged d condition number None None (Some o) ha hb ho = absurd (cc)

by_count : (d : Draft) (condition n count : ℕ) (chosen other words : List (Option ℕ)) → length words ≡ count → length chosen ≤ count → length other ≤ count → ((n : ℕ) → n < count → Merges d condition n (slice_index_or chosen n None) (slice_index_or other n None) (slice_index_or words n None)) → ((count ≡ n) ⊎ (count < n)) ⊎ (n < count) → Merges d condition n (slice_index_or chosen n None) (slice_index_or other n None) (slice_index_or words n None)
by_count d condition n count chosen other words long a b each (inr h) = each n h
by_count d condition n count chosen other words long a b each (inl (inl h)) = nothing_merged d condition n _ _ _ (get_or-eq_default chosen None (omega (arith, a, h))) (get_or-eq_default other None (omega (arith, b, h))) (get_or-eq_default words None (omega (arith, long, h)))
by_count d condition n count chosen other words long a b each (inl (inr h)) = nothing_merged d condition n _ _ _ (get_or-eq_default chosen None (omega (arith, a, h))) (get_or-eq_default other None (omega (arith, b, h))) (get_or-eq_default words None (omega (arith, long, h)))

less_or_not : (n count : ℕ) → (n < count) ⊎ (count ≤ n) → ((count ≡ n) ⊎ (count < n)) ⊎ (n < count)
less_or_not n count (inr h) = inl (eq-or-lt_of_le h)
less_or_not n count (inl h) = inr h

pub all_merged : (d : Draft) (condition count : ℕ) (chosen other words : List (Option ℕ)) → length words ≡ count → length chosen ≤ count → length other ≤ count → ((n : ℕ) → n < count → Merges d condition n (slice_index_or chosen n None) (slice_index_or other n None) (slice_index_or words n None)) → (n : ℕ) → Merges d condition n (slice_index_or chosen n None) (slice_index_or other n None) (slice_index_or words n None)
all_merged d condition count chosen other words long a b each n = by_count d condition n count chosen other words long a b each (less_or_not n count (cases_lt n count))

pub merges_of : (d : Draft) (condition number : ℕ) (a b a' b' o : Option ℕ) → a ≡ a' → b ≡ b' → Merges d condition number a b o → Merges d condition number a' b' o
merges_of d condition number a b a' b' o ha hb m = subst (λ z. Merges d condition number z b' o) ha (subst (λ z. Merges d condition number a z o) hb m)

pub found_in : (d : Draft) (condition : ℕ) (chosen other words new : List (Option ℕ)) (n : ℕ) → words ≡ new → Merges d condition n (slice_index_or chosen n None) (slice_index_or other n None) (slice_index_or words n None) → Merges d condition n (slice_index_or chosen n None) (slice_index_or other n None) (slice_index_or new n None)
found_in d condition chosen other words new n is m = subst (λ (z : List (Option ℕ)). Merges d condition n (slice_index_or chosen n None) (slice_index_or other n None) (slice_index_or z n None)) is m
