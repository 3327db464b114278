-- The lines of a report, one after the other.
use Rattle.std.proofs.Common.{◌≡◌, ℕ, zero, suc, ◌+◌, length, ◌<◌, List, [], ◌∷◌, ◌++◌, take, decimal, refl, ap, ◌∙◌, sym, arith, append_assoc, codes}
use Rattle.std.specs.Prelude.{slice_index}
use Rattle.std.specs.List.{range_with_len, flat_map}
use Rattle.std.proofs.lemmas.Grind.{flat_map-append}
use Rattle.std.proofs.lemmas.List.{take_more, append-nil}
use Rattle.cg_command_run.specs.Turns.{spaced}

spaced-append : (ws vs : List ℕ) → spaced (ws ++ vs) ≡ spaced ws ++ spaced vs
spaced-append [] vs = refl
spaced-append (w ∷ ws) vs = ap (λ z. (32 ∷ decimal w) ++ z) (spaced-append ws vs) ∙ sym (append_assoc (32 ∷ decimal w) (spaced ws) (spaced vs))

-- one word more
spaced_more : (ws : List ℕ) (i : ℕ) → i < length ws → spaced (take (i + 1) ws) ≡ spaced (take i ws) ++ (32 ∷ decimal (slice_index ws i))
spaced_more ws i h = ap spaced (take_more ws i 0 h) ∙ spaced-append (take i ws) (slice_index ws i ∷ []) ∙ ap (λ z. spaced (take i ws) ++ z) (append-nil (32 ∷ decimal (slice_index ws i)))

range_more : (a n : ℕ) → range_with_len a (suc n) ≡ range_with_len a n ++ (a + n) ∷ []
range_more a zero = let e : a ≡ a + 0 = omega arith in ap (λ k. k ∷ []) e
range_more a (suc n) =
    let e : a + 1 + n ≡ a + suc n = omega arith in
    ap (λ z. a ∷ z) (range_more (a + 1) n) ∙ ap (λ k. a ∷ (range_with_len (a + 1) n ++ k ∷ [])) e

-- one number more
pub flat_range_more : {A : Type 0} (f : ℕ → List A) (n : ℕ) → flat_map f (range_with_len 0 (n + 1)) ≡ flat_map f (range_with_len 0 n) ++ f n
flat_range_more f n =
    let e : n + 1 ≡ suc n = omega arith in
    let z : 0 + n ≡ n = omega arith in
    ap (λ k. flat_map f (range_with_len 0 k)) e ∙ ap (flat_map f) (range_more 0 n) ∙ flat_map-append f (range_with_len 0 n) ((0 + n) ∷ []) ∙ ap (λ k. flat_map f (range_with_len 0 n) ++ (f k ++ [])) z ∙ ap (λ y. flat_map f (range_with_len 0 n) ++ y) (append-nil (f n))

-- one word more on a line
pub line_more : (old : List ℕ) (port : ℕ) (ws : List ℕ) (i : ℕ) (before after text : List ℕ) → before ≡ old ++ (codes "out " ++ (decimal port ++ (codes ":" ++ spaced (take i ws))))
    → text ≡ 32 ∷ decimal (slice_index ws i) → after ≡ before ++ text → i < length ws → after ≡ old ++ (codes "out " ++ (decimal port ++ (codes ":" ++ spaced (take (i + 1) ws))))
line_more old port ws i before after text b t a h = rw (a, b, t, spaced_more ws i h) (simp append_assoc)
