-- Texts that are cut into the tokens that they are put together from.
use Rattle.std.proofs.Common.{◌≡◌, ℕ, zero, suc, ◌+◌, Bool, true, false, cond, codes, Option, Some, None, ◌&&◌, ◌||◌, ◌==◌, inl, inr, List, [], ◌∷◌, ◌++◌, length, take, refl, ◌∙◌, ap, arith}
use Rattle.std.proofs.Math.Seq.{take-append_seam, drop-append_seam}
use Rattle.std.specs.List.{prefix_len, list_all}
use Rattle.std.specs.Char.{is_ascii_digit}
use Rattle.std.proofs.lemmas.Bool.{eqb-true, or_cases}
use Rattle.cg_tokens.specs.declared.token.Kind.TheVariants.{Word, Number, Mark}
use Rattle.cg_tokens.specs.declared.token.Kind.{Kind}
use Rattle.cg_tokens.specs.Tokens.{is_blank, is_letter, kind_of, goes_on, is_double, is_next, more_of, first_token, tokens_from, tokens_of, texts}
use Rattle.cg_tokens.proofs.Lexing.{passed}

-- the texts do not depend on the place
pub place_free : (double : Option ℕ) (n p q : ℕ) (bytes : List ℕ) → texts (tokens_from double n p bytes) ≡ texts (tokens_from double n q bytes)
place_free double n p q [] = refl
place_free double (suc n) p q (b ∷ bytes) = place_free double n (p + 1) (q + 1) bytes
place_free double zero p q (b ∷ bytes) =
    elim (is_blank b) as (λ x. texts (cond x (tokens_from double 0 (p + 1) bytes) (first_token double b bytes p ∷ tokens_from double (more_of double b bytes) (p + 1) bytes)) ≡ texts (cond x (tokens_from double 0 (q + 1) bytes) (first_token double b bytes q ∷ tokens_from double (more_of double b bytes) (q + 1) bytes)))
    [ true ↦ place_free double 0 (p + 1) (q + 1) bytes | false ↦ ap (λ x. (b ∷ take (more_of double b bytes) bytes) ∷ x) (place_free double (more_of double b bytes) (p + 1) (q + 1) bytes) ]

-- as many as pass are counted, up to one that does not
run_stops : (p : ℕ → Bool) (more : List ℕ) (c : ℕ) (rest : List ℕ) → list_all p more ≡ true → p c ≡ false → prefix_len p (more ++ c ∷ rest) ≡ length more
run_stops p [] c rest h stop = ap (λ x. cond x (1 + prefix_len p rest) 0) stop
run_stops p (x ∷ more) c rest h stop =
    let q = elim (p x) as (λ b. b && list_all p more ≡ true → (b ≡ true) × (list_all p more ≡ true)) [ true ↦ λ e. (refl, e) | false ↦ λ e. cc ] h in
    let rest_is = run_stops p more c rest q.1 stop in
    ap (λ b. cond b (1 + prefix_len p (more ++ c ∷ rest)) 0) q.0 ∙ omega (arith, rest_is)

-- a token of a kind that the next byte does not go on with
token_cut : (double : Option ℕ) (k : Kind) (b : ℕ) (more : List ℕ) (c : ℕ) (rest : List ℕ) (place : ℕ) → is_blank b ≡ false → kind_of b ≡ k → is_double double b && is_next b (more ++ c ∷ rest) ≡ false → list_all (goes_on k) more ≡ true → goes_on k c ≡ false
    → texts (tokens_from double 0 place (b ∷ (more ++ c ∷ rest))) ≡ (b ∷ more) ∷ texts (tokens_from double 0 0 (c ∷ rest))
token_cut double k b more c rest place solid kind alone all stop =
    let whole = more ++ c ∷ rest in
    let size : more_of double b whole ≡ length more = ap (λ x. cond x 1 (prefix_len (goes_on (kind_of b)) whole)) alone ∙ ap (λ x. prefix_len (goes_on x) whole) kind ∙ run_stops (goes_on k) more c rest all stop in
    ap (λ x. texts (cond x (tokens_from double 0 (place + 1) whole) (first_token double b whole place ∷ tokens_from double (more_of double b whole) (place + 1) whole))) solid
    ∙ ap (λ n. (b ∷ take n whole) ∷ texts (tokens_from double n (place + 1) whole)) size
    ∙ ap (λ x. (b ∷ x) ∷ texts (tokens_from double (length more) (place + 1) whole)) (take-append_seam more (c ∷ rest))
    ∙ ap (λ x. (b ∷ more) ∷ texts x) (passed double (length more) (place + 1) whole)
    ∙ ap (λ x. (b ∷ more) ∷ texts (tokens_from double 0 (place + 1 + length more) x)) (drop-append_seam more (c ∷ rest))
    ∙ ap (λ x. (b ∷ more) ∷ x) (place_free double 0 (place + 1 + length more) 0 (c ∷ rest))

literal_not : (f : ℕ → Bool) (b k : ℕ) → f k ≡ false → b ≡ k → f b ≡ true → ⊥
literal_not f b k apart e h = let same = ap f e in cc

solid_at : (f : ℕ → Bool) (b : ℕ) (x : Bool) → f 32 ≡ false → f 9 ≡ false → f 13 ≡ false → f 10 ≡ false → is_blank b ≡ x → f b ≡ true → x ≡ false
solid_at f b false p q r s e h = refl
solid_at f b true p q r s e h = absurd (elim (or_cases _ (b == 10) e) [
  | inr w ↦ literal_not f b 10 s (eqb-true b 10 w) h
  | inl v ↦ elim (or_cases _ (b == 13) v) [
    | inr w ↦ literal_not f b 13 r (eqb-true b 13 w) h
    | inl u ↦ elim (or_cases (b == 32) (b == 9) u) [
      | inr w ↦ literal_not f b 9 q (eqb-true b 9 w) h
      | inl w ↦ literal_not f b 32 p (eqb-true b 32 w) h
    ]
  ]
])

-- a word up to a byte that it does not go on with
pub word_cut : (double : Option ℕ) (b : ℕ) (more : List ℕ) (c : ℕ) (rest : List ℕ) (place : ℕ) → is_double double b ≡ false → is_letter b ≡ true → list_all (λ x. is_letter x || is_ascii_digit x) more ≡ true → (is_letter c || is_ascii_digit c) ≡ false
    → texts (tokens_from double 0 place (b ∷ (more ++ c ∷ rest))) ≡ (b ∷ more) ∷ texts (tokens_from double 0 0 (c ∷ rest))
word_cut double b more c rest place alone first all stop =
    token_cut double Word b more c rest place (solid_at is_letter b (is_blank b) refl refl refl refl refl first) (ap (λ x. cond x Word (cond (is_ascii_digit b) Number Mark)) first) (ap (λ x. x && is_next b (more ++ c ∷ rest)) alone) all stop

-- a number up to a byte that is no digit
pub number_cut : (double : Option ℕ) (d : ℕ) (more : List ℕ) (c : ℕ) (rest : List ℕ) (place : ℕ) → is_double double d ≡ false → is_letter d ≡ false → is_ascii_digit d ≡ true → list_all is_ascii_digit more ≡ true → is_ascii_digit c ≡ false
    → texts (tokens_from double 0 place (d ∷ (more ++ c ∷ rest))) ≡ (d ∷ more) ∷ texts (tokens_from double 0 0 (c ∷ rest))
number_cut double d more c rest place alone other first all stop =
    token_cut double Number d more c rest place (solid_at is_ascii_digit d (is_blank d) refl refl refl refl refl first)
    (ap (λ x. cond x Word (cond (is_ascii_digit d) Number Mark)) other ∙ ap (λ x. cond x Number Mark) first) (ap (λ x. x && is_next d (more ++ c ∷ rest)) alone) all stop

no_more : (rest : List ℕ) → prefix_len (goes_on Mark) rest ≡ 0
no_more [] = refl
no_more (b ∷ rest) = refl

-- any other byte by itself, where it and the next are not one token
pub mark_cut : (double : Option ℕ) (b : ℕ) (rest : List ℕ) (place : ℕ) → is_double double b && is_next b rest ≡ false → is_blank b ≡ false → is_letter b ≡ false → is_ascii_digit b ≡ false
    → texts (tokens_from double 0 place (b ∷ rest)) ≡ (b ∷ []) ∷ texts (tokens_from double 0 0 rest)
mark_cut double b rest place alone solid other none =
    let kind = ap (λ x. cond x Word (cond (is_ascii_digit b) Number Mark)) other ∙ ap (λ x. cond x Number Mark) none in
    let size : more_of double b rest ≡ 0 = ap (λ x. cond x 1 (prefix_len (goes_on (kind_of b)) rest)) alone ∙ ap (λ x. prefix_len (goes_on x) rest) kind ∙ no_more rest in
    ap (λ x. texts (cond x (tokens_from double 0 (place + 1) rest) (first_token double b rest place ∷ tokens_from double (more_of double b rest) (place + 1) rest))) solid
    ∙ ap (λ n. (b ∷ take n rest) ∷ texts (tokens_from double n (place + 1) rest)) size
    ∙ ap (λ x. (b ∷ []) ∷ x) (place_free double 0 (place + 1) 0 rest)

-- where two = are one token, the first two of three are it
three_marks : texts (tokens_of (Some 61) (codes "a===b == =")) ≡ codes "a" ∷ codes "==" ∷ codes "=" ∷ codes "b" ∷ codes "==" ∷ codes "=" ∷ []
three_marks = refl

-- and where none are, each is one
single_marks : texts (tokens_of None (codes "a==b")) ≡ codes "a" ∷ codes "=" ∷ codes "=" ∷ codes "b" ∷ []
single_marks = refl
