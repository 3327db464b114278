-- Steps of cutting bytes into tokens.
use Rattle.std.proofs.Common.{◌≡◌, ℕ, zero, suc, ◌+◌, ◌-◌, ◌≤◌, true, false, cond, ◌&&◌, ◌==◌, Option, List, [], ◌∷◌, length, get_or, take, drop, refl, sym, ◌∙◌, ap, arith, add-one}
use Rattle.std.proofs.lemmas.List.{take_rest, drop-drop, length-take}
use Rattle.std.specs.List.{prefix_len}
use Rattle.std.proofs.lemmas.List.Folds.{length-prefix_len}
use Rattle.cg_tokens.specs.Tokens.{Placed, is_blank, kind_of, goes_on, is_double, is_next, more_of, first_token, tokens_from, tokens_at, end_of}

-- the value of `&s[n..]`
pub rest_is : (n : ℕ) (s : List ℕ) → take (length s - n) (drop n s) ≡ drop n s
rest_is n s = take_rest s n

take_front : (n b : ℕ) (rest : List ℕ) → take (n + 1) (b ∷ rest) ≡ b ∷ take n rest
take_front n b rest = rw (add-one n)

-- the token that was cut off is the first
pub first_is : (double : Option ℕ) (bytes rest : List ℕ) (b n place : ℕ) → bytes ≡ b ∷ rest → n ≡ more_of double (get_or bytes 0 0) (take (length bytes - 1) (drop 1 bytes))
    → (let t : Placed = record { text = take (n + 1) bytes; place = place } in t ≡ first_token double b rest place)
first_is double bytes rest b n place e en =
    let size : n ≡ more_of double b rest = en ∙ ap (more_of double (get_or bytes 0 0)) (rest_is 1 bytes) ∙ ap (λ x. more_of double (get_or x 0 0) (drop 1 x)) e in
    let text : take (n + 1) bytes ≡ b ∷ take (more_of double b rest) rest = ap (take (n + 1)) e ∙ take_front n b rest ∙ ap (λ x. b ∷ take x rest) size in
    ap (λ x. record { text = x; place = place }) text

length_next : (b n : ℕ) (rest : List ℕ) → length (take n rest) ≡ n → (let more = cond (is_next b rest) 1 n in length (take more rest) ≡ more)
length_next b n [] h = h
length_next b n (c ∷ rest) h = elim (c == b) as (λ x. let more = cond x 1 n in length (take more (c ∷ rest)) ≡ more) [ true ↦ refl | false ↦ h ]

-- a token ends where its bytes do
length_more : (double : Option ℕ) (b : ℕ) (rest : List ℕ) → length (take (more_of double b rest) rest) ≡ more_of double b rest
length_more double b rest =
    let run = length-prefix_len (goes_on (kind_of b)) rest in
    elim (is_double double b) as (λ x. let more = cond (x && is_next b rest) 1 (prefix_len (goes_on (kind_of b)) rest) in length (take more rest) ≡ more)
    [ true ↦ length_next b (prefix_len (goes_on (kind_of b)) rest) rest run | false ↦ run ]

pub more_fits : (double : Option ℕ) (b : ℕ) (rest : List ℕ) → more_of double b rest ≤ length rest
more_fits double b rest = omega (arith, length_more double b rest, length-take (more_of double b rest) rest)

-- the bytes of the token before are passed over
pub passed : (double : Option ℕ) (n p : ℕ) (bytes : List ℕ) → tokens_from double n p bytes ≡ tokens_from double 0 (p + n) (drop n bytes)
passed double zero p bytes = ap (λ x. tokens_from double 0 x bytes) (omega arith)
passed double (suc n) p [] = refl
passed double (suc n) p (b ∷ bytes) = passed double n (p + 1) bytes ∙ ap (λ x. tokens_from double 0 x (drop n bytes)) (omega arith)

token_then : (double : Option ℕ) (place b : ℕ) (rest : List ℕ) (t : Placed) → is_blank b ≡ false → t ≡ first_token double b rest place
    → tokens_from double 0 place (b ∷ rest) ≡ t ∷ tokens_from double 0 (place + length t.text) (drop (length t.text) (b ∷ rest))
token_then double place b rest t h e =
    let text : length t.text ≡ suc (more_of double b rest) = ap (λ (x : Placed). length x.text) e ∙ ap suc (length_more double b rest) in
    ap (λ x. cond x (tokens_from double 0 (place + 1) rest) (first_token double b rest place ∷ tokens_from double (more_of double b rest) (place + 1) rest)) h
    ∙ ap (λ x. first_token double b rest place ∷ x) (passed double (more_of double b rest) (place + 1) rest)
    ∙ ap (λ x. x ∷ tokens_from double 0 (place + 1 + more_of double b rest) (drop (more_of double b rest) rest)) (sym e)
    ∙ ap (λ x. t ∷ tokens_from double 0 x (drop (more_of double b rest) rest)) (omega (arith, text))
    ∙ ap (λ n. t ∷ tokens_from double 0 (place + length t.text) (drop n (b ∷ rest))) (sym text)

-- the token at a place, and then those behind it
pub next_cut : (double : Option ℕ) (bytes : List ℕ) (place b : ℕ) (rest : List ℕ) (t : Placed) → drop place bytes ≡ b ∷ rest → is_blank b ≡ false → t ≡ first_token double b rest place → tokens_at double bytes place ≡ t ∷ tokens_at double bytes (end_of t)
next_cut double bytes place b rest t e h te =
    let n = length t.text in
    ap (tokens_from double 0 place) e
    ∙ token_then double place b rest t h te
    ∙ ap (λ x. t ∷ tokens_from double 0 (place + n) (drop n x)) (sym e)
    ∙ ap (λ x. t ∷ tokens_from double 0 (place + n) x) (drop-drop n place bytes)
    ∙ ap (λ p. t ∷ tokens_at double bytes (p + n)) (ap (λ (x : Placed). x.place) (sym te))
