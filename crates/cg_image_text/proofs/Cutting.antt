-- Steps of cutting a text into fields.
use Rattle.std.proofs.Common.{◌≡◌, ℕ, zero, suc, ◌+◌, ◌-◌, ◌≤◌, true, false, cond, ◌==◌, List, [], ◌∷◌, length, get_or, take, drop, refl, sym, ◌∙◌, ap, arith, add-one}
use Rattle.std.proofs.lemmas.List.{take_rest, drop-drop}
use Rattle.std.specs.List.{prefix_len}
use Rattle.std.proofs.lemmas.List.Sums.{prefix_len-le-length}
use Rattle.std.proofs.lemmas.List.Folds.{length-prefix_len}
use Rattle.cg_image_text.specs.Fields.{Field, is_solid, is_remark, remark_length, first_field, fields_from, fields_at, end_of}

pub remark_fits : (b : ℕ) (bytes : List ℕ) → remark_length b bytes ≤ length bytes
remark_fits b bytes = elim (b == 35) as (λ x. cond x (prefix_len is_remark bytes) 0 ≤ length bytes) [ true ↦ prefix_len-le-length is_remark bytes | false ↦ omega arith ]

-- the value of `&s[n..]`
pub rest_is : (n : ℕ) (s : List ℕ) → take (length s - n) (drop n s) ≡ drop n s
rest_is n s = take_rest s n

take_front : (n b : ℕ) (rest : List ℕ) → take (n + 1) (b ∷ rest) ≡ b ∷ take n rest
take_front n b rest = rw (add-one n)

-- the bytes behind the first
rest_of : (bytes rest : List ℕ) (b : ℕ) → bytes ≡ b ∷ rest → take (length bytes - 1) (drop 1 bytes) ≡ rest
rest_of bytes rest b e = rest_is 1 bytes ∙ ap (drop 1) e

-- the field that was cut off is the first
pub first_is : (bytes rest : List ℕ) (b n place : ℕ) → bytes ≡ b ∷ rest → n ≡ prefix_len is_solid (take (length bytes - 1) (drop 1 bytes))
    → (let f : Field = record { text = take (n + 1) bytes; place = place } in f ≡ first_field b rest place)
first_is bytes rest b n place e en =
    let size : n ≡ prefix_len is_solid rest = en ∙ ap (prefix_len is_solid) (rest_of bytes rest b e) in
    let text : take (n + 1) bytes ≡ b ∷ take (prefix_len is_solid rest) rest = ap (take (n + 1)) e ∙ take_front n b rest ∙ ap (λ x. b ∷ take x rest) size in
    ap (λ x. record { text = x; place = place }) text

-- how long a gap is
pub gap_is : (bytes rest : List ℕ) (b n : ℕ) → bytes ≡ b ∷ rest → n ≡ remark_length (get_or bytes 0 0) (take (length bytes - 1) (drop 1 bytes)) → n + 1 ≡ remark_length b rest + 1
gap_is bytes rest b n e en = ap (λ x. x + 1) (en ∙ ap (remark_length (get_or bytes 0 0)) (rest_of bytes rest b e) ∙ ap (λ x. remark_length (get_or x 0 0) rest) e)

-- the bytes of the field or the comment before are passed over
pub passed : (n p : ℕ) (bytes : List ℕ) → fields_from n p bytes ≡ fields_from 0 (p + n) (drop n bytes)
passed zero p bytes = ap (λ x. fields_from 0 x bytes) (omega arith)
passed (suc n) p [] = refl
passed (suc n) p (b ∷ bytes) = passed n (p + 1) bytes ∙ ap (λ x. fields_from 0 x (drop n bytes)) (omega arith)

field_then : (place b : ℕ) (rest : List ℕ) (f : Field) → is_solid b ≡ true → f ≡ first_field b rest place
    → fields_from 0 place (b ∷ rest) ≡ f ∷ fields_from 0 (place + length f.text) (drop (length f.text) (b ∷ rest))
field_then place b rest f h e =
    let n = prefix_len is_solid rest in
    let text : length f.text ≡ suc n = ap (λ (x : Field). length x.text) e ∙ ap suc (length-prefix_len is_solid rest) in
    ap (λ x. cond x (first_field b rest place ∷ fields_from n (place + 1) rest) (fields_from (remark_length b rest) (place + 1) rest)) h
    ∙ ap (λ x. first_field b rest place ∷ x) (passed n (place + 1) rest)
    ∙ ap (λ x. x ∷ fields_from 0 (place + 1 + n) (drop n rest)) (sym e)
    ∙ ap (λ x. f ∷ fields_from 0 x (drop n rest)) (omega (arith, text))
    ∙ ap (λ k. f ∷ fields_from 0 (place + length f.text) (drop k (b ∷ rest))) (sym text)

-- the field at a place, and then those behind it
pub next_cut : (bytes : List ℕ) (place b : ℕ) (rest : List ℕ) (f : Field) → drop place bytes ≡ b ∷ rest → is_solid b ≡ true → f ≡ first_field b rest place → fields_at bytes place ≡ f ∷ fields_at bytes (end_of f)
next_cut bytes place b rest f e h te =
    let n = length f.text in
    ap (fields_from 0 place) e
    ∙ field_then place b rest f h te
    ∙ ap (λ x. f ∷ fields_from 0 (place + n) (drop n x)) (sym e)
    ∙ ap (λ x. f ∷ fields_from 0 (place + n) x) (drop-drop n place bytes)
    ∙ ap (λ p. f ∷ fields_at bytes (p + n)) (ap (λ (x : Field). x.place) (sym te))

-- a gap is passed over
pub gap_cut : (bytes : List ℕ) (place b n : ℕ) (rest : List ℕ) → drop place bytes ≡ b ∷ rest → is_solid b ≡ false → n ≡ remark_length b rest + 1 → fields_at bytes (place + n) ≡ fields_at bytes place
gap_cut bytes place b n rest e h en =
    let k = remark_length b rest in
    let size : n ≡ suc k = omega (arith, en) in
    sym (ap (fields_from 0 place) e
    ∙ ap (λ x. cond x (first_field b rest place ∷ fields_from (prefix_len is_solid rest) (place + 1) rest) (fields_from k (place + 1) rest)) h
    ∙ passed k (place + 1) rest
    ∙ ap (λ x. fields_from 0 x (drop k rest)) (omega (arith, en))
    ∙ ap (λ m. fields_from 0 (place + n) (drop m (b ∷ rest))) (sym size)
    ∙ ap (λ x. fields_from 0 (place + n) (drop n x)) (sym e)
    ∙ ap (fields_from 0 (place + n)) (drop-drop n place bytes))
