-- Texts that are cut into the fields that they are put together from.
use Rattle.std.proofs.Common.{◌≡◌, ℕ, ◌+◌, Bool, true, false, cond, List, [], ◌∷◌, ◌++◌, length, take, refl, ◌∙◌, ap, arith}
use Rattle.std.proofs.Math.Seq.{take-append_seam, drop-append_seam}
use Rattle.std.specs.List.{prefix_len, list_all}
use Rattle.cg_image_text.specs.Fields.{Field, is_solid, is_remark, remark_length, first_field, fields_from}
use Rattle.cg_image_text.proofs.Cutting.{passed}
use Rattle.cg_image_text.proofs.Digits.{both}

-- as many as pass are counted, up to one that does not
run_stops : (p : ℕ → Bool) (more : List ℕ) (c : ℕ) (rest : List ℕ) → list_all p more ≡ true → p c ≡ false → prefix_len p (more ++ c ∷ rest) ≡ length more
run_stops p [] c rest h stop = ap (λ x. cond x (1 + prefix_len p rest) 0) stop
run_stops p (x ∷ more) c rest h stop =
    let q = both (p x) (list_all p more) h in
    let rest_is = run_stops p more c rest q.1 stop in
    ap (λ b. cond b (1 + prefix_len p (more ++ c ∷ rest)) 0) q.0 ∙ omega (arith, rest_is)

abbrev field_at : List ℕ → ℕ → Field
field_at text place = record { text = text; place = place }

-- a blank
pub blank_cut : (c : ℕ) (rest : List ℕ) (place : ℕ) → is_solid c ≡ false → remark_length c rest ≡ 0 → fields_from 0 place (c ∷ rest) ≡ fields_from 0 (place + 1) rest
blank_cut c rest place hollow plain =
    ap (λ x. cond x (first_field c rest place ∷ fields_from (prefix_len is_solid rest) (place + 1) rest) (fields_from (remark_length c rest) (place + 1) rest)) hollow
    ∙ ap (λ n. fields_from n (place + 1) rest) plain

-- a field and the blank behind it
pub field_cut : (b : ℕ) (more : List ℕ) (c : ℕ) (rest : List ℕ) (place : ℕ) → is_solid b ≡ true → list_all is_solid more ≡ true → is_solid c ≡ false → remark_length c rest ≡ 0
    → fields_from 0 place (b ∷ (more ++ c ∷ rest)) ≡ field_at (b ∷ more) place ∷ fields_from 0 (place + length (b ∷ more) + 1) rest
field_cut b more c rest place solid all hollow plain =
    let whole = more ++ c ∷ rest in
    let n = length more in
    let size : prefix_len is_solid whole ≡ n = run_stops is_solid more c rest all hollow in
    ap (λ x. cond x (first_field b whole place ∷ fields_from (prefix_len is_solid whole) (place + 1) whole) (fields_from (remark_length b whole) (place + 1) whole)) solid
    ∙ ap (λ k. field_at (b ∷ take k whole) place ∷ fields_from k (place + 1) whole) size
    ∙ ap (λ x. field_at (b ∷ x) place ∷ fields_from n (place + 1) whole) (take-append_seam more (c ∷ rest))
    ∙ ap (λ x. field_at (b ∷ more) place ∷ x) (passed n (place + 1) whole)
    ∙ ap (λ x. field_at (b ∷ more) place ∷ fields_from 0 (place + 1 + n) x) (drop-append_seam more (c ∷ rest))
    ∙ ap (λ x. field_at (b ∷ more) place ∷ x) (blank_cut c rest (place + 1 + n) hollow plain)
    ∙ ap (λ p. field_at (b ∷ more) place ∷ fields_from 0 p rest) (omega arith)

-- a comment and the end of its line
pub comment_cut : (more rest : List ℕ) (place : ℕ) → list_all is_remark more ≡ true → fields_from 0 place (35 ∷ (more ++ 10 ∷ rest)) ≡ fields_from 0 (place + length (35 ∷ more) + 1) rest
comment_cut more rest place all =
    let whole = more ++ 10 ∷ rest in
    let n = length more in
    let size : prefix_len is_remark whole ≡ n = run_stops is_remark more 10 rest all refl in
    ap (λ k. fields_from k (place + 1) whole) size
    ∙ passed n (place + 1) whole
    ∙ ap (λ x. fields_from 0 (place + 1 + n) x) (drop-append_seam more (10 ∷ rest))
    ∙ blank_cut 10 rest (place + 1 + n) refl refl
    ∙ ap (λ p. fields_from 0 p rest) (omega arith)
