-- Steps through comments.
use Rattle.std.proofs.Common.{◌≡◌, ℕ, suc, ◌+◌, ◌-◌, ◌<◌, Bool, true, false, cond, Option, Some, None, List, [], ◌∷◌, length, take, drop, codes, refl, sym, ◌∙◌, ap, arith}
use Rattle.std.proofs.lemmas.List.{take_rest, drop_more}
use Rattle.cg_c_syntax.specs.Pieces.{begins, is_foul, sound_length, closed_length, one_more}
use Rattle.cg_c_reader.specs.Within.{further}

-- the value of `&s[n..]`
pub rest_is : (n : ℕ) (s : List ℕ) → take (length s - n) (drop n s) ≡ drop n s
rest_is n s = take_rest s n

module _ (one_line : Bool) where
  foul_none : (bytes : List ℕ) → is_foul one_line bytes ≡ true → sound_length one_line bytes ≡ 0
  foul_none [] h = refl
  foul_none (b ∷ bytes) h = ap (λ x. cond x 0 (suc (sound_length one_line bytes))) h

  sound_one : (bytes rest : List ℕ) (b : ℕ) → bytes ≡ b ∷ rest → is_foul one_line bytes ≡ false → sound_length one_line bytes ≡ suc (sound_length one_line rest)
  sound_one bytes rest b e h = ap (sound_length one_line) e ∙ ap (λ x. cond x 0 (suc (sound_length one_line rest))) (sym (ap (is_foul one_line) e) ∙ h)

  -- up to a byte that no comment may have
  pub sound_up_to : (bytes : List ℕ) (i : ℕ) → i + sound_length one_line (drop i bytes) ≡ sound_length one_line bytes → is_foul one_line (drop i bytes) ≡ true → sound_length one_line bytes ≡ i
  sound_up_to bytes i h foul = omega (arith, foul_none (drop i bytes) foul)

  -- one byte further
  pub sound_on : (bytes : List ℕ) (i : ℕ) → i < length bytes → i + sound_length one_line (drop i bytes) ≡ sound_length one_line bytes → is_foul one_line (drop i bytes) ≡ false
      → (i + 1) + sound_length one_line (drop (i + 1) bytes) ≡ sound_length one_line bytes
  sound_on bytes i within h sound = omega (arith, sound_one (drop i bytes) (drop (i + 1) bytes) _ (drop_more bytes i 0 within) sound)

further_one : (i : ℕ) (o : Option ℕ) → further i (one_more o) ≡ further (i + 1) o
further_one i None = refl
further_one i (Some n) = ap Some (let e : i + suc n ≡ (i + 1) + n = omega arith in e)

closed_one : (bytes rest : List ℕ) (b : ℕ) → bytes ≡ b ∷ rest → begins (codes "*/") bytes ≡ false → closed_length bytes ≡ one_more (closed_length rest)
closed_one bytes rest b e h = ap closed_length e ∙ ap (λ x. cond x (Some 2) (one_more (closed_length rest))) (sym (ap (begins (codes "*/")) e) ∙ h)

-- a byte at which no */ begins
pub closed_on : (bytes : List ℕ) (i : ℕ) → i < length bytes → closed_length bytes ≡ further i (closed_length (drop i bytes)) → begins (codes "*/") (drop i bytes) ≡ false → closed_length bytes ≡ further (i + 1) (closed_length (drop (i + 1) bytes))
closed_on bytes i within h none = h ∙ ap (further i) (closed_one (drop i bytes) (drop (i + 1) bytes) _ (drop_more bytes i 0 within) none) ∙ further_one i (closed_length (drop (i + 1) bytes))
