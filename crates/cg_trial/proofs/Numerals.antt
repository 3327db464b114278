-- Names that are a letter and a number.
use Rattle.std.proofs.Common.{◌≡◌, ℕ, zero, suc, ◌+◌, ◌/◌, ◌%◌, ◌<◌, ◌≤◌, ◌&&◌, true, List, [], ◌∷◌, ◌++◌, refl, ap, ap₂, ◌∙◌, arith, ⊎_elim}
use Rattle.std.specs.Prelude.{decimal, nat_le}
use Rattle.std.proofs.lemmas.Bool.{cases_lt}
use Rattle.std.proofs.lemmas.Fmt.{decimal_digit, decimal_step, decimal_injective}
use Rattle.cg_model.specs.Names.{is_name, begins_name, within_name}
use Rattle.cg_trial.specs.Drawn.{node_name}

-- a number below 100 has one digit or two
two_digits : (n : ℕ) → 10 ≤ n → n < 100 → decimal n ≡ (48 + n / 10) ∷ (48 + n % 10) ∷ []
two_digits n l u = decimal_step n l (omega arith) ∙ ap (λ z. z ++ (48 + n % 10) ∷ []) (decimal_digit (n / 10) (omega arith))

digit_within : (d : ℕ) → d < 10 → within_name (48 + d) ≡ true
digit_within zero l = refl
digit_within (suc zero) l = refl
digit_within (suc (suc zero)) l = refl
digit_within (suc (suc (suc zero))) l = refl
digit_within (suc (suc (suc (suc zero)))) l = refl
digit_within (suc (suc (suc (suc (suc zero))))) l = refl
digit_within (suc (suc (suc (suc (suc (suc zero)))))) l = refl
digit_within (suc (suc (suc (suc (suc (suc (suc zero))))))) l = refl
digit_within (suc (suc (suc (suc (suc (suc (suc (suc zero)))))))) l = refl
digit_within (suc (suc (suc (suc (suc (suc (suc (suc (suc zero))))))))) l = refl
digit_within (suc (suc (suc (suc (suc (suc (suc (suc (suc (suc d)))))))))) l = absurd (omega arith)

-- a letter with two digits at most is a name
one_digit_named : (c most d : ℕ) → begins_name c ≡ true → within_name c ≡ true → nat_le 2 most ≡ true → d < 10 → is_name most (c ∷ (48 + d) ∷ []) ≡ true
one_digit_named c most d b w s l =
    let one = ap₂ (λ x y. x && (y && (within_name (48 + d) && true))) b w in
    ap (λ x. x && nat_le 2 most) one ∙ ap (λ x. (x && true) && nat_le 2 most) (digit_within d l) ∙ s

two_digits_named : (c most d e : ℕ) → begins_name c ≡ true → within_name c ≡ true → nat_le 3 most ≡ true → d < 10 → e < 10 → is_name most (c ∷ (48 + d) ∷ (48 + e) ∷ []) ≡ true
two_digits_named c most d e b w s l m =
    let one = ap₂ (λ x y. x && (y && (within_name (48 + d) && (within_name (48 + e) && true)))) b w in
    ap (λ x. x && nat_le 3 most) one ∙ ap₂ (λ x y. (x && (y && true)) && nat_le 3 most) (digit_within d l) (digit_within e m) ∙ s

pub numbered : (c most n : ℕ) → begins_name c ≡ true → within_name c ≡ true → nat_le 2 most ≡ true → nat_le 3 most ≡ true → n < 100 → is_name most (c ∷ decimal n) ≡ true
numbered c most n b w s t l =
    ⊎_elim
    (λ h. ap (λ z. is_name most (c ∷ z)) (decimal_digit n h) ∙ one_digit_named c most n b w s h)
    (λ h. ap (λ z. is_name most (c ∷ z)) (two_digits n h l) ∙ two_digits_named c most (n / 10) (n % 10) b w t (omega arith) (omega arith))
    (cases_lt n 10)

pub nodes_apart : (v w : ℕ) → v < 1000 → w < 1000 → node_name v ≡ node_name w → v ≡ w
nodes_apart v w l m e =
    let f : ◌≡◌ {A = List ℕ} (118 ∷ decimal v) (118 ∷ decimal w) = e in
    let d : decimal v ≡ decimal w = cc in
    decimal_injective v w (omega arith) (omega arith) d
