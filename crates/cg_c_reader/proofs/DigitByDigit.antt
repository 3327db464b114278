-- Values of numbers, digit by digit, and their last bytes.
use Rattle.std.proofs.Common.{◌≡◌, ℕ, suc, ◌+◌, ◌-◌, ◌*◌, ◌<◌, ◌≤◌, min, Bool, true, List, [], ◌∷◌, ◌++◌, length, get_or, take, drop, reverse, ⊎_elim, refl, sym, ap, ◌∙◌, arith}
use Rattle.std.proofs.Math.Nat.{mul-le-mul_right}
use Rattle.std.proofs.lemmas.Bool.{cases_lt}
use Rattle.std.proofs.lemmas.List.{take_more, length-reverse, reverse-append}
use Rattle.cg_c_syntax.specs.Pieces.{first_is}
use Rattle.cg_c_syntax.specs.Words.{digit_value, value_from, is_hexadecimal}

value_push : (base n : ℕ) (ds : List ℕ) (d : ℕ) → value_from base n (ds ++ d ∷ []) ≡ base * value_from base n ds + digit_value d
value_push base n [] d = refl
value_push base n (x ∷ ds) d = value_push base (base * n + digit_value x) ds d

lesser : (base d v most : ℕ) → v < most → min (base * min most v + d) most ≡ min most (base * v + d)
lesser base d v most h =
    let here : min most v ≡ v = omega arith in
    let swap : min (base * v + d) most ≡ min most (base * v + d) = omega arith in
    ap (λ (x : ℕ). min (base * x + d) most) here ∙ swap

greater : (base d v most : ℕ) → 1 ≤ base → most ≤ v → min (base * min most v + d) most ≡ min most (base * v + d)
greater base d v most b h =
    let here : min most v ≡ most = omega arith in
    let low : 1 * most ≤ base * most = mul-le-mul_right most b in
    let high : 1 * v ≤ base * v = mul-le-mul_right v b in
    let swap : min (base * most + d) most ≡ min most (base * v + d) = omega arith in
    ap (λ (x : ℕ). min (base * x + d) most) here ∙ swap

-- a number that is not distinguished from greater ones, and one digit more
capped : (base d v most : ℕ) → 1 ≤ base → min (base * min most v + d) most ≡ min most (base * v + d)
capped base d v most b = ⊎_elim (λ x. lesser base d v most x) (λ x. greater base d v most b x) (cases_lt v most)

pub value_more : (base most : ℕ) (ds : List ℕ) (i n : ℕ) → 1 ≤ base → i < length ds → n ≡ min most (value_from base 0 (take i ds))
    → min (base * n + digit_value (get_or ds i 0)) most ≡ min most (value_from base 0 (take (i + 1) ds))
value_more base most ds i n b h e =
    let d = digit_value (get_or ds i 0) in
    ap (λ (x : ℕ). min (base * x + d) most) e
    ∙ capped base d (value_from base 0 (take i ds)) most b
    ∙ ap (min most) (sym (value_push base 0 (take i ds) (get_or ds i 0)) ∙ ap (value_from base 0) (sym (take_more ds i 0 h)))

-- a hexadecimal number has more than one byte
pub hexadecimal_long : (text : List ℕ) → is_hexadecimal text ≡ true → 2 ≤ length text
hexadecimal_long [] h = cc
hexadecimal_long (a ∷ []) h = cc
hexadecimal_long (a ∷ b ∷ text) h = omega arith

first_append : (p : ℕ → Bool) (s t : List ℕ) → 0 < length s → first_is p (s ++ t) ≡ first_is p s
first_append p [] t h = absurd (omega arith)
first_append p (x ∷ s) t h = refl

back : (x y : ℕ) (text : List ℕ) → drop (length (y ∷ text) - 1) (y ∷ text) ≡ drop (length (x ∷ y ∷ text) - 1) (x ∷ y ∷ text)
back x y text =
    let one : suc (length text) - 1 ≡ length text = omega arith in
    let two : suc (length text) ≡ suc (suc (length text)) - 1 = omega arith in
    ap (λ (k : ℕ). drop k (y ∷ text)) one ∙ ap (λ (k : ℕ). drop k (x ∷ y ∷ text)) two

-- the last byte is the first of the reversed ones
pub last_is : (p : ℕ → Bool) (text : List ℕ) → first_is p (reverse text) ≡ first_is p (drop (length text - 1) text)
last_is p [] = refl
last_is p (x ∷ []) = refl
last_is p (x ∷ y ∷ text) =
    let some : 0 < length (reverse (y ∷ text)) = omega (arith, length-reverse (y ∷ text)) in
    ap (first_is p) (reverse-append (x ∷ []) (y ∷ text)) ∙ first_append p (reverse (y ∷ text)) (x ∷ []) some ∙ last_is p (y ∷ text) ∙ ap (first_is p) (back x y text)
