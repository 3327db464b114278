-- The numbers of greatest bits.
use Rattle.std.proofs.Common.{◌≡◌, ◌<◌, ◌≤◌, ◌+◌, ◌-◌, ◌*◌, ℕ, zero, suc, arith, Bool, true, false, ◌&&◌, ◌||◌, ◌==◌, nat_le, List, [], ◌∷◌, ⊎_elim, refl, sym, ◌∙◌, ap, ap₂}
use Rattle.std.specs.Prelude.{decimal, not}
use Rattle.std.specs.List.{list_all}
use Rattle.cg_tokens.specs.Tokens.{is_letter}
use Rattle.std.proofs.lemmas.Bool.{eqb-true, leb-true, not-true, or_cases}
use Rattle.std.proofs.lemmas.Bool.Decides.{leb_tells}
use Rattle.std.specs.Fmt.{digits}
use Rattle.std.specs.Char.{is_ascii_digit}
use Rattle.std.specs.Cmp.Lexicographic.{same_text}
use Rattle.cg_verilog.specs.Words.{same}
use Rattle.cg_verilog.specs.Rules.{is_top, top_number}

-- a test of each number below a limit
all_below : (ℕ → Bool) → ℕ → Bool
all_below p zero = true
all_below p (suc n) = p n && all_below p n

pub both : (a b : Bool) → a && b ≡ true → (a ≡ true) × (b ≡ true)
both true b h = (refl, h)
both false b h = cc

below : (p : ℕ → Bool) (k n : ℕ) → all_below p k ≡ true → n < k → p n ≡ true
unfolding all_below
below p zero n h lt = absurd (omega arith)
below p (suc k) n h lt =
    let q = both (p k) (all_below p k) h in
    ⊎_elim (λ w. let least = w.1 in let last : n ≡ k = omega arith in ap p last ∙ q.0) (λ w. below p k n q.1 w.1) (leb_tells k n)

-- each number below 32 is spelled as one
pub number_top : (n : ℕ) → n < 32 → is_top (decimal n) ≡ true
unfolding all_below digits
number_top n lt = below (λ n. is_top (decimal n)) 32 n refl lt

pub number_of : (n : ℕ) → n < 32 → top_number (decimal n) == n ≡ true
unfolding all_below digits
number_of n lt = below (λ n. top_number (decimal n) == n) 32 n refl lt

-- numbers that are spelled alike are one
pub one_number : (m n : ℕ) → m < 32 → n < 32 → decimal m ≡ decimal n → m ≡ n
one_number m n a b e = sym (eqb-true _ _ (number_of m a)) ∙ ap top_number e ∙ eqb-true _ _ (number_of n b)

digit_bounds : (d : ℕ) → is_ascii_digit d ≡ true → (48 ≤ d) × (d ≤ 57)
digit_bounds d h =
    let q = both _ _ h in
    (leb-true 48 d q.0, leb-true d 57 q.1)

-- a digit is spelled by itself
one_digit : (k : ℕ) → k < 10 → same ((48 + k) ∷ []) (decimal k) ≡ true
unfolding all_below digits
one_digit k lt = below (λ n. same ((48 + n) ∷ []) (decimal n)) 10 k refl lt

tens : (k : ℕ) → k < 10 → same (49 ∷ (48 + k) ∷ []) (decimal (10 + k)) ≡ true
unfolding all_below digits
tens k lt = below (λ n. same (49 ∷ (48 + n) ∷ []) (decimal (10 + n))) 10 k refl lt

twenties : (k : ℕ) → k < 10 → same (50 ∷ (48 + k) ∷ []) (decimal (20 + k)) ≡ true
unfolding all_below digits
twenties k lt = below (λ n. same (50 ∷ (48 + n) ∷ []) (decimal (20 + n))) 10 k refl lt

thirties : (k : ℕ) → k < 2 → same (51 ∷ (48 + k) ∷ []) (decimal (30 + k)) ≡ true
unfolding all_below digits
thirties k lt = below (λ n. same (51 ∷ (48 + n) ∷ []) (decimal (30 + n))) 2 k refl lt

pub same_is : (t s : List ℕ) → same t s ≡ true → t ≡ s
same_is t s h = same_text t s (sym h)

pub record IsTop (t : List ℕ) : Type 0 where
  pub small : top_number t < 32
  pub spelled : t ≡ decimal (top_number t)

two_digits : (first d e k base : ℕ) → first ≡ d → e ≡ 48 + k → 10 * (d - 48) + (e - 48) ≡ base + k → base + k < 32 → same (first ∷ (48 + k) ∷ []) (decimal (base + k)) ≡ true → IsTop (d ∷ e ∷ [])
two_digits first d e k base fe ee be lt h = record {
  small = omega arith;
  spelled = ap₂ (λ x y. x ∷ y ∷ []) (sym fe) ee ∙ same_is _ _ h ∙ ap decimal (sym be);
}

top_right : (t : List ℕ) → is_top t ≡ true → IsTop t
top_right [] h = cc
top_right (d ∷ []) h =
    let b = digit_bounds d h in
    let low = b.0 in let high = b.1 in
    let small : d - 48 < 10 = omega arith in
    let back : d ≡ 48 + (d - 48) = omega arith in
    record { small = omega arith; spelled = ap (λ x. x ∷ []) back ∙ same_is _ _ (one_digit (d - 48) small) }
top_right (d ∷ e ∷ []) h =
    let q = both (is_ascii_digit e) _ h in
    let b = digit_bounds e q.0 in
    let low = b.0 in let high = b.1 in
    let back : e ≡ 48 + (e - 48) = omega arith in
    let digit : e - 48 < 10 = omega arith in
    ⊎_elim
    (λ w. ⊎_elim
    (λ v. let is : d ≡ 49 = eqb-true d 49 v in two_digits 49 d e (e - 48) 10 (sym is) back (omega arith) (omega arith) (tens (e - 48) digit))
    (λ v. let is : d ≡ 50 = eqb-true d 50 v in two_digits 50 d e (e - 48) 20 (sym is) back (omega arith) (omega arith) (twenties (e - 48) digit))
    (or_cases (d == 49) (d == 50) w))
    (λ w.
    let r = both (d == 51) (nat_le e 49) w in
    let is : d ≡ 51 = eqb-true d 51 r.0 in
    let least : e ≤ 49 = leb-true e 49 r.1 in
    let last : e - 48 < 2 = omega arith in
    two_digits 51 d e (e - 48) 30 (sym is) back (omega arith) (omega arith) (thirties (e - 48) last))
    (or_cases (d == 49 || d == 50) _ q.1)
top_right (d ∷ e ∷ f ∷ rest) h = cc

pub top_is : (t : List ℕ) → is_top t ≡ true → t ≡ decimal (top_number t)
top_is t h = (top_right t h).spelled

pub top_small : (t : List ℕ) → is_top t ≡ true → top_number t < 32
top_small t h = (top_right t h).small

-- the number of a wire is its greatest bit
pub wire_is : (n : ℕ) → decimal (n + 1 - 1) ≡ decimal n
wire_is n = ap decimal (omega arith)

-- a digit, and then digits
is_number : List ℕ → Bool
is_number [] = false
is_number (d ∷ more) = not (is_letter d) && is_ascii_digit d && list_all is_ascii_digit more

pub record IsNumber (t : List ℕ) : Type 0 where
  pub first : ℕ
  pub more : List ℕ
  pub whole : t ≡ first ∷ more
  pub other : is_letter first ≡ false
  pub digit : is_ascii_digit first ≡ true
  pub digits : list_all is_ascii_digit more ≡ true

number_parts : (t : List ℕ) → is_number t ≡ true → IsNumber t
unfolding is_number
number_parts [] h = cc
number_parts (d ∷ more) h =
    let a = both _ _ h in
    let b = both _ _ a.0 in
    record { first = d; more = more; whole = refl; other = not-true _ b.0; digit = b.1; digits = a.1 }

-- a number below 32 is spelled by digits
pub decimal_parts : (n : ℕ) → n < 32 → IsNumber (decimal n)
unfolding all_below is_number digits
decimal_parts n lt = number_parts (decimal n) (below (λ n. is_number (decimal n)) 32 n refl lt)
