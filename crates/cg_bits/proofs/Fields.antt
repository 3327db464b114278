-- A field that stands in the bits is read, and what is read stands there.
use Rattle.std.proofs.Common.{◌≡◌, ℕ, zero, suc, ◌+◌, ◌*◌, ◌^◌, ◌<◌, ◌≤◌, Bool, true, false, eqb, List, ◌++◌, length, take, drop, refl, sym, ap, subst, ◌∙◌, arith, length-append, length-take, length-drop}
use Rattle.std.specs.Prelude.{slice_index}
use Rattle.std.proofs.lemmas.List.{take_at, take-append-drop}
use Rattle.std.proofs.lemmas.List.FromFn.{fill_by_all, get_or-map-range_with_len}
use Rattle.cg_model.specs.declared.config.ArgFields.{ArgFields}
use Rattle.cg_bits.specs.Numbers.{digit, bits_of, number, number_at}
use Rattle.cg_bits.specs.Parts.{joined, Holds}
use Rattle.cg_flat.specs.Slots.{total}
use Rattle.cg_bits.specs.Format.{arg_len}
use Rattle.cg_bits.specs.Spelling.{arg_bits}
use Rattle.cg_bits.specs.Reading.{arg_in}
use Rattle.cg_bits.proofs.Numbers.{length-bits_of, number-bits, number_below, bits_of-number, digit_is}
use Rattle.cg_bits.proofs.Parts.{Holds-left, Holds-right, Holds-both, Holds-part, Holds-joined, length-joined}

-- ---- numbers

pub Holds-number : (bits : List Bool) (at w n : ℕ) → n < 2 ^ w → Holds bits at (bits_of w n) → number_at bits at w ≡ n
Holds-number bits at w n lt h =
    ap (λ z. number (take w z)) h.1 ∙ ap number (take_at (bits_of w n) h.0 w (length-bits_of w n)) ∙ number-bits w n lt

length-part : (bits : List Bool) (at w : ℕ) → at + w ≤ length bits → length (take w (drop at bits)) ≡ w
length-part bits at w le = omega (arith, length-take w (drop at bits), length-drop at bits)

pub Holds-read : (bits : List Bool) (at w : ℕ) → at + w ≤ length bits → Holds bits at (bits_of w (number_at bits at w))
Holds-read bits at w le =
    let part = take w (drop at bits) in
    let long : length part ≡ w = length-part bits at w le in
    let same : bits_of w (number part) ≡ part = subst (λ k. bits_of k (number part) ≡ part) long (bits_of-number part) in
    (drop w (drop at bits), sym (take-append-drop w (drop at bits)) ∙ ap (λ z. z ++ drop w (drop at bits)) (sym same))

pub number_at_below : (bits : List Bool) (at w : ℕ) → at + w ≤ length bits → number_at bits at w < 2 ^ w
number_at_below bits at w le = subst (λ k. number (take w (drop at bits)) < 2 ^ k) (length-part bits at w le) (number_below (take w (drop at bits)))

pub Holds-at : (bits : List Bool) (p q : ℕ) (part : List Bool) → p ≡ q → Holds bits p part → Holds bits q part
Holds-at bits p q part e h = subst (λ z. Holds bits z part) e h

pub total-constant : (l n : ℕ) → total (λ i. l) n ≡ n * l
unfolding total
total-constant l zero = omega arith
total-constant l (suc n) = omega (arith, total-constant l n)

-- ---- arguments

digit_one : (b : Bool) → eqb (digit b) 1 ≡ b
digit_one true = refl
digit_one false = refl

digit_below : (b : Bool) → digit b < 2 ^ 1
digit_below true = omega arith
digit_below false = omega arith

abbrev word_bits : ArgFields → ℕ → List Bool
word_bits a k = bits_of 32 (slice_index a.init k)

length-words : (a : ArgFields) (n : ℕ) → length (joined (word_bits a) n) ≡ n * 32
length-words a n = length-joined (word_bits a) (λ k. 32) n (λ k lt. length-bits_of 32 (slice_index a.init k)) ∙ total-constant 32 n

pub length-arg_bits : (a : ArgFields) → length (arg_bits a) ≡ arg_len
length-arg_bits a =
    let mode = length-bits_of 1 (digit a.fixed) in
    let count = length-bits_of 3 a.count in
    omega (arith, length-words a 4, length-append (bits_of 1 (digit a.fixed)) (bits_of 3 a.count ++ joined (word_bits a) 4), length-append (bits_of 3 a.count) (joined (word_bits a) 4))

pub arg_same : (a b : ArgFields) → a.fixed ≡ b.fixed → a.count ≡ b.count → a.init ≡ b.init → a ≡ b
arg_same a b p q r =
    ap (λ (z : Bool). let x : ArgFields = record { fixed = z; count = a.count; init = a.init } in x) p
    ∙ ap (λ (z : ℕ). let x : ArgFields = record { fixed = b.fixed; count = z; init = a.init } in x) q
    ∙ ap (λ (z : List ℕ). let x : ArgFields = record { fixed = b.fixed; count = b.count; init = z } in x) r

-- an argument that stands in the bits is read
pub arg_reads : (bits : List Bool) (at : ℕ) (a : ArgFields) → a.count < 2 ^ 3 → length a.init ≡ 4 → ((k : ℕ) → k < 4 → slice_index a.init k < 2 ^ 32) → Holds bits at (arg_bits a) → arg_in bits at ≡ a
unfolding arg_in
arg_reads bits at a small four below h =
    let mode = bits_of 1 (digit a.fixed) in
    let count = bits_of 3 a.count in
    let words = joined (word_bits a) 4 in
    let h1 = Holds-left bits at mode (count ++ words) h in
    let r1 = Holds-right bits at mode (count ++ words) 1 (length-bits_of 1 (digit a.fixed)) h in
    let h2 = Holds-left bits (at + 1) count words r1 in
    let r2 = Holds-right bits (at + 1) count words 3 (length-bits_of 3 a.count) r1 in
    let word : (k : ℕ) → k < 4 → number_at bits (at + 4 + k * 32) 32 ≡ slice_index a.init k =
    λ k lt. Holds-number bits (at + 4 + k * 32) 32 (slice_index a.init k) (below k lt)
    (Holds-at bits (at + 1 + 3 + total (λ z. 32) k) (at + 4 + k * 32) (word_bits a k) (omega (arith, total-constant 32 k))
    (Holds-part bits (at + 1 + 3) (word_bits a) (λ z. 32) 4 k (λ i l. length-bits_of 32 (slice_index a.init i)) lt r2)) in
    arg_same _ a (ap (λ z. eqb z 1) (Holds-number bits at 1 (digit a.fixed) (digit_below a.fixed) h1) ∙ digit_one a.fixed)
    (Holds-number bits (at + 1) 3 a.count small h2)
    (sym (fill_by_all (λ k. number_at bits (at + 4 + k * 32) 32) a.init 4 0 four (λ k lt. sym (word k lt))))

-- what is read as an argument stands in the bits
pub arg_stands : (bits : List Bool) (at : ℕ) → at + arg_len ≤ length bits → Holds bits at (arg_bits (arg_in bits at))
unfolding arg_in
arg_stands bits at le =
    let a = arg_in bits at in
    let mode : Holds bits at (bits_of 1 (digit a.fixed)) =
    subst (λ z. Holds bits at (bits_of 1 z)) (sym (digit_is (number_at bits at 1) (number_at_below bits at 1 (omega arith)))) (Holds-read bits at 1 (omega arith)) in
    let count : Holds bits (at + 1) (bits_of 3 a.count) = Holds-read bits (at + 1) 3 (omega arith) in
    let word : (k : ℕ) → k < 4 → Holds bits (at + 1 + 3 + total (λ z. 32) k) (word_bits a k) =
    λ k lt. Holds-at bits (at + 4 + k * 32) (at + 1 + 3 + total (λ z. 32) k) (word_bits a k) (omega (arith, total-constant 32 k))
    (subst (λ z. Holds bits (at + 4 + k * 32) (bits_of 32 z)) (sym (get_or-map-range_with_len (λ j. number_at bits (at + 4 + j * 32) 32) 0 4 k k 0 lt (omega arith)))
    (Holds-read bits (at + 4 + k * 32) 32 (omega arith))) in
    let words = Holds-joined bits (at + 1 + 3) (word_bits a) (λ z. 32) 4 (λ i l. length-bits_of 32 (slice_index a.init i)) word in
    Holds-both bits at (bits_of 1 (digit a.fixed)) (bits_of 3 a.count ++ joined (word_bits a) 4) 1 (length-bits_of 1 (digit a.fixed)) mode
    (Holds-both bits (at + 1) (bits_of 3 a.count) (joined (word_bits a) 4) 3 (length-bits_of 3 a.count) count words)
