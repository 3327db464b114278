-- Bits that are shifted in and out of a number.
use Rattle.std.proofs.Common.{◌≡◌, ℕ, zero, suc, ◌+◌, ◌-◌, ◌*◌, ◌/◌, ◌%◌, ◌^◌, ◌<◌, ◌≤◌, Bool, false, List, [], ◌∷◌, ◌++◌, length, take, drop, get_or, replicate, refl, sym, ap, subst, ◌∙◌, append_assoc, arith, length-take, length-drop}
use Rattle.std.specs.Int.{w64, from_be_bytes}
use Rattle.std.specs.Int.Bits.{bit_or}
use Rattle.std.proofs.lemmas.List.{append-nil, take_at, drop_at, take_all, take-append-drop, drop-drop, take-take, drop-take, take_more}
use Rattle.std.proofs.lemmas.List.Concat.{flat_map-append, flat_map-cons}
use Rattle.std.proofs.lemmas.Nat.{or_shifted, shr_split, shr_below, shl_below, shr_high, mod_low, pow_pos, pow-add, mod_below, shl_whole, mul-add-lt}
use Rattle.std.proofs.Math.Nat.{mul_comm}
use Rattle.std.proofs.Math.Pow.{pow_mono}
use Rattle.cg_bits.specs.Numbers.{bits_of, number, number_after, number_at, bits_of_bytes}
use Rattle.cg_bits.proofs.Numbers.{bits_of-split, number_after-append, number_after-bits, number_after-is, number_below}
use Rattle.cg_bits.proofs.Fields.{number_at_below}
use Rattle.cg_bits.proofs.Bytes.{length-bits_of_bytes}

-- the upper bits of a number, and then the lower ones
pub bits_of-cut : (a b n : ℕ) → bits_of (a + b) n ≡ bits_of a (n / 2 ^ b) ++ bits_of b (n % 2 ^ b)
bits_of-cut a b n = ap (bits_of (a + b)) (sym (shr_split n b)) ∙ bits_of-split a b (n / 2 ^ b) (n % 2 ^ b) (mod_below n (2 ^ b) (pow_pos b))

pub number-append : (xs ys : List Bool) → number (xs ++ ys) ≡ number xs * 2 ^ length ys + number ys
number-append xs ys = number_after-append 0 xs ys ∙ number_after-is (number xs) ys

pub bits-push : (bytes : List ℕ) (b : ℕ) → bits_of_bytes (bytes ++ b ∷ []) ≡ bits_of_bytes bytes ++ bits_of 8 b
bits-push bytes b =
    flat_map-append (bits_of 8) bytes (b ∷ []) ∙ ap (λ z. bits_of_bytes bytes ++ z) (flat_map-cons (bits_of 8) b [] ∙ append-nil (bits_of 8 b))

pub number-push : (bytes : List ℕ) (b : ℕ) → b < 256 → number (bits_of_bytes (bytes ++ b ∷ [])) ≡ number (bits_of_bytes bytes) * 256 + b
number-push bytes b lt =
    ap number (bits-push bytes b) ∙ number_after-append 0 (bits_of_bytes bytes) (bits_of 8 b) ∙ number_after-bits (number (bits_of_bytes bytes)) 8 b lt

pub number-bytes_below : (bytes : List ℕ) (k : ℕ) → 8 * length bytes ≤ k → number (bits_of_bytes bytes) < 2 ^ k
number-bytes_below bytes k le =
    let one : number (bits_of_bytes bytes) < 2 ^ length (bits_of_bytes bytes) = number_below (bits_of_bytes bytes) in
    let within : length (bits_of_bytes bytes) ≤ k = omega (arith, length-bits_of_bytes bytes) in
    let two : 2 ^ length (bits_of_bytes bytes) ≤ 2 ^ k = pow_mono within in
    omega arith

-- ---- a field out of bytes

pub byte_step : (items : List ℕ) (k n b : ℕ) → k < length items → length items ≤ 5 → b ≡ get_or items k 0 → b < 256 → n ≡ number (bits_of_bytes (take k items)) →
    bit_or (n * 256 % 2 ^ 64) b ≡ number (bits_of_bytes (take (k + 1) items))
byte_step items k n b lt few is small so_far =
    let below : number (bits_of_bytes (take k items)) < 2 ^ 32 = number-bytes_below (take k items) 32 (omega (arith, length-take k items)) in
    let whole : n * 256 % 2 ^ 64 ≡ n * 256 = omega arith in
    ap (λ z. bit_or z b) whole ∙ or_shifted n 8 b small ∙ ap (λ z. z * 256 + b) so_far ∙ sym (number-push (take k items) b small)
    ∙ ap (λ z. number (bits_of_bytes z)) (ap (λ z. take k items ++ z ∷ []) is ∙ sym (take_more items k 0 lt))

bits-parts : (k : ℕ) (bytes : List ℕ) → bits_of_bytes bytes ≡ bits_of_bytes (take k bytes) ++ bits_of_bytes (drop k bytes)
bits-parts k bytes = ap bits_of_bytes (sym (take-append-drop k bytes)) ∙ flat_map-append (bits_of 8) (take k bytes) (drop k bytes)

pub bits-take : (k : ℕ) (bytes : List ℕ) → k ≤ length bytes → bits_of_bytes (take k bytes) ≡ take (8 * k) (bits_of_bytes bytes)
bits-take k bytes le =
    sym (ap (take (8 * k)) (bits-parts k bytes) ∙ take_at (bits_of_bytes (take k bytes)) (bits_of_bytes (drop k bytes)) (8 * k) (omega (arith, length-bits_of_bytes (take k bytes), length-take k bytes)))

pub bits-drop : (k : ℕ) (bytes : List ℕ) → k ≤ length bytes → bits_of_bytes (drop k bytes) ≡ drop (8 * k) (bits_of_bytes bytes)
bits-drop k bytes le =
    sym (ap (drop (8 * k)) (bits-parts k bytes) ∙ drop_at (bits_of_bytes (take k bytes)) (bits_of_bytes (drop k bytes)) (8 * k) (omega (arith, length-bits_of_bytes (take k bytes), length-take k bytes)))

take_plus : {X : Type 0} (a b : ℕ) (xs : List X) → take (a + b) xs ≡ take a xs ++ take b (drop a xs)
take_plus a b xs =
    sym (take-append-drop a (take (a + b) xs)) ∙ ap (λ z. z ++ drop a (take (a + b) xs)) (take-take a (a + b) xs (omega arith)) ∙ ap (λ z. take a xs ++ z) (drop-take a b xs)

-- the bits before the field, the field, and those behind it
middle : (xs : List Bool) (a w c : ℕ) → a + w + c ≤ length xs → number (take (a + w + c) xs) / 2 ^ c % 2 ^ w ≡ number (take w (drop a xs))
middle xs a w c le =
    let front = take a xs in
    let field = take w (drop a xs) in
    let behind = take c (drop (a + w) xs) in
    let field_long : length field ≡ w = omega (arith, length-take w (drop a xs), length-drop a xs) in
    let behind_long : length behind ≡ c = omega (arith, length-take c (drop (a + w) xs), length-drop (a + w) xs) in
    let field_below : number field < 2 ^ w = subst (λ k. number field < 2 ^ k) field_long (number_below field) in
    let behind_below : number behind < 2 ^ c = subst (λ k. number behind < 2 ^ k) behind_long (number_below behind) in
    let parts : take (a + w + c) xs ≡ (front ++ field) ++ behind = take_plus (a + w) c xs ∙ ap (λ z. z ++ behind) (take_plus a w xs) in
    let value : number (take (a + w + c) xs) ≡ number (front ++ field) * 2 ^ c + number behind =
    ap number parts ∙ number-append (front ++ field) behind ∙ ap (λ k. number (front ++ field) * 2 ^ k + number behind) behind_long in
    let upper : number (front ++ field) ≡ number front * 2 ^ w + number field = number-append front field ∙ ap (λ k. number front * 2 ^ k + number field) field_long in
    ap (λ z. z / 2 ^ c % 2 ^ w) value ∙ ap (λ z. z % 2 ^ w) (shr_high (number (front ++ field)) c (number behind) behind_below) ∙ ap (λ z. z % 2 ^ w) upper ∙ mod_low (number front) w (number field) field_below

-- a field in a number of bytes that reach past its end
pub field_is : (bytes : List ℕ) (place w n last : ℕ) → place + w ≤ 8 * last → last ≤ length bytes → n ≡ number (bits_of_bytes (take (last - place / 8) (drop (place / 8) bytes))) →
    n / 2 ^ (last * 8 - (place + w)) % 2 ^ w ≡ number_at (bits_of_bytes bytes) place w
field_is bytes place w n last reaches inside so_far =
    let first = place / 8 in
    let c = last * 8 - (place + w) in
    let xs = bits_of_bytes (drop first bytes) in
    let read : bits_of_bytes (take (last - first) (drop first bytes)) ≡ take (8 * (last - first)) xs = bits-take (last - first) (drop first bytes) (omega (arith, length-drop first bytes)) in
    let wide : 8 * (last - first) ≡ place % 8 + w + c = omega arith in
    let long : place % 8 + w + c ≤ length xs = omega (arith, length-bits_of_bytes (drop first bytes), length-drop first bytes) in
    let there : drop (place % 8) xs ≡ drop place (bits_of_bytes bytes) =
    ap (drop (place % 8)) (bits-drop first bytes (omega arith)) ∙ drop-drop (place % 8) (8 * first) (bits_of_bytes bytes) ∙ ap (λ k. drop k (bits_of_bytes bytes)) (omega arith) in
    ap (λ z. z / 2 ^ c % 2 ^ w) (so_far ∙ ap number (read ∙ ap (λ k. take k xs) wide)) ∙ middle xs (place % 8) w c long ∙ ap (λ z. number (take w z)) there

-- the number of the first bytes, and of one more
byte_more : (xs : List ℕ) (k : ℕ) → k < length xs → get_or xs k 0 < 256 → number (bits_of_bytes (take (k + 1) xs)) ≡ number (bits_of_bytes (take k xs)) * 256 + get_or xs k 0
byte_more xs k lt small = ap (λ z. number (bits_of_bytes z)) (take_more xs k 0 lt) ∙ number-push (take k xs) (get_or xs k 0) small

no_bytes : number (bits_of_bytes []) ≡ 0
unfolding number_after
no_bytes = refl

-- eight bytes as one word
pub eight_are : (xs : List ℕ) → length xs ≡ 8 → ((i : ℕ) → get_or xs i 0 < 256) →
    from_be_bytes w64 (get_or xs 0 0 ∷ get_or xs 1 0 ∷ get_or xs 2 0 ∷ get_or xs 3 0 ∷ get_or xs 4 0 ∷ get_or xs 5 0 ∷ get_or xs 6 0 ∷ get_or xs 7 0 ∷ []) ≡ number (bits_of_bytes xs)
eight_are xs eight small =
    let none : number (bits_of_bytes (take 0 xs)) ≡ 0 = no_bytes in
    let more : (k : ℕ) → k < 8 → number (bits_of_bytes (take (k + 1) xs)) ≡ number (bits_of_bytes (take k xs)) * 256 + get_or xs k 0 = λ k lt. byte_more xs k (omega arith) (small k) in
    let first = more 0 (omega arith) in
    let second = more 1 (omega arith) in
    let third = more 2 (omega arith) in
    let fourth = more 3 (omega arith) in
    let fifth = more 4 (omega arith) in
    let sixth = more 5 (omega arith) in
    let seventh = more 6 (omega arith) in
    let eighth = more 7 (omega arith) in
    let all : number (bits_of_bytes (take 8 xs)) ≡ number (bits_of_bytes xs) = ap (λ z. number (bits_of_bytes z)) (take_all 8 xs (omega arith)) in
    omega arith

-- ---- two fields, one behind the other

-- the m bits at a place, and the n bits behind them
both : (bits : List Bool) (place m n : ℕ) → place + (m + n) ≤ length bits → number_at bits place (m + n) ≡ number_at bits place m * 2 ^ n + number_at bits (place + m) n
both bits place m n inside =
    let behind = take n (drop m (drop place bits)) in
    let long : length behind ≡ n = omega (arith, length-take n (drop m (drop place bits)), length-drop m (drop place bits), length-drop place bits) in
    ap number (take_plus m n (drop place bits)) ∙ number-append (take m (drop place bits)) behind ∙ ap (λ k. number (take m (drop place bits)) * 2 ^ k + number behind) long
    ∙ ap (λ z. number_at bits place m * 2 ^ n + number (take n z)) (drop-drop m place bits ∙ ap (λ k. drop k bits) (omega arith))

pub upper_part : (bits : List Bool) (place m n : ℕ) → place + (m + n) ≤ length bits → number_at bits place (m + n) / 2 ^ n ≡ number_at bits place m
upper_part bits place m n inside =
    ap (λ z. z / 2 ^ n) (both bits place m n inside) ∙ shr_high (number_at bits place m) n (number_at bits (place + m) n) (number_at_below bits (place + m) n (omega arith))

pub lower_part : (bits : List Bool) (place m n : ℕ) → place + (m + n) ≤ length bits → number_at bits place (m + n) % 2 ^ n ≡ number_at bits (place + m) n
lower_part bits place m n inside =
    ap (λ z. z % 2 ^ n) (both bits place m n inside) ∙ mod_low (number_at bits place m) n (number_at bits (place + m) n) (number_at_below bits (place + m) n (omega arith))

-- ---- bits into bytes

pub put_is : (count pending width n : ℕ) → count < 8 → pending < 2 ^ count → width ≤ 32 → n < 2 ^ width → bit_or (pending * 2 ^ width % 2 ^ 64) n ≡ pending * 2 ^ width + n
put_is count pending width n few fits narrow lt =
    ap (λ z. bit_or z n) (shl_whole pending count width 64 fits (omega arith)) ∙ or_shifted pending width n lt

pub put_below : (count pending width n : ℕ) → pending < 2 ^ count → n < 2 ^ width → pending * 2 ^ width + n < 2 ^ (count + width)
put_below count pending width n fits lt =
    let one : pending * 2 ^ width + n < 2 ^ width * 2 ^ count = mul-add-lt pending (2 ^ width) n (2 ^ count) fits lt in
    let two : 2 ^ (count + width) ≡ 2 ^ count * 2 ^ width = pow-add 2 count width in
    let three : 2 ^ width * 2 ^ count ≡ 2 ^ count * 2 ^ width = mul_comm (2 ^ width) (2 ^ count) in
    omega arith

pub byte_below : (count pending : ℕ) → 8 ≤ count → pending < 2 ^ count → pending / 2 ^ (count - 8) < 256
byte_below count pending le lt =
    let k : count ≡ 8 + (count - 8) = omega arith in
    shr_below pending 8 (count - 8) (subst (λ z. pending < 2 ^ z) k lt)

pub put_step : (bytes : List ℕ) (count pending : ℕ) → 8 ≤ count → bits_of_bytes (bytes ++ (pending / 2 ^ (count - 8)) ∷ []) ++ bits_of (count - 8) (pending % 2 ^ (count - 8)) ≡ bits_of_bytes bytes ++ bits_of count pending
put_step bytes count pending le =
    let k : 8 + (count - 8) ≡ count = omega arith in
    let upper = bits_of 8 (pending / 2 ^ (count - 8)) in
    let lower = bits_of (count - 8) (pending % 2 ^ (count - 8)) in
    ap (λ z. z ++ lower) (bits-push bytes (pending / 2 ^ (count - 8))) ∙ append_assoc (bits_of_bytes bytes) upper lower
    ∙ ap (λ z. bits_of_bytes bytes ++ z) (sym (bits_of-cut 8 (count - 8) pending) ∙ ap (λ z. bits_of z pending) k)

zero_bits : (k : ℕ) → bits_of k 0 ≡ replicate k false
unfolding bits_of
zero_bits zero = refl
zero_bits (suc k) = ap (λ z. z ++ false ∷ []) (zero_bits k) ∙ replicate-end k
  where
    replicate-end : (k : ℕ) → replicate k false ++ false ∷ [] ≡ replicate (suc k) false
    replicate-end zero = refl
    replicate-end (suc k) = ap (λ z. false ∷ z) (replicate-end k)

-- the last byte, filled up
pub last_byte : (bytes : List ℕ) (count pending : ℕ) → count < 8 → pending < 2 ^ count →
    bits_of_bytes (bytes ++ (pending * 2 ^ (8 - count)) ∷ []) ≡ (bits_of_bytes bytes ++ bits_of count pending) ++ replicate (8 - count) false
last_byte bytes count pending few fits =
    let k : count + (8 - count) ≡ 8 = omega arith in
    let e : pending * 2 ^ (8 - count) + 0 ≡ pending * 2 ^ (8 - count) = omega arith in
    bits-push bytes (pending * 2 ^ (8 - count))
    ∙ ap (λ z. bits_of_bytes bytes ++ z) (sym (ap (bits_of 8) e) ∙ ap (λ z. bits_of z (pending * 2 ^ (8 - count) + 0)) (sym k) ∙ bits_of-split count (8 - count) pending 0 (pow_pos (8 - count)) ∙ ap (λ z. bits_of count pending ++ z) (zero_bits (8 - count)))
    ∙ sym (append_assoc (bits_of_bytes bytes) (bits_of count pending) (replicate (8 - count) false))

pub last_below : (count pending : ℕ) → count < 8 → pending < 2 ^ count → (pending * 2 ^ (8 - count) % 2 ^ 64 < 256) × (pending * 2 ^ (8 - count) % 2 ^ 64 ≡ pending * 2 ^ (8 - count))
last_below count pending few fits =
    let same : pending * 2 ^ (8 - count) % 2 ^ 64 ≡ pending * 2 ^ (8 - count) = shl_whole pending count (8 - count) 64 fits (omega arith) in
    let k : count + (8 - count) ≡ 8 = omega arith in
    let below : pending * 2 ^ (8 - count) < 2 ^ 8 = subst (λ z. pending * 2 ^ (8 - count) < 2 ^ z) k (shl_below pending count (8 - count) fits) in
    (subst (λ z. z < 256) (sym same) below, same)

pub nothing_pending : (bytes : List ℕ) (count pending : ℕ) → count ≡ 0 → bits_of_bytes bytes ≡ (bits_of_bytes bytes ++ bits_of count pending) ++ []
unfolding bits_of
nothing_pending bytes count pending e =
    sym (append-nil (bits_of_bytes bytes ++ bits_of count pending) ∙ ap (λ z. bits_of_bytes bytes ++ bits_of z pending) e ∙ append-nil (bits_of_bytes bytes))
