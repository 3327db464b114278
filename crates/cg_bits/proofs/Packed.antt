-- Each canonical configuration has bytes that spell it.
use Rattle.std.proofs.Common.{◌≡◌, ℕ, zero, suc, ◌-◌, ◌<◌, ◌≤◌, Bool, false, List, [], ◌∷◌, ◌++◌, length, take, drop, replicate, refl, sym, ap, ◌∙◌, append_assoc, arith, length-append, length-take, length-drop, ⊎_elim}
use Rattle.std.proofs.lemmas.Bool.{cases_lt}
use Rattle.std.proofs.lemmas.List.{append-nil, take-append-drop, length-replicate, nil_from_length}
use Rattle.std.proofs.lemmas.List.Concat.{flat_map-cons}
use Rattle.cg_model.specs.Array.{Arch}
use Rattle.cg_model.specs.Config.{Config, fields}
use Rattle.cg_model.specs.Canonical.{IsCanonical}
use Rattle.cg_arch.specs.Kept.{digest_of}
use Rattle.cg_bits.specs.Numbers.{bits_of, number, bits_of_bytes}
use Rattle.cg_bits.specs.Format.{cgb2}
use Rattle.cg_bits.specs.Spelling.{AreBits, slots, header}
use Rattle.cg_bits.proofs.Numbers.{bits_of-number}
use Rattle.cg_bits.proofs.Codes.{code_known}

-- bytes that begin with these bits and end with fewer than eight zero bits
pub record ArePacked (bits : List Bool) : Type 0 where
  pub body : List ℕ
  pub padding : ℕ
  pub short : padding < 8
  pub are : bits_of_bytes body ≡ bits ++ replicate padding false

byte_bits : (xs : List Bool) → length xs ≡ 8 → bits_of 8 (number xs) ≡ xs
byte_bits xs eight = ap (λ k. bits_of k (number xs)) (sym eight) ∙ bits_of-number xs

nothing_packed : (bits : List Bool) → length bits ≡ 0 → ArePacked bits
nothing_packed bits none = record { body = []; padding = 0; short = omega arith; are = sym (append-nil bits ∙ nil_from_length bits none) }

last_packed : (bits : List Bool) → length bits < 8 → 0 < length bits → ArePacked bits
last_packed bits few some =
    let padding = 8 - length bits in
    let whole = bits ++ replicate padding false in
    let eight : length whole ≡ 8 = omega (arith, length-append bits (replicate padding false), length-replicate padding false) in
    record { body = number whole ∷ []; padding = padding; short = omega arith; are = flat_map-cons (bits_of 8) (number whole) [] ∙ append-nil (bits_of 8 (number whole)) ∙ byte_bits whole eight }

more_packed : (bits : List Bool) → 8 ≤ length bits → ArePacked (drop 8 bits) → ArePacked bits
more_packed bits many rest =
    let first = take 8 bits in
    let eight : length first ≡ 8 = omega (arith, length-take 8 bits) in
    let zeros = replicate rest.padding false in
    record {
      body = number first ∷ rest.body;
      padding = rest.padding;
      short = rest.short;
      are = flat_map-cons (bits_of 8) (number first) rest.body ∙ ap (λ z. z ++ bits_of_bytes rest.body) (byte_bits first eight) ∙ ap (λ z. first ++ z) rest.are
          ∙ sym (append_assoc first (drop 8 bits) zeros) ∙ ap (λ z. z ++ zeros) (take-append-drop 8 bits);
    }

packed : (k : ℕ) (bits : List Bool) → length bits ≤ k → ArePacked bits
packed zero bits le = nothing_packed bits (omega arith)
packed (suc k) bits le =
    ⊎_elim
    (λ few. ⊎_elim (λ some. last_packed bits few some) (λ none. nothing_packed bits (omega arith)) (cases_lt 0 (length bits)))
    (λ many. more_packed bits many (packed k (drop 8 bits) (omega (arith, length-drop 8 bits))))
    (cases_lt (length bits) 8)

pub some_bits : (A : Arch) (C : Config) → IsCanonical A C → (bytes : List ℕ) × AreBits A C bytes
some_bits A C canonical =
    let p = packed (length (slots cgb2 A C)) (slots cgb2 A C) (omega arith) in (
      header cgb2 (digest_of A) C ++ p.body,
      record {
        canonical = canonical;
        spelled = record { body = p.body; padding = p.padding; short = p.short; bits = p.are; whole = refl; known = λ x slot l m. code_known (fields C x slot).op };
      },
    )
