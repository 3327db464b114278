-- One spelling of each configuration, and one configuration of each spelling.
use Rattle.std.proofs.Common.{◌≡◌, ℕ, suc, ◌+◌, ◌*◌, ◌<◌, ◌≤◌, Bool, true, false, cond, List, [], ◌∷◌, ◌++◌, length, take, drop, get_or, replicate, refl, sym, ap, subst, ◌∙◌, arith, length-append}
use Rattle.std.proofs.lemmas.List.{take_at, drop_at, get_or-drop, length-replicate}
use Rattle.std.proofs.lemmas.List.Concat.{flat_map-cons}
use Rattle.std.proofs.lemmas.Nat.{from_be_bytes-to_be_bytes_2}
use Rattle.cg_model.specs.declared.config.UnitFields.{UnitFields}
use Rattle.cg_model.specs.Array.{Arch, unit}
use Rattle.cg_model.specs.Config.{Config, fields}
use Rattle.cg_bits.specs.Numbers.{bits_of, number, bits_of_bytes}
use Rattle.cg_bits.specs.Ranges.{IsFormat, IsBytes}
use Rattle.cg_bits.proofs.Room.{HasRoom}
use Rattle.cg_bits.specs.declared.format.Format.{Format}
use Rattle.cg_bits.specs.Spelling.{slots, header, Spells}
use Rattle.cg_bits.specs.Reading.{config_in, config_at, ii_in, stages_in}
use Rattle.cg_model.specs.Canonical.{IsCanonical, stage_of, greatest_of, last_stage, is_on}
use Rattle.cg_bits.proofs.Numbers.{length-bits_of, number-bits}
use Rattle.cg_config.proofs.Canonical.{stage_fits}
use Rattle.cg_bits.proofs.Slots.{slots_read}
use Rattle.cg_model.proofs.Canonical.{greatest_below}

pub length-bits_of_bytes : (bytes : List ℕ) → length (bits_of_bytes bytes) ≡ 8 * length bytes
length-bits_of_bytes [] = refl
length-bits_of_bytes (b ∷ bytes) =
    omega (arith, ap length (flat_map-cons (bits_of 8) b bytes), length-append (bits_of 8 b) (bits_of_bytes bytes), length-bits_of 8 b, length-bits_of_bytes bytes)

-- bytes with the same bits are the same
pub bytes_same : (xs ys : List ℕ) → IsBytes xs → IsBytes ys → bits_of_bytes xs ≡ bits_of_bytes ys → xs ≡ ys
bytes_same [] [] a b e = refl
bytes_same [] (y ∷ ys) a b e = absurd (omega (arith, ap length e, length-bits_of_bytes [], length-bits_of_bytes (y ∷ ys)))
bytes_same (x ∷ xs) [] a b e = absurd (omega (arith, ap length e, length-bits_of_bytes [], length-bits_of_bytes (x ∷ xs)))
bytes_same (x ∷ xs) (y ∷ ys) a b e =
    let opened : bits_of 8 x ++ bits_of_bytes xs ≡ bits_of 8 y ++ bits_of_bytes ys = sym (flat_map-cons (bits_of 8) x xs) ∙ e ∙ flat_map-cons (bits_of 8) y ys in
    let heads : bits_of 8 x ≡ bits_of 8 y = sym (take_at (bits_of 8 x) (bits_of_bytes xs) 8 (length-bits_of 8 x)) ∙ ap (take 8) opened ∙ take_at (bits_of 8 y) (bits_of_bytes ys) 8 (length-bits_of 8 y) in
    let tails : bits_of_bytes xs ≡ bits_of_bytes ys = sym (drop_at (bits_of 8 x) (bits_of_bytes xs) 8 (length-bits_of 8 x)) ∙ ap (drop 8) opened ∙ drop_at (bits_of 8 y) (bits_of_bytes ys) 8 (length-bits_of 8 y) in
    let one : x ≡ y = sym (number-bits 8 x (a 0)) ∙ ap number heads ∙ number-bits 8 y (b 0) in
    ap (λ z. z ∷ xs) one ∙ ap (λ zs. y ∷ zs) (bytes_same xs ys (λ i. a (suc i)) (λ i. b (suc i)) tails)

stage_below : (f : UnitFields) (b : ℕ) (o : Bool) → f.stage ≤ b → cond o f.stage 0 ≤ b
stage_below f b true h = h
stage_below f b false h = omega arith

module _ (F : Format) (is : IsFormat F) (A : Arch) (room : HasRoom A) (digest : List ℕ) (sized : length digest ≡ 32) where
  pub last_stage_fits : (C : Config) → IsCanonical A C → last_stage A C ≤ 65534
  last_stage_fits C is_canonical =
      greatest_below (λ slot. greatest_of (λ x. stage_of (fields C x slot)) (length A.units)) C.ii 65534
      (λ slot in_time. greatest_below (λ x. stage_of (fields C x slot)) (length A.units) 65534
      (λ x lt. stage_below (fields C x slot) 65534 (is_on (fields C x slot).op) (stage_fits (unit A x).ops (fields C x slot) (is_canonical.fielded x slot lt in_time))))

  pub body_is : (C : Config) (bytes : List ℕ) (s : Spells F A digest C bytes) → drop 40 bytes ≡ s.body
  body_is C bytes s = ap (drop 40) s.whole ∙ drop_at digest s.body 32 sized

  body_fits : (C : Config) (bytes : List ℕ) (s : Spells F A digest C bytes) → IsBytes bytes → IsBytes s.body
  body_fits C bytes s fits i = subst (λ z. z < 256) (sym (get_or-drop 40 bytes i 0) ∙ ap (λ xs. get_or xs i 0) (body_is C bytes s)) (fits (40 + i))

  -- a configuration has one spelling
  pub one_spelling : (C : Config) (a b : List ℕ) → IsBytes a → IsBytes b → Spells F A digest C a → Spells F A digest C b → a ≡ b
  one_spelling C a b a-fits b-fits s t =
      let la : 8 * length s.body ≡ length (slots F A C) + s.padding = sym (length-bits_of_bytes s.body) ∙ ap length s.bits ∙ length-append (slots F A C) (replicate s.padding false) ∙ ap (λ z. length (slots F A C) + z) (length-replicate s.padding false) in
      let lb : 8 * length t.body ≡ length (slots F A C) + t.padding = sym (length-bits_of_bytes t.body) ∙ ap length t.bits ∙ length-append (slots F A C) (replicate t.padding false) ∙ ap (λ z. length (slots F A C) + z) (length-replicate t.padding false) in
      let sh = s.short in let th = t.short in
      let pads : s.padding ≡ t.padding = omega arith in
      let same : bits_of_bytes s.body ≡ bits_of_bytes t.body = s.bits ∙ ap (λ z. slots F A C ++ replicate z false) pads ∙ sym t.bits in
      s.whole ∙ ap (λ z. header F digest C ++ z) (bytes_same s.body t.body (body_fits C a s a-fits) (body_fits C b t b-fits) same) ∙ sym t.whole

  -- reading the spelling gives the configuration
  pub reads_back : (C : Config) (bytes : List ℕ) → IsCanonical A C → Spells F A digest C bytes → config_at F A bytes ≡ C
  reads_back C bytes is_canonical s =
      let narrow = room.contexts in
      let at_most = is_canonical.contexts in
      let stages = is_canonical.stages in
      let last = last_stage_fits C is_canonical in
      let ii-is : ii_in bytes ≡ C.ii = ap (ii_in) s.whole ∙ from_be_bytes-to_be_bytes_2 C.ii (omega arith) in
      let stages-is : stages_in bytes ≡ C.stages = ap (stages_in) s.whole ∙ from_be_bytes-to_be_bytes_2 C.stages (omega arith) in
      ap (λ z. config_in F A (bits_of_bytes z) (ii_in bytes) (stages_in bytes)) (body_is C bytes s)
      ∙ ap (λ z. config_in F A (bits_of_bytes s.body) z (stages_in bytes)) ii-is
      ∙ ap (λ z. config_in F A (bits_of_bytes s.body) C.ii z) stages-is
      ∙ slots_read F is A room C (bits_of_bytes s.body) is_canonical s.known (replicate s.padding false, s.bits)

  -- bytes spell at most one configuration
  pub one_config : (C D : Config) (bytes : List ℕ) → IsCanonical A C → IsCanonical A D → Spells F A digest C bytes → Spells F A digest D bytes → C ≡ D
  one_config C D bytes c d s t = sym (reads_back C bytes c s) ∙ reads_back D bytes d t
