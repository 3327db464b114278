-- The bits at fault rise, since each field ends before the next one begins.
use Rattle.std.proofs.Common.{◌≡◌, ℕ, zero, suc, ◌+◌, ◌-◌, ◌*◌, ◌<◌, ◌≤◌, not, Bool, true, false, List, [], ◌∷◌, ◌++◌, length, get_or, ap, ◌∙◌, arith, ⊎_elim}
use Rattle.std.specs.Prelude.{slice_index_or, eqb, nat_le}
use Rattle.std.proofs.lemmas.Bool.{cases_lt, le-leb}
use Rattle.std.proofs.lemmas.Nat.{row_fits}
use Rattle.cg_model.specs.declared.config.UnitFields.{UnitFields}
use Rattle.cg_model.specs.Array.{Arch, resource, unit}
use Rattle.cg_model.specs.Config.{Config, select, fields}
use Rattle.cg_model.specs.Canonical.{stage_right, port_right, immediate_right, mode_right, count_right, word_right, last_stage}
use Rattle.cg_arch.specs.Kept.{digest_of}
use Rattle.cg_flat.specs.Slots.{total, select_bits}
use Rattle.cg_bits.specs.declared.format.Format.{Format}
use Rattle.cg_bits.specs.Numbers.{number_at, number_after}
use Rattle.cg_bits.specs.Parts.{joined}
use Rattle.cg_bits.specs.Format.{cgb2, ports, arg_len, args_at, unit_len, slot_len}
use Rattle.cg_bits.specs.Reading.{select_place, unit_place, body_bits, ii_in, stages_in, config_in}
use Rattle.cg_bits.specs.Ranges.{IsFormat}
use Rattle.cg_bits.specs.Faults as Faults
use Rattle.cg_bits.specs.Faults.{unless, arg_breaches, unit_breaches}
use Rattle.cg_bits.specs.Rising.{Rises, PlacesRise}
use Rattle.cg_bits.proofs.Slots.{select_read}
use Rattle.cg_bits.proofs.Answered.{is_cgb2}

-- ---- numbers that rise from one on and stay below another

-- they are at least low, below high, and rise
abbrev Between : ℕ → ℕ → List ℕ → Type 0
Between low high [] = low ≤ high
Between low high (x ∷ xs) = (low ≤ x) × Between (suc x) high xs

wider : (low from to high : ℕ) (xs : List ℕ) → low ≤ from → to ≤ high → Between from to xs → Between low high xs
wider low from to high [] l h b = omega arith
wider low from to high (x ∷ xs) l h b = let first = b.0 in (omega arith, wider (suc x) (suc x) to high xs (omega arith) h b.1)

both : (low mid high : ℕ) (xs ys : List ℕ) → Between low mid xs → Between mid high ys → Between low high (xs ++ ys)
both low mid high [] ys b c = wider low mid high high ys b (omega arith) c
both low mid high (x ∷ xs) ys b c = (b.0, both (suc x) mid high xs ys b.1 c)

one : (low high : ℕ) (right : Bool) (x : ℕ) → low ≤ x → x < high → Between low high (unless right x)
one low high true x l h = omega arith
one low high false x l h = (l, omega arith)

no_one : (low high : ℕ) (right : Bool) (x : ℕ) → right ≡ true → low ≤ high → Between low high (unless right x)
no_one low high true x e h = h
no_one low high false x e h = absurd cc

-- parts that each end before the next one begins
parts : (at : ℕ → ℕ) (f : ℕ → List ℕ) (n : ℕ) → ((i : ℕ) → i < n → Between (at i) (at (suc i)) (f i)) → Between (at 0) (at n) (joined f n)
unfolding joined
parts at f zero h = omega arith
parts at f (suc n) h = both (at 0) (at n) (at (suc n)) (joined f n) (f n) (parts at f n (λ i lt. h i (omega arith))) (h n (omega arith))

parts_in : (low high : ℕ) (at : ℕ → ℕ) (f : ℕ → List ℕ) (n : ℕ) → low ≤ at 0 → at n ≤ high → ((i : ℕ) → i < n → Between (at i) (at (suc i)) (f i)) → Between low high (joined f n)
parts_in low high at f n l h each = wider low (at 0) (at n) high (joined f n) l h (parts at f n each)

at_least : (low high : ℕ) (xs : List ℕ) (i : ℕ) → Between low high xs → i < length xs → low ≤ get_or xs i 0
at_least low high [] i b lt = absurd (omega arith)
at_least low high (x ∷ xs) zero b lt = b.0
at_least low high (x ∷ xs) (suc i) b lt = let first = b.0 in let rest = at_least (suc x) high xs i b.1 (omega arith) in omega arith

rises : (low high : ℕ) (xs : List ℕ) → Between low high xs → Rises xs
rises low high [] b i j l m = absurd (omega arith)
rises low high (x ∷ xs) b i zero l m = absurd (omega arith)
rises low high (x ∷ xs) b zero (suc j) l m = let rest = at_least (suc x) high xs j b.1 (omega arith) in omega arith
rises low high (x ∷ xs) b (suc i) (suc j) l m = rises (suc x) high xs b.1 i j (omega arith) (omega arith)

-- ---- the fields of a unit

arg_between : (f : UnitFields) (p at : ℕ) → Between at (at + 132) (arg_breaches f p at)
arg_between f p at =
    both at (at + 1) (at + 132) (unless (mode_right f p) at) _ (one at (at + 1) (mode_right f p) at (omega arith) (omega arith))
    (both (at + 1) (at + 2) (at + 132) (unless (count_right f p) (at + 1)) _ (one (at + 1) (at + 2) (count_right f p) (at + 1) (omega arith) (omega arith))
    (parts_in (at + 2) (at + 132) (λ k. at + 4 + k * 32) (λ k. unless (word_right f p k) (at + 4 + k * 32)) 4 (omega arith) (omega arith)
    (λ k lt. one (at + 4 + k * 32) (at + 4 + suc k * 32) (word_right f p k) (at + 4 + k * 32) (omega arith) (omega arith))))

unit_between : (F : Format) (n : ℕ) (f : UnitFields) (at : ℕ) → Between at (at + (args_at F + n * arg_len)) (unit_breaches F n f at)
unit_between F n f at =
    let start = at + F.op_bits in
    let end = at + (args_at F + n * arg_len) in
    both at (start + 1) end (unless (stage_right f) start) _ (one at (start + 1) (stage_right f) start (omega arith) (omega arith))
    (both (start + 1) (start + 17) end (unless (port_right f) (start + 16)) _ (one (start + 1) (start + 17) (port_right f) (start + 16) (omega arith) (omega arith))
    (both (start + 17) (start + 21) end (unless (immediate_right f) (start + 20)) _ (one (start + 17) (start + 21) (immediate_right f) (start + 20) (omega arith) (omega arith))
    (parts_in (start + 21) end (λ p. at + args_at F + p * arg_len) (λ p. arg_breaches f p (at + args_at F + p * arg_len)) n (omega arith) (omega arith)
    (λ p lt. wider _ _ _ _ (arg_breaches f p (at + args_at F + p * arg_len)) (omega arith) (omega arith) (arg_between f p (at + args_at F + p * arg_len))))))

-- ---- all slots

module _ (F : Format) (is : IsFormat F) (A : Arch) (digest bytes : List ℕ) where
  abbrev C : Config
  C = Faults.read F A digest bytes

  abbrev L : ℕ
  L = slot_len F A

  abbrev slots_end : ℕ
  slots_end = 320 + C.ii * L

  -- what is said of each slot, where it stands within the slot
  slots_between : (f : ℕ → List ℕ) → ((slot : ℕ) → slot < C.ii → Between (320 + slot * L) (320 + slot * L + L) (f slot)) → Between 320 slots_end (joined f C.ii)
  slots_between f each =
      parts_in 320 slots_end (λ slot. 320 + slot * L) f C.ii (omega arith) (omega arith)
      (λ slot lt. let row : slot * L + L ≤ suc slot * L = row_fits slot L (suc slot) L (omega arith) (omega arith) in
      wider (320 + slot * L) (320 + slot * L) (320 + slot * L + L) (320 + suc slot * L) (f slot) (omega arith) (omega arith) (each slot lt))

  units_between : (says : ℕ → ℕ → List ℕ) → ((x slot : ℕ) → Between (320 + unit_place F A x slot) (320 + unit_place F A x slot + unit_len F A x) (says x slot)) →
      Between 320 slots_end (Faults.each_unit F A digest bytes says)
  unfolding total
  units_between says each =
      slots_between (λ slot. joined (λ x. says x slot) (length A.units)) (λ slot lt.
      parts_in (320 + slot * L) (320 + slot * L + L) (λ x. 320 + unit_place F A x slot) (λ x. says x slot) (length A.units) (omega arith) (omega arith)
      (λ x l. wider _ _ _ _ (says x slot) (omega arith) (omega arith) (each x slot)))

  -- the first bit of a unit, or another of its first 52
  in_unit : (right : Bool) (x slot place : ℕ) → 320 + unit_place F A x slot ≤ place → place < 320 + unit_place F A x slot + args_at F →
      Between (320 + unit_place F A x slot) (320 + unit_place F A x slot + unit_len F A x) (unless right place)
  in_unit right x slot place l h = one _ _ right place l (omega arith)

  -- no number of no bits is above the drivers
  select_between : (r slot : ℕ) → r < length A.resources → slot < C.ii →
      Between (320 + select_place F A r slot) (320 + select_place F A r slot + select_bits A r) (unless (nat_le (select C r slot) (length (resource A r).drivers)) (320 + select_place F A r slot))
  unfolding number_after config_in
  select_between r slot lt in_time =
      ⊎_elim (λ some. one _ _ (nat_le (select C r slot) (length (resource A r).drivers)) (320 + select_place F A r slot) (omega arith) (omega arith))
      (λ few. let none : select_bits A r ≡ 0 = omega arith in
      let zero_is : select C r slot ≡ 0 = select_read F is A (body_bits bytes) (ii_in bytes) (stages_in bytes) r slot lt in_time ∙ ap (λ w. number_at (body_bits bytes) (select_place F A r slot) w) none in
      no_one _ _ (nat_le (select C r slot) (length (resource A r).drivers)) (320 + select_place F A r slot) (le-leb _ _ (omega arith)) (omega arith))
      (cases_lt 0 (select_bits A r))

  selects_between : Between 320 slots_end (Faults.bad_selects F A digest bytes)
  unfolding total
  selects_between =
      slots_between (λ slot. joined (λ r. unless (nat_le (select C r slot) (length (resource A r).drivers)) (320 + select_place F A r slot)) (length A.resources)) (λ slot lt.
      parts_in (320 + slot * L) (320 + slot * L + L) (λ r. 320 + select_place F A r slot) _ (length A.resources) (omega arith) (omega arith)
      (λ r l. wider _ _ _ _ _ (omega arith) (omega arith) (select_between r slot l lt)))

  breaches_between : Between 0 slots_end (Faults.breaches F A digest bytes)
  breaches_between =
      both 0 49 slots_end _ _ (one 0 49 (eqb C.stages (1 + last_stage A C)) 48 (omega arith) (omega arith))
      (wider 49 320 slots_end slots_end _ (omega arith) (omega arith)
      (units_between _ (λ x slot. unit_between F (ports A x) (fields C x slot) (320 + unit_place F A x slot))))

  padding_between : Between (320 + C.ii * L) (320 + C.ii * L + ((Faults.size F A digest bytes - 40) * 8 - C.ii * L)) (Faults.set_padding F A digest bytes)
  padding_between =
      parts_in _ _ (λ i. 320 + (C.ii * L + i)) _ ((Faults.size F A digest bytes - 40) * 8 - C.ii * L) (omega arith) (omega arith)
      (λ i lt. one (320 + (C.ii * L + i)) (320 + (C.ii * L + suc i)) (not (slice_index_or (body_bits bytes) (C.ii * L + i) false)) (320 + (C.ii * L + i)) (omega arith) (omega arith))

-- in each list of bits at fault they rise
pub places_rise : (A : Arch) (bytes : List ℕ) → PlacesRise A bytes
places_rise A bytes =
    let d = digest_of A in
    record {
      selects = rises _ _ _ (selects_between cgb2 is_cgb2 A d bytes);
      codes = rises _ _ _ (units_between cgb2 is_cgb2 A d bytes _ (λ x slot. in_unit cgb2 is_cgb2 A d bytes _ x slot (320 + unit_place cgb2 A x slot) (omega arith) (omega arith)));
      offers = rises _ _ _ (units_between cgb2 is_cgb2 A d bytes _ (λ x slot. in_unit cgb2 is_cgb2 A d bytes _ x slot (320 + unit_place cgb2 A x slot) (omega arith) (omega arith)));
      fields = rises _ _ _ (breaches_between cgb2 is_cgb2 A d bytes);
      padding = rises _ _ _ (padding_between cgb2 is_cgb2 A d bytes);
      ports = rises _ _ _ (units_between cgb2 is_cgb2 A d bytes _ (λ x slot. in_unit cgb2 is_cgb2 A d bytes _ x slot (320 + unit_place cgb2 A x slot + 6 + 16) (omega arith) (omega arith)));
    }
