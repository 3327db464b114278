-- A slot, and all slots.
use Rattle.std.proofs.Common.{◌≡◌, ℕ, zero, suc, ◌+◌, ◌*◌, ◌<◌, ◌≤◌, Bool, true, List, [], length, map, get_or, Option, Some, None, sym, ap, subst, ◌∙◌, arith, length-append, ⊎_elim}
use Rattle.std.specs.List.{range_with_len}
use Rattle.std.specs.Prelude.{slice_index_or}
use Rattle.std.proofs.lemmas.List.FromFn.{fill_by_all, get_or-map-range_with_len}
use Rattle.std.proofs.lemmas.Bool.{cases_lt}
use Rattle.std.proofs.lemmas.Nat.{row_fits}
use Rattle.cg_word.specs.declared.op.Op.{Op}
use Rattle.cg_word.specs.Word.{arity}
use Rattle.cg_model.specs.declared.config.UnitFields.{UnitFields}
use Rattle.cg_model.specs.Array.{Arch, resource, unit}
use Rattle.cg_model.specs.Config.{Config, select, fields, off}
use Rattle.cg_bits.specs.Numbers.{bits_of, number_at}
use Rattle.cg_flat.specs.Slots.{total, select_bits, select_at}
use Rattle.cg_bits.specs.Parts.{joined, Holds}
use Rattle.cg_bits.specs.Ranges.{IsFormat}
use Rattle.cg_bits.specs.declared.format.Format.{Format}
use Rattle.cg_bits.specs.Format.{code_of, ports, unit_len, unit_at, slot_len}
use Rattle.cg_bits.specs.Spelling.{unit_bits, slot_bits, slots}
use Rattle.cg_bits.specs.Reading.{unit_in, select_place, unit_place, config_in}
use Rattle.cg_model.specs.Canonical.{arity_of, offered, IsCanonical}
use Rattle.cg_word.specs.Sets.{among}
use Rattle.cg_bits.proofs.Room.{HasRoom}
use Rattle.cg_bits.proofs.Numbers.{length-bits_of}
use Rattle.cg_bits.proofs.Parts.{Holds-left, Holds-right, Holds-both, Holds-part, Holds-joined, length-joined}
use Rattle.cg_bits.proofs.Fields.{Holds-number, Holds-read, Holds-at, total-constant}
use Rattle.cg_flat.proofs.Widths.{width_holds}
use Rattle.cg_bits.proofs.Units.{length-unit_bits, unit_reads, unit_stands}

-- a part ends within the whole
pub total_within : (f : ℕ → ℕ) (n i : ℕ) → i < n → total f i + f i ≤ total f n
unfolding total
total_within f zero i lt = absurd (omega arith)
total_within f (suc n) i lt =
    ⊎_elim (λ l. let h = total_within f n i l in omega arith) (λ l. let e : n ≡ i = omega arith in subst (λ j. total f j + f j ≤ total f n + f n) e (omega arith)) (cases_lt i n)

pub offered_arity : (ops : List Op) (o : Option Op) (n : ℕ) → ((op : Op) → among ops op ≡ true → arity op ≤ n) → offered ops o ≡ true → arity_of o ≤ n
offered_arity ops None n h e = omega arith
offered_arity ops (Some op) n h e = h op e

module _ (F : Format) (is : IsFormat F) (A : Arch) where
  abbrev selects_of : Config → ℕ → ℕ → List Bool
  selects_of C slot r = bits_of (select_bits A r) (select C r slot)

  abbrev units_of : Config → ℕ → ℕ → List Bool
  units_of C slot x = unit_bits F (ports A x) (fields C x slot)

  length-selects : (C : Config) (slot n : ℕ) → length (joined (selects_of C slot) n) ≡ select_at A n
  length-selects C slot n = length-joined (selects_of C slot) (select_bits A) n (λ r lt. length-bits_of (select_bits A r) (select C r slot))

  length-units : (C : Config) (slot n : ℕ) → length (joined (units_of C slot) n) ≡ total (unit_len F A) n
  length-units C slot n = length-joined (units_of C slot) (unit_len F A) n (λ x lt. length-unit_bits F (ports A x) (fields C x slot))

  pub length-slot_bits : (C : Config) (slot : ℕ) → length (slot_bits F A C slot) ≡ slot_len F A
  unfolding slot_bits
  length-slot_bits C slot =
      omega (arith, length-append (joined (selects_of C slot) (length A.resources)) (joined (units_of C slot) (length A.units)), length-selects C slot (length A.resources), length-units C slot (length A.units))

  pub length-slots : (C : Config) (n : ℕ) → length (joined (slot_bits F A C) n) ≡ n * slot_len F A
  length-slots C n = length-joined (slot_bits F A C) (λ s. slot_len F A) n (λ s lt. length-slot_bits C s) ∙ total-constant (slot_len F A) n

  -- ---- what stands in the bits of a slot

  module _ (C : Config) (bits : List Bool) (at : ℕ) (slot : ℕ) where
    pub select_stands_in : (r : ℕ) → r < length A.resources → Holds bits at (slot_bits F A C slot) → Holds bits (at + select_at A r) (selects_of C slot r)
    unfolding slot_bits
    select_stands_in r lt h =
        Holds-part bits at (selects_of C slot) (select_bits A) (length A.resources) r (λ i l. length-bits_of (select_bits A i) (select C i slot)) lt
        (Holds-left bits at (joined (selects_of C slot) (length A.resources)) (joined (units_of C slot) (length A.units)) h)

    pub unit_stands_in : (x : ℕ) → x < length A.units → Holds bits at (slot_bits F A C slot) → Holds bits (at + unit_at F A x) (units_of C slot x)
    unfolding slot_bits
    unit_stands_in x lt h =
        Holds-at bits (at + select_at A (length A.resources) + total (unit_len F A) x) (at + unit_at F A x) (units_of C slot x) (omega arith)
        (Holds-part bits (at + select_at A (length A.resources)) (units_of C slot) (unit_len F A) (length A.units) x (λ i l. length-unit_bits F (ports A i) (fields C i slot)) lt
        (Holds-right bits at (joined (selects_of C slot) (length A.resources)) (joined (units_of C slot) (length A.units)) (select_at A (length A.resources)) (length-selects C slot (length A.resources)) h))

    pub slot_of_parts : ((r : ℕ) → r < length A.resources → Holds bits (at + select_at A r) (selects_of C slot r)) →
        ((x : ℕ) → x < length A.units → Holds bits (at + unit_at F A x) (units_of C slot x)) → Holds bits at (slot_bits F A C slot)
    unfolding slot_bits
    slot_of_parts selects units =
        Holds-both bits at (joined (selects_of C slot) (length A.resources)) (joined (units_of C slot) (length A.units)) (select_at A (length A.resources)) (length-selects C slot (length A.resources))
        (Holds-joined bits at (selects_of C slot) (select_bits A) (length A.resources) (λ i l. length-bits_of (select_bits A i) (select C i slot)) selects)
        (Holds-joined bits (at + select_at A (length A.resources)) (units_of C slot) (unit_len F A) (length A.units) (λ i l. length-unit_bits F (ports A i) (fields C i slot))
        (λ x lt. Holds-at bits (at + unit_at F A x) (at + select_at A (length A.resources) + total (unit_len F A) x) (units_of C slot x) (omega arith) (units x lt)))

  -- ---- all slots

  slot_stands : (C : Config) (bits : List Bool) (slot : ℕ) → slot < C.ii → Holds bits 0 (slots F A C) → Holds bits (slot * slot_len F A) (slot_bits F A C slot)
  slot_stands C bits slot lt h =
      Holds-at bits (0 + total (λ s. slot_len F A) slot) (slot * slot_len F A) (slot_bits F A C slot) (omega (arith, total-constant (slot_len F A) slot))
      (Holds-part bits 0 (slot_bits F A C) (λ s. slot_len F A) C.ii slot (λ s l. length-slot_bits C s) lt h)

  pub select_stands : (C : Config) (bits : List Bool) (r slot : ℕ) → r < length A.resources → slot < C.ii → Holds bits 0 (slots F A C) → Holds bits (select_place F A r slot) (selects_of C slot r)
  select_stands C bits r slot lt in_time h = select_stands_in C bits (slot * slot_len F A) slot r lt (slot_stands C bits slot in_time h)

  pub unit_stands_at : (C : Config) (bits : List Bool) (x slot : ℕ) → x < length A.units → slot < C.ii → Holds bits 0 (slots F A C) → Holds bits (unit_place F A x slot) (units_of C slot x)
  unit_stands_at C bits x slot lt in_time h = unit_stands_in C bits (slot * slot_len F A) slot x lt (slot_stands C bits slot in_time h)

  -- ---- reading

  pub select_read : (bits : List Bool) (ii stages r slot : ℕ) → r < length A.resources → slot < ii → select (config_in F A bits ii stages) r slot ≡ number_at bits (select_place F A r slot) (select_bits A r)
  unfolding config_in
  select_read bits ii stages r slot lt in_time =
      ap (λ row. get_or row r 0) (get_or-map-range_with_len (λ s. map (λ q. number_at bits (select_place F A q s) (select_bits A q)) (range_with_len 0 (length A.resources))) 0 ii slot slot [] in_time (omega arith))
      ∙ get_or-map-range_with_len (λ q. number_at bits (select_place F A q slot) (select_bits A q)) 0 (length A.resources) r r 0 lt (omega arith)

  pub fields_read : (bits : List Bool) (ii stages x slot : ℕ) → x < length A.units → slot < ii → fields (config_in F A bits ii stages) x slot ≡ unit_in F (ports A x) bits (unit_place F A x slot)
  unfolding config_in
  fields_read bits ii stages x slot lt in_time =
      ap (λ row. get_or row x off) (get_or-map-range_with_len (λ s. map (λ y. unit_in F (ports A y) bits (unit_place F A y s)) (range_with_len 0 (length A.units))) 0 ii slot slot [] in_time (omega arith))
      ∙ get_or-map-range_with_len (λ y. unit_in F (ports A y) bits (unit_place F A y slot)) 0 (length A.units) x x off lt (omega arith)

  -- the slots of a canonical configuration are read
  module _ (room : HasRoom A) where
    pub slots_read : (C : Config) (bits : List Bool) → IsCanonical A C → ((x slot : ℕ) → x < length A.units → slot < C.ii → code_of (fields C x slot).op ≤ F.greatest) → Holds bits 0 (slots F A C) → config_in F A bits C.ii C.stages ≡ C
    unfolding config_in
    slots_read C bits is_canonical known h =
        let one_select : (r slot : ℕ) → r < length A.resources → slot < C.ii → select C r slot ≡ number_at bits (select_place F A r slot) (select_bits A r) =
        λ r slot lt in_time. let at_most = is_canonical.selects r slot lt in_time in
        sym (Holds-number bits (select_place F A r slot) (select_bits A r) (select C r slot) (omega (arith, width_holds (length (resource A r).drivers))) (select_stands C bits r slot lt in_time h)) in
        let one_unit : (x slot : ℕ) → x < length A.units → slot < C.ii → fields C x slot ≡ unit_in F (ports A x) bits (unit_place F A x slot) =
        λ x slot lt in_time.
        sym (unit_reads F is (ports A x) (room.few x lt) bits (unit_place F A x slot) (unit A x).ops (fields C x slot) (is_canonical.fielded x slot lt in_time) (known x slot lt in_time) (offered_arity (unit A x).ops (fields C x slot).op (ports A x) (λ op e. room.arities x op lt e) (is_canonical.fielded x slot lt in_time).offer) (unit_stands_at C bits x slot lt in_time h)) in
        let selects = fill_by_all (λ slot. map (λ r. number_at bits (select_place F A r slot) (select_bits A r)) (range_with_len 0 (length A.resources))) C.selects C.ii [] is_canonical.slots.0
        (λ slot in_time. fill_by_all (λ r. number_at bits (select_place F A r slot) (select_bits A r)) (slice_index_or C.selects slot []) (length A.resources) 0 (is_canonical.rows slot in_time).0 (λ r lt. one_select r slot lt in_time)) in
        let units = fill_by_all (λ slot. map (λ x. unit_in F (ports A x) bits (unit_place F A x slot)) (range_with_len 0 (length A.units))) C.units C.ii [] is_canonical.slots.1
        (λ slot in_time. fill_by_all (λ x. unit_in F (ports A x) bits (unit_place F A x slot)) (slice_index_or C.units slot []) (length A.units) off (is_canonical.rows slot in_time).1 (λ x lt. one_unit x slot lt in_time)) in
        ap (λ (z : List (List ℕ)). let c : Config = record { ii = C.ii; stages = C.stages; selects = z; units = (config_in F A bits C.ii C.stages).units } in c) (sym selects)
        ∙ ap (λ (z : List (List UnitFields)). let c : Config = record { ii = C.ii; stages = C.stages; selects = C.selects; units = z } in c) (sym units)

    -- what is read as a configuration stands in the bits, if each operation code is known
    pub slots_stand : (bits : List Bool) (ii stages : ℕ) → ii * slot_len F A ≤ length bits →
        ((x slot : ℕ) → x < length A.units → slot < ii → number_at bits (unit_place F A x slot) F.op_bits ≤ F.greatest) → Holds bits 0 (slots F A (config_in F A bits ii stages))
    unfolding config_in
    slots_stand bits ii stages long coded =
        let C = config_in F A bits ii stages in
        let slot_room : (slot : ℕ) → slot < ii → slot * slot_len F A + slot_len F A ≤ ii * slot_len F A = λ slot lt. row_fits slot (slot_len F A) ii (slot_len F A) lt (omega arith) in
        let select_holds : (r slot : ℕ) → r < length A.resources → slot < ii → Holds bits (slot * slot_len F A + select_at A r) (selects_of C slot r) =
        λ r slot lt in_time. let within = total_within (select_bits A) (length A.resources) r lt in let inside = slot_room slot in_time in
        subst (λ z. Holds bits (select_place F A r slot) (bits_of (select_bits A r) z)) (sym (select_read bits ii stages r slot lt in_time))
        (Holds-read bits (select_place F A r slot) (select_bits A r) (omega arith)) in
        let unit_holds : (x slot : ℕ) → x < length A.units → slot < ii → Holds bits (slot * slot_len F A + unit_at F A x) (units_of C slot x) =
        λ x slot lt in_time. let within = total_within (unit_len F A) (length A.units) x lt in let inside = slot_room slot in_time in
        subst (λ z. Holds bits (unit_place F A x slot) (unit_bits F (ports A x) z)) (sym (fields_read bits ii stages x slot lt in_time))
        (unit_stands F is (ports A x) (room.few x lt) bits (unit_place F A x slot) (coded x slot lt in_time) (omega arith)) in
        Holds-joined bits 0 (slot_bits F A C) (λ s. slot_len F A) ii (λ s l. length-slot_bits C s)
        (λ slot in_time. Holds-at bits (slot * slot_len F A) (0 + total (λ s. slot_len F A) slot) (slot_bits F A C slot) (omega (arith, total-constant (slot_len F A) slot))
        (slot_of_parts C bits (slot * slot_len F A) slot (λ r lt. select_holds r slot lt in_time) (λ x lt. unit_holds x slot lt in_time)))
