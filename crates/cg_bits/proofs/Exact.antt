-- Bytes without a fault are those that spell a canonical configuration.
use Rattle.std.proofs.Common.{◌≡◌, ℕ, zero, suc, ◌+◌, ◌-◌, ◌*◌, ◌<◌, ◌≤◌, Bool, false, not, eqb, ltb, leb, cond, List, [], ◌++◌, length, map, take, drop, get_or, replicate, refl, sym, ap, subst, ◌∙◌, arith, length-append, length-drop, length-take, ⊎_elim}
use Rattle.std.specs.List.{range_with_len}
use Rattle.std.specs.Int.{w16, to_be_bytes, from_be_bytes}
use Rattle.std.specs.Prelude.{slice_index_or}
use Rattle.std.proofs.lemmas.Bool.{cases_lt, le-ltb, leb-true, le-leb, ltb-false, eqb-true, eq-eqb, eqb-false, or_parts, or_from, ne_eqb, not-true}
use Rattle.std.proofs.lemmas.List.{take_at, drop_at, take-append-drop, get_or-drop, get_or-take, get_or_past, take_all, drop-drop, length-replicate, get_or-replicate}
use Rattle.std.proofs.lemmas.List.FromFn.{get_or-map-range_with_len, length-map-range_with_len}
use Rattle.std.proofs.lemmas.Nat.{be_bytes_2, row_fits}
use Rattle.cg_model.specs.declared.config.UnitFields.{UnitFields}
use Rattle.cg_model.specs.Array.{Arch, resource, unit}
use Rattle.cg_model.specs.Config.{Config, select, fields}
use Rattle.cg_bits.specs.Numbers.{bits_of, number_at, bits_of_bytes}
use Rattle.cg_bits.specs.Parts.{joined}
use Rattle.cg_bits.specs.Ranges.{IsFormat, IsBytes}
use Rattle.cg_bits.proofs.Room.{HasRoom}
use Rattle.cg_bits.specs.declared.format.Format.{Format}
use Rattle.cg_bits.specs.Format.{code_of, ports, arg_len, args_at, unit_len, slot_len}
use Rattle.cg_flat.specs.Slots.{select_bits}
use Rattle.cg_bits.specs.Spelling.{unit_bits, slots, magic, header, Spells}
use Rattle.cg_bits.specs.Reading.{unit_in, config_in, config_at, select_place, unit_place}
use Rattle.cg_model.specs.Canonical.{AreFields, IsCanonical, last_stage, port_free, offered}
use Rattle.std.specs.Prelude.{bytes_eq, nat_eq}
use Rattle.std.specs.List.{starts_with}
use Rattle.cg_bits.specs.declared.fault.BitsFault.TheVariants.{Magic, Truncated, BadSelect, BadOp, NotOffered, NotCanonical, BadPadding, Trailing, RepeatedPort}
use Rattle.cg_bits.specs.Faults
use Rattle.cg_bits.proofs.Fields.{Holds-number}
use Rattle.cg_bits.proofs.Parts.{Holds-left}
use Rattle.cg_bits.proofs.Codes.{code_again}
use Rattle.cg_bits.proofs.Kept.{unit_keeps, kept_unit}
use Rattle.cg_bits.proofs.Slots.{total_within, length-slots, unit_stands_at, fields_read, slots_stand}
use Rattle.cg_bits.proofs.Bytes.{length-bits_of_bytes, reads_back, body_is}
use Rattle.cg_bits.proofs.None.{none_both, both_none, none_map, map_none, none_unless, unless_none, none_joined, joined_none, none_guard, guard_none, cond_none, same_is, is_same, all_false}

-- what stands in the list of faults, part by part
pub record HasNone (F : Format) (A : Arch) (digest : List ℕ) (bytes : List ℕ) : Type 0 where
  pub magic_right : Faults.wrong_magic F A digest bytes ≡ []
  pub long_enough : Faults.too_short F A digest bytes ≡ []
  pub digest_right : Faults.other_digest F A digest bytes ≡ []
  pub header_right : Faults.bad_header F A digest bytes ≡ []
  pub selects_right : Faults.bad_selects F A digest bytes ≡ []
  pub codes_right : Faults.bad_codes F A digest bytes ≡ []
  pub offers_right : Faults.not_offered F A digest bytes ≡ []
  pub rules_kept : Faults.breaches F A digest bytes ≡ []
  pub padding_right : Faults.set_padding F A digest bytes ≡ []
  pub nothing_behind : Faults.trailing F A digest bytes ≡ []
  pub ports_right : Faults.repeated_ports F A digest bytes ≡ []

pub parts_none : (F : Format) (A : Arch) (digest bytes : List ℕ) → Faults.faults F A digest bytes ≡ [] → HasNone F A digest bytes
parts_none F A digest bytes e =
    let a1 = none_both (Faults.wrong_magic F A digest bytes) _ e in
    let a2 = none_both (Faults.too_short F A digest bytes) _ a1.1 in
    let a3 = none_both (Faults.other_digest F A digest bytes) _ a2.1 in
    let a4 = none_both (Faults.bad_header F A digest bytes) _ a3.1 in
    let a5 = none_both (map BadSelect (Faults.bad_selects F A digest bytes)) _ a4.1 in
    let a6 = none_both (map BadOp (Faults.bad_codes F A digest bytes)) _ a5.1 in
    let a7 = none_both (map NotOffered (Faults.not_offered F A digest bytes)) _ a6.1 in
    let a8 = none_both (map NotCanonical (Faults.breaches F A digest bytes)) _ a7.1 in
    let a9 = none_both (map BadPadding (Faults.set_padding F A digest bytes)) _ a8.1 in
    let a10 = none_both (map Trailing (Faults.trailing F A digest bytes)) _ a9.1 in
    record {
      magic_right = a1.0;
      long_enough = a2.0;
      digest_right = a3.0;
      header_right = a4.0;
      selects_right = none_map BadSelect _ a5.0;
      codes_right = none_map BadOp _ a6.0;
      offers_right = none_map NotOffered _ a7.0;
      rules_kept = none_map NotCanonical _ a8.0;
      padding_right = none_map BadPadding _ a9.0;
      nothing_behind = none_map Trailing _ a10.0;
      ports_right = none_map RepeatedPort _ a10.1;
    }

past : (xs : List ℕ) (i : ℕ) → length xs ≤ i → get_or xs i 0 ≡ 0
past xs i le = get_or_past xs i 0 le

from_zero : (n : ℕ) → (n ≡ 0 → ⊥) → 0 < n
from_zero zero h = absurd (h refl)
from_zero (suc n) h = omega arith

module _ (F : Format) (is : IsFormat F) (A : Arch) (room : HasRoom A) (digest : List ℕ) (sized : length digest ≡ 32) (bytes : List ℕ) (none : HasNone F A digest bytes) where
  abbrev C : Config
  C = config_at F A bytes

  abbrev bits : List Bool
  bits = bits_of_bytes (drop 40 bytes)

  abbrev len : ℕ
  len = C.ii * slot_len F A

  long : 40 ≤ length bytes
  long = ltb-false _ _ (none_guard (ltb (length bytes) 40) (Truncated (length bytes)) _ none.long_enough).0

  -- as long as the interval says
  enough : Faults.size F A digest bytes ≤ length bytes
  enough =
      let second = (none_guard (ltb (length bytes) 40) (Truncated (length bytes)) _ none.long_enough).1 in
      let nothing : length (Faults.other_digest F A digest bytes ++ Faults.bad_header F A digest bytes) ≡ 0 = ap (λ z. length (z ++ Faults.bad_header F A digest bytes)) none.digest_right ∙ ap length none.header_right in
      let tested : Faults.unless (leb (Faults.size F A digest bytes) (length bytes)) (Truncated (length bytes)) ≡ [] =
      ap (λ b. cond b (Faults.unless (leb (Faults.size F A digest bytes) (length bytes)) (Truncated (length bytes))) []) (sym (eq-eqb _ 0 nothing)) ∙ second in
      leb-true _ _ (none_unless _ _ tested)

  whole_bytes : length bytes ≡ Faults.size F A digest bytes
  whole_bytes = let one = leb-true _ _ (none_unless _ _ none.nothing_behind) in let two = enough in omega arith

  bits_long : length bits ≡ (Faults.size F A digest bytes - 40) * 8
  bits_long = length-bits_of_bytes (drop 40 bytes) ∙ (let one = whole_bytes in omega (arith, length-drop 40 bytes))

  slots_fit : len ≤ length bits
  slots_fit = let one = bits_long in omega arith

  -- ---- the bytes

  magic_is : take 4 bytes ≡ magic F
  magic_is = let l = long in same_is _ _ (none_unless _ _ none.magic_right) ∙ take_all (length (take 4 bytes)) (magic F) (omega (arith, length-take 4 bytes))

  digest_is : take 32 (drop 8 bytes) ≡ digest
  digest_is = same_is _ _ (none_unless _ _ none.digest_right)

  field_back : IsBytes bytes → (at : ℕ) → at + 2 ≤ 40 → to_be_bytes w16 (from_be_bytes w16 (take 2 (drop at bytes))) ≡ take 2 (drop at bytes)
  field_back fits at le =
      let l = long in
      be_bytes_2 (take 2 (drop at bytes)) (from_be_bytes w16 (take 2 (drop at bytes))) (omega (arith, length-take 2 (drop at bytes), length-drop at bytes))
      (λ i. ⊎_elim (λ lt. subst (λ z. z < 256) (sym (get_or-take 2 (drop at bytes) i 0 lt ∙ get_or-drop at bytes i 0)) (fits (at + i)))
      (λ le. subst (λ z. z < 256) (sym (past (take 2 (drop at bytes)) i (omega (arith, length-take 2 (drop at bytes))))) (omega arith)) (cases_lt i 2)) refl

  split_at : (at n next : ℕ) → at + n ≡ next → drop at bytes ≡ take n (drop at bytes) ++ drop next bytes
  split_at at n next e = sym (take-append-drop n (drop at bytes)) ∙ ap (λ z. take n (drop at bytes) ++ z) (drop-drop n at bytes ∙ ap (λ k. drop k bytes) e)

  header_is : IsBytes bytes → bytes ≡ header F digest C ++ drop 40 bytes
  unfolding config_in
  header_is fits =
      split_at 0 4 4 refl ∙ ap (λ z. z ++ drop 4 bytes) magic_is
      ∙ ap (λ z. magic F ++ z) (split_at 4 2 6 refl ∙ ap (λ z. z ++ drop 6 bytes) (sym (field_back fits 4 (omega arith)))
      ∙ ap (λ z. to_be_bytes w16 C.ii ++ z) (split_at 6 2 8 refl ∙ ap (λ z. z ++ drop 8 bytes) (sym (field_back fits 6 (omega arith)))
      ∙ ap (λ z. to_be_bytes w16 C.stages ++ z) (split_at 8 32 40 refl ∙ ap (λ z. z ++ drop 40 bytes) digest_is)))

  -- ---- the header's rules

  header_parts : ((C.ii ≡ 0 → ⊥) × (C.ii ≤ A.contexts))
  header_parts =
      let off = or_parts _ _ (not-true _ (none_unless _ _ none.header_right)) in
      let rest = or_parts _ _ off.1 in
      (eqb-false _ _ off.0, ltb-false _ _ rest.0)

  -- ---- each place

  of_resource : (says : ℕ → ℕ → List ℕ) → Faults.each_resource F A digest bytes says ≡ [] → (r slot : ℕ) → r < length A.resources → slot < C.ii → says r slot ≡ []
  of_resource says e r slot lt in_time =
      none_joined (λ q. says q slot) (length A.resources) (none_joined (λ s. joined (λ q. says q s) (length A.resources)) C.ii e slot in_time) r lt

  of_unit : (says : ℕ → ℕ → List ℕ) → Faults.each_unit F A digest bytes says ≡ [] → (x slot : ℕ) → x < length A.units → slot < C.ii → says x slot ≡ []
  of_unit says e x slot lt in_time =
      none_joined (λ y. says y slot) (length A.units) (none_joined (λ s. joined (λ y. says y s) (length A.units)) C.ii e slot in_time) x lt

  coded : (x slot : ℕ) → x < length A.units → slot < C.ii → number_at bits (unit_place F A x slot) F.op_bits ≤ F.greatest
  coded x slot lt in_time =
      leb-true _ _ (none_unless _ _ (of_unit (λ y s. Faults.unless (leb (number_at bits (unit_place F A y s) F.op_bits) F.greatest) (Faults.at_unit F A digest bytes y s)) none.codes_right x slot lt in_time))

  -- ---- the spelling

  abbrev padding : List Bool
  padding = drop len bits

  padding_long : length padding ≡ (Faults.size F A digest bytes - 40) * 8 - len
  padding_long = omega (arith, length-drop len bits, bits_long)

  padding_zero : padding ≡ replicate (length padding) false
  padding_zero =
      all_false padding (length padding) refl (λ i lt.
      let below : i < (Faults.size F A digest bytes - 40) * 8 - len = omega (arith, padding_long) in
      get_or-drop len bits i false ∙ not-true _ (none_unless _ _ (none_joined (λ j. Faults.unless (not (slice_index_or bits (len + j) false)) (320 + (len + j))) ((Faults.size F A digest bytes - 40) * 8 - len) none.padding_right i below)))

  known_in : (x slot : ℕ) → number_at bits (unit_place F A x slot) F.op_bits ≤ F.greatest → code_of (unit_in F (ports A x) bits (unit_place F A x slot)).op ≤ F.greatest
  unfolding unit_in
  known_in x slot coded = subst (λ z. z ≤ F.greatest) (sym (code_again F (number_at bits (unit_place F A x slot) F.op_bits) coded is.known)) coded

  pub spelled : IsBytes bytes → Spells F A digest C bytes
  unfolding config_in
  spelled fits =
      let h = slots_stand F is A room bits C.ii C.stages slots_fit coded in
      let rest : padding ≡ h.0 = ap (drop len) h.1 ∙ drop_at (slots F A C) h.0 len (length-slots F is A C C.ii) in
      let size_is = padding_long in
      record {
        body = drop 40 bytes;
        padding = length padding;
        short = omega arith;
        bits = h.1 ∙ ap (λ z. slots F A C ++ z) (sym rest ∙ padding_zero);
        whole = header_is fits;
        known = λ x slot lt in_time.
            let c = coded x slot lt in_time in
            subst (λ (f : UnitFields). code_of f.op ≤ F.greatest) (sym (fields_read F is A bits C.ii C.stages x slot lt in_time))
            (known_in x slot c);
      }

  unit_rules : (x slot : ℕ) → x < length A.units → slot < C.ii → AreFields (unit A x).ops (fields C x slot)
  unfolding config_in
  unit_rules x slot lt in_time =
      let is_read = fields_read F is A bits C.ii C.stages x slot lt in_time in
      let within = total_within (unit_len F A) (length A.units) x lt in
      let inside : slot * slot_len F A + slot_len F A ≤ C.ii * slot_len F A = row_fits slot (slot_len F A) C.ii (slot_len F A) in_time (omega arith) in
      let fit = slots_fit in
      let inside_bits : unit_place F A x slot + (args_at F + ports A x * arg_len) ≤ length bits = omega arith in
      let offer = none_unless _ _ (of_unit (λ y s. Faults.unless (offered (unit A y).ops (fields C y s).op) (Faults.at_unit F A digest bytes y s)) none.offers_right x slot lt in_time) in
      let kept = of_unit (λ y s. Faults.unit_breaches F (ports A y) (fields C y s) (Faults.at_unit F A digest bytes y s)) (none_both (Faults.unless (eqb C.stages (1 + last_stage A C)) 48) _ none.rules_kept).1 x slot lt in_time in
      subst (λ f. AreFields (unit A x).ops f) (sym is_read)
      (unit_keeps F is (ports A x) (room.few x lt) bits (unit_place F A x slot) inside_bits (unit A x).ops (Faults.at_unit F A digest bytes x slot)
      (ap (λ f. offered (unit A x).ops f.op) (sym is_read) ∙ offer) (ap (λ f. Faults.unit_breaches F (ports A x) f (Faults.at_unit F A digest bytes x slot)) (sym is_read) ∙ kept))

  pub canonical : IsCanonical A C
  unfolding config_in
  canonical =
      record {
        interval = from_zero C.ii header_parts.0;
        contexts = header_parts.1;
        stages = eqb-true _ _ (none_unless _ _ (none_both (Faults.unless (eqb C.stages (1 + last_stage A C)) 48) _ none.rules_kept).0);
        slots = (length-map-range_with_len _ 0 C.ii, length-map-range_with_len _ 0 C.ii);
        rows = λ slot in_time. (
          ap length (get_or-map-range_with_len (λ s. map (λ q. number_at bits (select_place F A q s) (select_bits A q)) (range_with_len 0 (length A.resources))) 0 C.ii slot slot [] in_time (omega arith)) ∙ length-map-range_with_len _ 0 (length A.resources),
          ap length (get_or-map-range_with_len (λ s. map (λ y. unit_in F (ports A y) bits (unit_place F A y s)) (range_with_len 0 (length A.units))) 0 C.ii slot slot [] in_time (omega arith)) ∙ length-map-range_with_len _ 0 (length A.units),
        );
        selects = λ r slot lt in_time.
            leb-true _ _ (none_unless _ _ (of_resource (λ q s. Faults.unless (leb (select C q s) (length (resource A q).drivers)) (320 + select_place F A q s)) none.selects_right r slot lt in_time));
        fielded = unit_rules;
        free = λ x slot lt in_time.
            none_unless _ _ (of_unit (λ y s. Faults.unless (port_free A C y s) (Faults.at_unit F A digest bytes y s + F.op_bits + 16)) none.ports_right x slot lt in_time);
      }

-- ---- the other way: the spelling of a canonical configuration has no fault

module _ (F : Format) (is : IsFormat F) (A : Arch) (room : HasRoom A) (digest : List ℕ) (sized : length digest ≡ 32) (E : Config) (bytes : List ℕ) (right : IsCanonical A E) (spells : Spells F A digest E bytes) where
  back : config_at F A bytes ≡ E
  back = reads_back F is A room digest sized E bytes right spells

  read_right : IsCanonical A (config_at F A bytes)
  read_right = subst (λ c. IsCanonical A c) (sym back) right

  read_spells : Spells F A digest (config_at F A bytes) bytes
  read_spells = subst (λ c. Spells F A digest c bytes) (sym back) spells

  abbrev R : Config
  R = config_at F A bytes

  abbrev held : List Bool
  held = bits_of_bytes (drop 40 bytes)

  body_held : drop 40 bytes ≡ read_spells.body
  body_held = body_is F is A room digest sized R bytes read_spells

  bits_held : held ≡ slots F A R ++ replicate read_spells.padding false
  bits_held = ap bits_of_bytes body_held ∙ read_spells.bits

  long_held : length bytes ≡ 40 + length (drop 40 bytes)
  long_held = ap length read_spells.whole ∙ omega (arith, length-append (header F digest R) read_spells.body, length-append digest read_spells.body, ap length body_held, header_long)
    where
      header_long : length (header F digest R) ≡ 40
      header_long = omega (arith, sized)

  size_held : length bytes ≡ Faults.size F A digest bytes
  size_held =
      let a = length-bits_of_bytes (drop 40 bytes) in
      let b : length held ≡ R.ii * slot_len F A + read_spells.padding =
      ap length bits_held ∙ length-append (slots F A R) (replicate read_spells.padding false) ∙ ap (λ z. z + length (replicate read_spells.padding false)) (length-slots F is A R R.ii) ∙ ap (λ z. R.ii * slot_len F A + z) (length-replicate read_spells.padding false) in
      let c = read_spells.short in
      let d = long_held in
      omega arith

  pads_held : length held ≡ R.ii * slot_len F A + read_spells.padding
  pads_held =
      ap length bits_held ∙ length-append (slots F A R) (replicate read_spells.padding false) ∙ ap (λ z. z + length (replicate read_spells.padding false)) (length-slots F is A R R.ii) ∙ ap (λ z. R.ii * slot_len F A + z) (length-replicate read_spells.padding false)

  no_magic : Faults.wrong_magic F A digest bytes ≡ []
  no_magic =
      let l = long_held in
      let front : take 4 bytes ≡ magic F = ap (take 4) read_spells.whole in
      unless_none _ Magic (ap (λ z. starts_with nat_eq (magic F) z) front ∙ is_same (magic F))
    where
      header_room : 40 ≤ length bytes
      header_room = let l = long_held in omega arith

  no_short : Faults.too_short F A digest bytes ≡ []
  no_short =
      let l = long_held in
      let s = size_held in
      guard_none (ltb (length bytes) 40) (Truncated (length bytes)) _ (le-ltb (length bytes) 40 (omega arith))
      (cond_none (eqb (length (Faults.other_digest F A digest bytes ++ Faults.bad_header F A digest bytes)) 0) (Faults.unless (leb (Faults.size F A digest bytes) (length bytes)) (Truncated (length bytes)))
      (unless_none _ _ (le-leb (Faults.size F A digest bytes) (length bytes) (omega arith))))

  no_digest : Faults.other_digest F A digest bytes ≡ []
  no_digest =
      let front : take 32 (drop 8 bytes) ≡ digest = ap (λ z. take 32 (drop 8 z)) read_spells.whole ∙ take_at digest read_spells.body 32 sized in
      unless_none _ _ (ap (λ z. bytes_eq z digest) front ∙ is_same digest)

  no_header : Faults.bad_header F A digest bytes ≡ []
  no_header =
      let above = read_right.interval in
      let stages = read_right.stages in
      unless_none _ _ (ap not (or_from _ _ (ne_eqb R.ii 0 (λ e. omega arith)) (or_from _ _ (le-ltb A.contexts R.ii read_right.contexts) (ne_eqb R.stages 0 (λ e. omega arith)))))

  no_resource : (says : ℕ → ℕ → List ℕ) → ((r slot : ℕ) → r < length A.resources → slot < R.ii → says r slot ≡ []) → Faults.each_resource F A digest bytes says ≡ []
  no_resource says h = joined_none (λ slot. joined (λ r. says r slot) (length A.resources)) R.ii (λ slot in_time. joined_none (λ r. says r slot) (length A.resources) (λ r lt. h r slot lt in_time))

  no_unit : (says : ℕ → ℕ → List ℕ) → ((x slot : ℕ) → x < length A.units → slot < R.ii → says x slot ≡ []) → Faults.each_unit F A digest bytes says ≡ []
  no_unit says h = joined_none (λ slot. joined (λ x. says x slot) (length A.units)) R.ii (λ slot in_time. joined_none (λ x. says x slot) (length A.units) (λ x lt. h x slot lt in_time))

  no_select : Faults.bad_selects F A digest bytes ≡ []
  no_select = no_resource (λ r slot. Faults.unless (leb (select R r slot) (length (resource A r).drivers)) (320 + select_place F A r slot)) (λ r slot lt in_time. unless_none _ _ (le-leb _ _ (read_right.selects r slot lt in_time)))

  code_held : (x slot : ℕ) → x < length A.units → slot < R.ii → number_at held (unit_place F A x slot) F.op_bits ≤ F.greatest
  unfolding unit_bits
  code_held x slot lt in_time =
      let f = fields R x slot in
      let known = read_spells.known x slot lt in_time in
      let room_for = is.codes_fit in
      let code = Holds-left held (unit_place F A x slot) (bits_of F.op_bits (code_of f.op)) _ (unit_stands_at F is A R held x slot lt in_time (replicate read_spells.padding false, bits_held)) in
      subst (λ z. z ≤ F.greatest) (sym (Holds-number held (unit_place F A x slot) F.op_bits (code_of f.op) (omega arith) code)) known

  no_code : Faults.bad_codes F A digest bytes ≡ []
  no_code = no_unit (λ x slot. Faults.unless (leb (number_at held (unit_place F A x slot) F.op_bits) F.greatest) (Faults.at_unit F A digest bytes x slot)) (λ x slot lt in_time. unless_none _ _ (le-leb _ _ (code_held x slot lt in_time)))

  no_offer : Faults.not_offered F A digest bytes ≡ []
  no_offer = no_unit (λ x slot. Faults.unless (offered (unit A x).ops (fields R x slot).op) (Faults.at_unit F A digest bytes x slot)) (λ x slot lt in_time. unless_none _ _ (read_right.fielded x slot lt in_time).offer)

  no_breach : Faults.breaches F A digest bytes ≡ []
  no_breach =
      both_none _ _ (unless_none _ 48 (eq-eqb _ _ read_right.stages))
      (no_unit (λ x slot. Faults.unit_breaches F (ports A x) (fields R x slot) (Faults.at_unit F A digest bytes x slot))
      (λ x slot lt in_time. kept_unit F (unit A x).ops (ports A x) (fields R x slot) (Faults.at_unit F A digest bytes x slot) (room.few x lt) (read_right.fielded x slot lt in_time)))

  no_padding : Faults.set_padding F A digest bytes ≡ []
  no_padding =
      joined_none (λ i. Faults.unless (not (slice_index_or held (R.ii * slot_len F A + i) false)) (320 + (R.ii * slot_len F A + i))) ((Faults.size F A digest bytes - 40) * 8 - R.ii * slot_len F A)
      (λ i lt.
      let a = pads_held in
      let b = size_held in
      let c = long_held in
      let d = length-bits_of_bytes (drop 40 bytes) in
      let inside : i < read_spells.padding = omega arith in
      let one : get_or held (R.ii * slot_len F A + i) false ≡ false =
      sym (get_or-drop (R.ii * slot_len F A) held i false) ∙ ap (λ z. get_or z i false) (ap (drop (R.ii * slot_len F A)) bits_held ∙ drop_at (slots F A R) (replicate read_spells.padding false) (R.ii * slot_len F A) (length-slots F is A R R.ii))
      ∙ get_or-replicate read_spells.padding i false false inside in
      unless_none _ _ (ap not one))

  no_more : Faults.trailing F A digest bytes ≡ []
  no_more = unless_none _ _ (le-leb _ _ (let s = size_held in omega arith))

  no_clash : Faults.repeated_ports F A digest bytes ≡ []
  no_clash = no_unit (λ x slot. Faults.unless (port_free A R x slot) (Faults.at_unit F A digest bytes x slot + F.op_bits + 16)) (λ x slot lt in_time. unless_none _ _ (read_right.free x slot lt in_time))

  pub no_fault : Faults.faults F A digest bytes ≡ []
  no_fault =
      both_none _ _ no_magic (both_none _ _ no_short (both_none _ _ no_digest (both_none _ _ no_header
      (both_none _ _ (map_none BadSelect _ no_select) (both_none _ _ (map_none BadOp _ no_code) (both_none _ _ (map_none NotOffered _ no_offer)
      (both_none _ _ (map_none NotCanonical _ no_breach) (both_none _ _ (map_none BadPadding _ no_padding) (both_none _ _ (map_none Trailing _ no_more) (map_none RepeatedPort _ no_clash))))))))))
