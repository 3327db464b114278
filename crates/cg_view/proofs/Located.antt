-- Where a slot and a unit lie, and what is read there.
use Rattle.std.proofs.Common.{◌≡◌, ℕ, ◌+◌, ◌-◌, ◌*◌, ◌<◌, ◌≤◌, ◌^◌, Bool, true, List, [], length, take, drop, get_or, Option, Some, None, refl, sym, ap, subst, ◌∙◌, arith, length-drop}
use Rattle.std.proofs.Math.Nat.{mul-le-mul_left}
use Rattle.std.proofs.lemmas.List.{take_all}
use Rattle.std.proofs.lemmas.List.FromFn.{get_or-map-range_with_len, length-map-range_with_len}
use Rattle.std.proofs.lemmas.Nat.{row_fits}
use Rattle.cg_word.specs.declared.op.Op.{Op}
use Rattle.cg_word.specs.declared.op.Op.TheVariants.{Const, Iter, Input, Add, Sub, Mul, And, Or, Xor, Shl, Shr, Sar, Eq, Ne, Lts, Ltu, Mins, Maxs, Select, Load, Store, Output, LoadIf, StoreIf, OutputIf}
use Rattle.cg_word.specs.Word.{all_ops}
use Rattle.cg_word.specs.Sets.{among, all_among}
use Rattle.cg_model.specs.declared.config.UnitFields.{UnitFields}
use Rattle.cg_model.specs.Array.{Arch, resource, unit}
use Rattle.cg_model.specs.Config.{off}
use Rattle.cg_model.specs.Canonical.{AreFields, offered}
use Rattle.cg_flat.specs.Slots.{select_bits, select_at}
use Rattle.cg_flat.proofs.Widths.{is_width}
use Rattle.cg_bits.specs.Numbers.{number_at}
use Rattle.cg_bits.specs.Format.{cgb2, ports, unit_len, unit_at, slot_len}
use Rattle.cg_bits.specs.Reading.{unit_in, ii_in, stages_in, body_bits, config_in}
use Rattle.cg_bits.specs.Answers.{config_of}
use Rattle.cg_bits.proofs.Room.{room_of}
use Rattle.cg_bits.proofs.Slots.{total_within, offered_arity, fields_read}
use Rattle.cg_bits.proofs.Places.{width_few}
use Rattle.cg_bits.proofs.Answered.{is_cgb2}
use Rattle.cg_view.specs.Slot.{Slot, slot_of, slot_in}
use Rattle.cg_view.specs.Held.{HoldBits, HoldsSlot}

-- what is left of bytes from byte 40 on
pub body_is : (bytes : List ℕ) → take (length bytes - 40) (drop 40 bytes) ≡ drop 40 bytes
body_is bytes = take_all (length bytes - 40) (drop 40 bytes) (omega (arith, length-drop 40 bytes))

-- ---- a slot

pub many_selects : (A : Arch) (bits : List Bool) (at : ℕ) → length (slot_in A bits at).selects ≡ length A.resources
many_selects A bits at = length-map-range_with_len _ 0 (length A.resources)

pub many_units : (A : Arch) (bits : List Bool) (at : ℕ) → length (slot_in A bits at).units ≡ length A.units
many_units A bits at = length-map-range_with_len _ 0 (length A.units)

pub select_there : (A : Arch) (bits : List Bool) (at r : ℕ) → r < length A.resources → get_or (slot_in A bits at).selects r 0 ≡ number_at bits (at + select_at A r) (select_bits A r)
select_there A bits at r lt = get_or-map-range_with_len (λ q. number_at bits (at + select_at A q) (select_bits A q)) 0 (length A.resources) r r 0 lt (omega arith)

pub unit_there : (A : Arch) (bits : List Bool) (at x : ℕ) → x < length A.units → get_or (slot_in A bits at).units x off ≡ unit_in cgb2 (ports A x) bits (at + unit_at cgb2 A x)
unit_there A bits at x lt = get_or-map-range_with_len (λ y. unit_in cgb2 (ports A y) bits (at + unit_at cgb2 A y)) 0 (length A.units) x x off lt (omega arith)

pub select_within : (A : Arch) (r : ℕ) → r < length A.resources → select_at A r + select_bits A r ≤ slot_len cgb2 A
select_within A r lt = let h = total_within (select_bits A) (length A.resources) r lt in omega arith

unit_within : (A : Arch) (x : ℕ) → x < length A.units → unit_at cgb2 A x + unit_len cgb2 A x ≤ slot_len cgb2 A
unit_within A x lt = let h = total_within (unit_len cgb2 A) (length A.units) x lt in omega arith

-- ---- a slot of the configuration that bytes spell

pub slot_is : (A : Arch) (bytes : List ℕ) (slot : ℕ) → slot < ii_in bytes → slot_in A (body_bits bytes) (slot * slot_len cgb2 A) ≡ slot_of (config_of A bytes) slot
unfolding config_in
slot_is A bytes slot lt =
    let S = slot_in A (body_bits bytes) (slot * slot_len cgb2 A) in
    let T = slot_of (config_of A bytes) slot in
    let selects : S.selects ≡ T.selects =
    sym (get_or-map-range_with_len (λ s. (slot_in A (body_bits bytes) (s * slot_len cgb2 A)).selects) 0 (ii_in bytes) slot slot [] lt (omega arith)) in
    let units : S.units ≡ T.units =
    sym (get_or-map-range_with_len (λ s. (slot_in A (body_bits bytes) (s * slot_len cgb2 A)).units) 0 (ii_in bytes) slot slot [] lt (omega arith)) in
    ap (λ (z : List ℕ). let s : Slot = record { selects = z; units = S.units } in s) selects ∙ ap (λ (z : List UnitFields). let s : Slot = record { selects = T.selects; units = z } in s) units

offered_by_all : (o : Option Op) → offered all_ops o ≡ true
offered_by_all None = refl
offered_by_all (Some op) = all_among op

any_ops : (ops : List Op) (f : UnitFields) → AreFields ops f → AreFields all_ops f
any_ops ops f are =
    record {
      args = are.args;
      inits = are.inits;
      ports = are.ports;
      immediates = are.immediates;
      init_words = are.init_words;
      offer = offered_by_all f.op;
      stage = are.stage;
      port = are.port;
      immediate = are.immediate;
      mode = are.mode;
      count = are.count;
      word = are.word;
    }

few_bits : (i l : ℕ) → i < 65536 → l < 2 ^ 32 → i * l < 2 ^ 48
few_bits i l a b = let h : l ≤ 2 ^ 32 = omega arith in let k = mul-le-mul_left i h in omega arith

-- each slot is held
pub slot_held : (A : Arch) (bytes : List ℕ) (slot : ℕ) → HoldBits A bytes → slot < ii_in bytes → slot_len cgb2 A < 2 ^ 32 → HoldsSlot A (drop 40 bytes) (slot * slot_len cgb2 A)
unfolding config_in
slot_held A bytes slot held lt short =
    let room = room_of A held.valid in
    let right = held.canonical in
    let contexts = right.contexts in
    let most = room.contexts in
    let whole = held.whole in
    let fits : slot * slot_len cgb2 A + slot_len cgb2 A ≤ ii_in bytes * slot_len cgb2 A = row_fits slot (slot_len cgb2 A) (ii_in bytes) (slot_len cgb2 A) lt (omega arith) in
    let small : slot * slot_len cgb2 A < 2 ^ 48 = few_bits slot (slot_len cgb2 A) (omega arith) short in
    record {
      inside = omega (arith, length-drop 40 bytes);
      small = small;
      narrow = λ r l. width_few (length (resource A r).drivers) (select_bits A r) (is_width (length (resource A r).drivers)) (room.links r l);
      units = λ x l.
          let within = unit_within A x l in
          let is_read = fields_read cgb2 is_cgb2 A (body_bits bytes) (ii_in bytes) (stages_in bytes) x slot l lt in
          let are = subst (λ f. AreFields (unit A x).ops f) is_read (right.fielded x slot l lt) in
          record {
            inside = omega (arith, length-drop 40 bytes);
            small = omega arith;
            few = room.few x l;
            fields = subst (λ z. AreFields all_ops (unit_in cgb2 (ports A x) (body_bits bytes) z)) (omega arith) (any_ops (unit A x).ops _ are);
            arity = offered_arity (unit A x).ops _ (ports A x) (λ op e. room.arities x op l e) are.offer;
          };
    }
