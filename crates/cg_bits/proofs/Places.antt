-- Where the fields of the slots lie, by the architecture's offsets, and what is found there.
use Rattle.std.proofs.Common.{◌≡◌, ℕ, zero, suc, ◌+◌, ◌-◌, ◌*◌, ◌<◌, ◌≤◌, ◌^◌, leb, Bool, true, false, cond, max, List, [], length, take, get_or, Option, Some, None, refl, sym, ap, ◌∙◌, arith, add-one, zero-add, drop-cons}
use Rattle.std.proofs.lemmas.Bool.{le-leb, lt-leb}
use Rattle.std.proofs.lemmas.Nat.{row_fits}
use Rattle.cg_word.specs.declared.op.Op.{Op}
use Rattle.cg_model.specs.declared.array.Kind.TheVariants.{Wire}
use Rattle.cg_model.specs.declared.array.Resource.{Resource}
use Rattle.cg_model.specs.declared.array.Unit.{Unit}
use Rattle.cg_model.specs.Array.{Arch, resource, unit}
use Rattle.cg_model.specs.Canonical.{greatest_of, is_on, stage_of}
use Rattle.cg_flat.specs.Slots as flat
use Rattle.cg_flat.specs.Slots.{total, select_bits, IsWidth}
use Rattle.cg_flat.proofs.Lists.{item_at}
use Rattle.cg_bits.specs.declared.format.Format.{Format}
use Rattle.cg_bits.specs.Numbers.{digit, number, number_after, number_at}
use Rattle.cg_bits.specs.Format.{op_of, unit_len, unit_at, slot_len}
use Rattle.cg_bits.specs.Reading.{unit_in, select_place, unit_place}
use Rattle.cg_bits.specs.Faults.{first, unless}
use Rattle.cg_bits.proofs.First.{first_unless}
use Rattle.cg_bits.proofs.None.{unless_none}
use Rattle.cg_bits.proofs.Slots.{total_within}

-- ---- places

narrower : (F : Format) (A : Arch) (n : ℕ) → F.op_bits ≤ 6 → total (unit_len F A) n + n * (6 - F.op_bits) ≡ total (flat.unit_bits A) n
unfolding total
narrower F A zero le = omega arith
narrower F A (suc n) le = let before = narrower F A n le in omega arith

-- the architecture's offsets are those of six bits an operation
pub unit_at_is : (F : Format) (A : Arch) (x : ℕ) → F.op_bits ≤ 6 → flat.unit_at A x ≡ unit_at F A x + x * (6 - F.op_bits)
unit_at_is F A x le = let e = narrower F A x le in omega arith

pub select_inside : (F : Format) (A : Arch) (r slot ii : ℕ) → r < length A.resources → slot < ii → select_place F A r slot + select_bits A r ≤ ii * slot_len F A
select_inside F A r slot ii lt in_time =
    let within = total_within (select_bits A) (length A.resources) r lt in
    let fits : slot * slot_len F A + slot_len F A ≤ ii * slot_len F A = row_fits slot (slot_len F A) ii (slot_len F A) in_time (omega arith) in
    omega arith

pub unit_inside : (F : Format) (A : Arch) (x slot ii : ℕ) → x < length A.units → slot < ii → unit_place F A x slot + unit_len F A x ≤ ii * slot_len F A
unit_inside F A x slot ii lt in_time =
    let within = total_within (unit_len F A) (length A.units) x lt in
    let fits : slot * slot_len F A + slot_len F A ≤ ii * slot_len F A = row_fits slot (slot_len F A) ii (slot_len F A) in_time (omega arith) in
    omega arith

-- ---- what a loop over resources or units looks at

pub resource_is : (rs : List Resource) (A : Arch) (r : ℕ) (x : Resource) → x ≡ get_or rs r x → rs ≡ A.resources → r < length rs → x ≡ resource A r
resource_is rs A r x is same lt = item_at rs A.resources r x (record { name = []; kind = Wire; drivers = [] }) is same lt

pub unit_is : (us : List Unit) (A : Arch) (x : ℕ) (u : Unit) → u ≡ get_or us x u → us ≡ A.units → x < length us → u ≡ unit A x
unit_is us A x u is same lt = item_at us A.units x u (record { name = []; ops = []; latency = 1; ports = []; out = 0 }) is same lt

-- a width is at most 32 for numbers below 2 ^ 32
pub width_few : (k w : ℕ) → IsWidth k w → k < 2 ^ 32 → w ≤ 32
width_few k w is lt = is.least 32 lt

pub above : (n m k j p q : ℕ) → k < n → n ≡ m → k ≡ j → p ≡ q → first (unless (leb m j) (320 + q)) ≡ Some (320 + p)
above n m k j p q lt e f g = first_unless (leb m j) (320 + q) (lt-leb m j (omega arith)) ∙ ap (λ z. Some (320 + z)) (sym g)

pub not_above : (n m k j q : ℕ) → n ≤ k → n ≡ m → k ≡ j → unless (leb m j) q ≡ []
not_above n m k j q le e f = unless_none (leb m j) q (le-leb m j (omega arith))

-- ---- single bits

pub bit_is : (bits : List Bool) (p : ℕ) → p < length bits → number_at bits p 1 ≡ digit (get_or bits p false)
unfolding number_after
bit_is bits p lt = ap (λ z. number (take 1 z)) (drop-cons bits p false lt) ∙ zero-add (digit (get_or bits p false))

pub bit_set : (b : Bool) → digit b ≡ 1 → b ≡ true
bit_set true e = refl
bit_set false e = absurd (omega arith)

pub bit_clear : (b : Bool) → (digit b ≡ 1 → ⊥) → b ≡ false
bit_clear true e = absurd (e refl)
bit_clear false e = refl

-- ---- stages

pub stage_on : (F : Format) (n : ℕ) (bits : List Bool) (at : ℕ) (op : Op) → op_of F (number_at bits at F.op_bits) ≡ Some op → stage_of (unit_in F n bits at) ≡ number_at bits (at + F.op_bits) 16
unfolding unit_in
stage_on F n bits at op e = ap (λ (o : Option Op). cond (is_on o) (number_at bits (at + F.op_bits) 16) 0) e

pub stage_off : (F : Format) (n : ℕ) (bits : List Bool) (at : ℕ) → op_of F (number_at bits at F.op_bits) ≡ None → stage_of (unit_in F n bits at) ≡ 0
unfolding unit_in
stage_off F n bits at e = ap (λ (o : Option Op). cond (is_on o) (number_at bits (at + F.op_bits) 16) 0) e

pub greatest_none : (f : ℕ → ℕ) → 0 ≡ greatest_of f 0
unfolding greatest_of
greatest_none f = refl

pub greatest_more : (f : ℕ → ℕ) (n m k : ℕ) → m ≡ greatest_of f n → k ≡ f n → max m k ≡ greatest_of f (n + 1)
unfolding greatest_of
greatest_more f n m k e g = ap (λ z. max z k) e ∙ ap (λ z. max (greatest_of f n) z) g ∙ sym (ap (greatest_of f) (add-one n))
