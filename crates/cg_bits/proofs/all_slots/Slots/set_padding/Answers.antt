use Rattle.std.proofs.Common.{◌≡◌, Some, ◌+◌, ◌*◌, ◌<◌, true, false, not, length, get_or, sym, ap, ◌∙◌, arith}
use Rattle.cg_bits.specs.Numbers.{number_at, bits_of_bytes}
use Rattle.cg_bits.specs.Format.{slot_len}
use Rattle.cg_bits.specs.Faults.{unless}
use Rattle.cg_bits.specs.Checks.{spare}
use Rattle.cg_bits.proofs.First.{first_joined, first_unless, joined_none_zero, joined_none_more}
use Rattle.cg_bits.proofs.None.{unless_none}
use Rattle.cg_bits.proofs.Bytes.{length-bits_of_bytes}
use Rattle.cg_bits.proofs.Places.{bit_is, bit_set, bit_clear}
use Rattle.cg_bits.proofs.all_slots.Slots.set_padding.Goals as goal

pub loop-i-init : goal.loop-i-init
loop-i-init c = joined_none_zero _

pub returns-then-number_at-eq1 : goal.returns-then-number_at-eq1
returns-then-number_at-eq1 c =
    let s = c.args.self.now in
    let bits = bits_of_bytes s.body.now in
    let end = s.ii * slot_len s.format s.arch.now in
    let i = c.loop-i.i in
    let same : s.ii * s.len ≡ end = ap (λ z. s.ii * z) s.fit.len_is in
    let whole = s.fit.whole in
    let within : end + i < length bits = omega (arith, length-bits_of_bytes s.body.now) in
    let set : get_or bits (end + i) false ≡ true =
    bit_set _ (sym (bit_is bits (end + i) within) ∙ ap (λ z. number_at bits (z + i) 1) (sym same) ∙ sym c.number_at.ensures ∙ c.if-number_at-eq1.true) in
    sym (first_joined (λ j. unless (not (get_or bits (end + j) false)) (320 + (end + j))) (spare s.format s.arch.now s.body.now s.ii) i _ c.loop-i.invariant (omega arith)
    (first_unless _ _ (ap not set) ∙ ap (λ z. Some (320 + (z + i))) (sym same)))

pub loop-i-preserved : goal.loop-i-preserved
loop-i-preserved c =
    let s = c.args.self.now in
    let bits = bits_of_bytes s.body.now in
    let end = s.ii * slot_len s.format s.arch.now in
    let i = c.loop-i.i in
    let same : s.ii * s.len ≡ end = ap (λ z. s.ii * z) s.fit.len_is in
    let whole = s.fit.whole in
    let within : end + i < length bits = omega (arith, length-bits_of_bytes s.body.now) in
    let clear : get_or bits (end + i) false ≡ false =
    bit_clear _ (λ e. c.if-number_at-eq1.false (c.number_at.ensures ∙ ap (λ z. number_at bits (z + i) 1) same ∙ bit_is bits (end + i) within ∙ e)) in
    joined_none_more (λ j. unless (not (get_or bits (end + j) false)) (320 + (end + j))) i c.loop-i.invariant (unless_none _ _ (ap not clear))
