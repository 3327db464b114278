use Rattle.std.proofs.Common.{◌≡◌, ◌+◌, sym, ap, ◌∙◌, Some, None}
use Rattle.cg_bits.specs.Numbers.{number_at, bits_of_bytes}
use Rattle.cg_bits.specs.Format.{op_of, ports}
use Rattle.cg_bits.specs.Reading.{unit_place}
use Rattle.cg_bits.proofs.Places.{stage_on, stage_off}
use Rattle.cg_bits.proofs.all_slots.Slots.stage.Goals as goal

pub returns-in-Some : goal.returns-in-Some
returns-in-Some c =
    let s = c.args.self.now in
    let bits = bits_of_bytes s.body.now in
    let at = unit_place s.format s.arch.now c.args.unit c.args.slot in
    let e : op_of s.format (number_at bits at s.format.op_bits) ≡ Some c.in-Some.field-0 =
    sym (ap (λ z. op_of s.format (number_at bits z s.format.op_bits)) c.unit_place-at.ensures.place) ∙ sym (ap (op_of s.format) c.number_at.ensures) ∙ sym c.op_of.ensures ∙ c.in-Some.is in
    c.number_at-in-Some.ensures ∙ ap (λ z. number_at bits (z + s.format.op_bits) 16) c.unit_place-at.ensures.place ∙ sym (stage_on s.format (ports s.arch.now c.args.unit) bits at c.in-Some.field-0 e)

pub returns-in-None : goal.returns-in-None
returns-in-None c =
    let s = c.args.self.now in
    let bits = bits_of_bytes s.body.now in
    let at = unit_place s.format s.arch.now c.args.unit c.args.slot in
    let e : op_of s.format (number_at bits at s.format.op_bits) ≡ None =
    sym (ap (λ z. op_of s.format (number_at bits z s.format.op_bits)) c.unit_place-at.ensures.place) ∙ sym (ap (op_of s.format) c.number_at.ensures) ∙ sym c.op_of.ensures ∙ c.in-None.is in
    sym (stage_off s.format (ports s.arch.now c.args.unit) bits at e)
