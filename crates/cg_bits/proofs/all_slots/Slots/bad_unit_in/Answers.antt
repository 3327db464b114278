use Rattle.std.proofs.Common.{length, sym, ap, ◌∙◌, arith}
use Rattle.cg_model.specs.declared.array.Unit.{Unit}
use Rattle.cg_model.specs.Array.{unit}
use Rattle.cg_bits.specs.Numbers.{bits_of_bytes}
use Rattle.cg_bits.specs.Reading.{unit_place}
use Rattle.cg_bits.specs.Faults.{first}
use Rattle.cg_bits.specs.Checks.{unit_faults}
use Rattle.cg_bits.proofs.First.{first_joined, first_none, joined_none_zero, joined_none_more}
use Rattle.cg_bits.proofs.Places.{unit_is}
use Rattle.cg_bits.proofs.all_slots.Slots.bad_unit_in.Goals as goal

pub loop-x-init : goal.loop-x-init
loop-x-init c = joined_none_zero _

pub returns-in-Some : goal.returns-in-Some
returns-in-Some c =
    let s = c.args.self.now in
    let A = s.arch.now in
    let bits = bits_of_bytes s.body.now in
    let x = c.loop-x.x in
    let many = ap length c.units-unit-items.ensures.units in
    let its = unit_is c.units-unit-items.result.now A x c.unit-item.result c.unit-item.is c.units-unit-items.ensures.units c.loop-x-test.true in
    sym (first_joined (λ y. unit_faults c.args.check s.format (unit A y) bits (unit_place s.format A y c.args.slot)) (length A.units) x c.in-Some.place c.loop-x.invariant (omega arith)
    (sym (ap (λ (u : Unit). first (unit_faults c.args.check s.format u bits (unit_place s.format A x c.args.slot))) its)
    ∙ sym (ap (λ z. first (unit_faults c.args.check s.format c.unit-item.result bits z)) c.unit_place-at.ensures.place) ∙ sym c.unit_fault.ensures ∙ c.in-Some.is))

pub loop-x-preserved : goal.loop-x-preserved
loop-x-preserved c =
    let s = c.args.self.now in
    let A = s.arch.now in
    let bits = bits_of_bytes s.body.now in
    let x = c.loop-x.x in
    let its = unit_is c.units-unit-items.result.now A x c.unit-item.result c.unit-item.is c.units-unit-items.ensures.units c.loop-x-test.true in
    joined_none_more (λ y. unit_faults c.args.check s.format (unit A y) bits (unit_place s.format A y c.args.slot)) x c.loop-x.invariant
    (sym (ap (λ (u : Unit). unit_faults c.args.check s.format u bits (unit_place s.format A x c.args.slot)) its)
    ∙ sym (ap (λ z. unit_faults c.args.check s.format c.unit-item.result bits z) c.unit_place-at.ensures.place)
    ∙ first_none _ (sym c.in_default.is ∙ c.unit_fault.ensures))
