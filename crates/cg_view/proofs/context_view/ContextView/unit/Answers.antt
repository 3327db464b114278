use Rattle.std.proofs.Common.{◌≡◌, ◌+◌, length, get_or, sym, ap, ◌∙◌, arith}
use Rattle.cg_model.specs.declared.array.Unit.{Unit}
use Rattle.cg_model.specs.Config.{off}
use Rattle.cg_bits.specs.Numbers.{bits_of_bytes}
use Rattle.cg_bits.specs.Format.{cgb2, ports}
use Rattle.cg_bits.specs.Reading.{unit_in}
use Rattle.cg_bits.proofs.Places.{unit_is}
use Rattle.cg_view.specs.Slot.{Slot}
use Rattle.cg_view.proofs.Located.{many_units, unit_there}
use Rattle.cg_view.proofs.context_view.ContextView.unit.Goals as goal

pub bounds-units-unit : goal.bounds-units-unit
bounds-units-unit c =
    let many = many_units c.self.inside.arch.now (bits_of_bytes c.self.inside.body.now) c.self.inside.at in
    let same = ap (λ (s : Slot). length s.units) c.self.view_is in
    let lent = ap length c.units.ensures.units in
    let r = c.requires in
    omega arith

pub unit_at-requires : goal.unit_at-requires
unit_at-requires c =
    let many = many_units c.self.inside.arch.now (bits_of_bytes c.self.inside.body.now) c.self.inside.at in
    let same = ap (λ (s : Slot). length s.units) c.self.view_is in
    let r = c.requires in
    omega arith

pub new-requires : goal.new-requires
new-requires c =
    let A = c.self.inside.arch.now in
    let x = c.args.unit in
    let many = many_units A (bits_of_bytes c.self.inside.body.now) c.self.inside.at in
    let same = ap (λ (s : Slot). length s.units) c.self.view_is in
    let lent = ap length c.units.ensures.units in
    let r = c.requires in
    let its = unit_is c.units.result.now A x c.index-units-unit.result c.index-units-unit.is c.units.ensures.units (omega arith) in
    let counted : length c.as_slice-ports.result.now ≡ ports A x = ap length c.as_slice-ports.ensures ∙ ap (λ (u : Unit). length u.ports) (sym c.index-units-unit.is ∙ its) in
    rw (counted, c.unit_at.ensures) (c.self.invariant.units x (omega arith))

pub returns : goal.returns
returns c =
    let A = c.self.inside.arch.now in
    let bits = bits_of_bytes c.self.inside.body.now in
    let at = c.self.inside.at in
    let x = c.args.unit in
    let many = many_units A bits at in
    let same = ap (λ (s : Slot). length s.units) c.self.view_is in
    let lent = ap length c.units.ensures.units in
    let r = c.requires in
    let its = unit_is c.units.result.now A x c.index-units-unit.result c.index-units-unit.is c.units.ensures.units (omega arith) in
    let counted : length c.as_slice-ports.result.now ≡ ports A x = ap length c.as_slice-ports.ensures ∙ ap (λ (u : Unit). length u.ports) (sym c.index-units-unit.is ∙ its) in
    c.new.ensures ∙ ap (λ n. unit_in cgb2 n bits (at + c.unit_at.result)) counted ∙ ap (λ z. unit_in cgb2 (ports A x) bits (at + z)) c.unit_at.ensures
    ∙ sym (unit_there A bits at x (omega arith)) ∙ ap (λ (s : Slot). get_or s.units x off) c.self.view_is
