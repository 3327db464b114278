use Rattle.std.proofs.Common.{◌≡◌, map, length, ap, ◌∙◌, arith}
use Rattle.std.specs.List.{range_with_len}
use Rattle.cg_model.specs.declared.array.Unit.{Unit}
use Rattle.cg_bits.specs.Numbers.{bits_of_bytes}
use Rattle.cg_bits.specs.Format.{ports}
use Rattle.cg_bits.specs.Reading.{unit_in}
use Rattle.cg_bits.specs.Checks.{fields_there}
use Rattle.cg_bits.proofs.Places.{unit_is}
use Rattle.cg_bits.proofs.Tables.{row_more}
use Rattle.cg_bits.proofs.reading_all.fields_row.Goals as goal

pub loop-x-preserved : goal.loop-x-preserved
loop-x-preserved c =
    let s = c.args.slots.now in
    let A = s.arch.now in
    let bits = bits_of_bytes s.body.now in
    let x = c.loop-x.x in
    let its = unit_is c.units-unit-items.result.now A x c.unit-item.result c.unit-item.is c.units-unit-items.ensures.units c.loop-x-test.true in
    let counted : length c.as_slice-ports.result.now ≡ ports A x = ap length c.as_slice-ports.ensures ∙ ap (λ (u : Unit). length u.ports) its in
    let one : c.unit_at.result ≡ fields_there s.format A bits c.args.slot x = c.unit_at.ensures ∙ ap (λ n. unit_in s.format n bits c.unit_place-at.result) counted ∙ ap (unit_in s.format (ports A x) bits) c.unit_place-at.ensures.place in
    row_more (fields_there s.format A bits c.args.slot) x c.loop-x.row.items _ c.unit_at.result c.loop-x.invariant c.in_ok-push.ensures.items one

pub returns : goal.returns
returns c =
    let s = c.args.slots.now in
    let last : c.loop-x.x ≡ length s.arch.now.units = omega (arith, ap length c.units-unit-items.ensures.units) in
    c.new.ensures ∙ c.loop-x.invariant ∙ ap (λ n. map (fields_there s.format s.arch.now (bits_of_bytes s.body.now) c.args.slot) (range_with_len 0 n)) last
