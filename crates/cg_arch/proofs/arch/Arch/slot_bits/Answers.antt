use Rattle.std.proofs.Common.{◌≡◌, ◌∙◌, ap, sym, arith, length, get_or}
use Rattle.cg_flat.specs.Slots.{slot_bits, all_unit_at}
use Rattle.cg_arch.proofs.Starts.{unit_long, unit_get}
use Rattle.cg_arch.proofs.arch.Arch.slot_bits.Goals as goal

pub bounds-as_slice-units : goal.bounds-as_slice-units
bounds-as_slice-units c =
    let A = c.self.inside.flat in
    let same = ap length (c.as_slice.ensures ∙ c.self.invariant.units_are) in
    let long = unit_long A in
    let view = ap (λ A. length A.units) c.self.view_is in
    let units = ap length c.units-units.ensures.units in
    omega (arith, same, long, view, units)

pub returns : goal.returns
returns c =
    let A = c.self.inside.flat in
    let count : length c.units-units.result.now ≡ length A.units = ap length c.units-units.ensures.units ∙ ap (λ A. length A.units) (sym c.self.view_is) in
    ap (λ xs. get_or xs (length c.units-units.result.now) 0) (c.as_slice.ensures ∙ c.self.invariant.units_are)
    ∙ ap (λ n. get_or (all_unit_at A) n 0) count
    ∙ unit_get A (length A.units) (omega arith)
    ∙ ap slot_bits c.self.view_is
