use Rattle.std.proofs.Common.{◌+◌, ◌<◌, ◌∙◌, ap, arith, length, get_or}
use Rattle.cg_flat.specs.Slots.{unit_at}
use Rattle.cg_arch.proofs.Starts.{unit_long, unit_get}
use Rattle.cg_arch.proofs.arch.Arch.unit_at.Goals as goal

pub bounds-as_slice-unit : goal.bounds-as_slice-unit
bounds-as_slice-unit c =
    let A = c.self.inside.flat in
    let same = ap length (c.as_slice.ensures ∙ c.self.invariant.units_are) in
    let long = unit_long A in
    let view = ap (λ A. length A.units) c.self.view_is in
    let inside = c.requires in
    omega (arith, same, long, view, inside)

pub returns : goal.returns
returns c =
    let A = c.self.inside.flat in
    let x = c.args.unit in
    let view = ap (λ A. length A.units) c.self.view_is in
    let inside = c.requires in
    let within : x < length A.units + 1 = omega (arith, view, inside) in
    ap (λ xs. get_or xs x 0) (c.as_slice.ensures ∙ c.self.invariant.units_are) ∙ unit_get A x within ∙ ap (λ A. unit_at A x) c.self.view_is
