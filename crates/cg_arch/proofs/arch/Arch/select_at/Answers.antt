use Rattle.std.proofs.Common.{◌+◌, ◌<◌, ◌∙◌, ap, arith, length, get_or}
use Rattle.cg_flat.specs.Slots.{select_at}
use Rattle.cg_arch.proofs.Starts.{select_long, select_get}
use Rattle.cg_arch.proofs.arch.Arch.select_at.Goals as goal

pub bounds-as_slice-resource : goal.bounds-as_slice-resource
bounds-as_slice-resource c =
    let A = c.self.inside.flat in
    let same = ap length (c.as_slice.ensures ∙ c.self.invariant.selects_are) in
    let long = select_long A in
    let view = ap (λ A. length A.resources) c.self.view_is in
    let inside = c.requires in
    omega (arith, same, long, view, inside)

pub returns : goal.returns
returns c =
    let A = c.self.inside.flat in
    let r = c.args.resource in
    let view = ap (λ A. length A.resources) c.self.view_is in
    let inside = c.requires in
    let within : r < length A.resources + 1 = omega (arith, view, inside) in
    ap (λ xs. get_or xs r 0) (c.as_slice.ensures ∙ c.self.invariant.selects_are) ∙ select_get A r within ∙ ap (λ A. select_at A r) c.self.view_is
