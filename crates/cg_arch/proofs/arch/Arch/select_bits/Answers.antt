use Rattle.std.proofs.Common.{◌∙◌, ap, sym, subst, arith, length}
use Rattle.cg_model.specs.Array.{resource}
use Rattle.cg_flat.specs.Slots.{IsWidth, select_bits}
use Rattle.cg_flat.proofs.Widths.{is_width}
use Rattle.cg_arch.proofs.Starts.{select_long, select_between}
use Rattle.cg_arch.proofs.arch.Arch.select_bits.Goals as goal

pub bounds-starts-place : goal.bounds-starts-place
bounds-starts-place c =
    let same = ap length (c.as_slice-starts.ensures ∙ c.self.invariant.selects_are) in
    let long = select_long c.self.inside.flat in
    let view = ap (λ A. length A.resources) c.self.view_is in
    let inside = c.requires in
    omega (arith, same, long, view, inside)

pub bounds-starts-place-2 : goal.bounds-starts-place-2
bounds-starts-place-2 c =
    let same = ap length (c.as_slice-starts.ensures ∙ c.self.invariant.selects_are) in
    let long = select_long c.self.inside.flat in
    let view = ap (λ A. length A.resources) c.self.view_is in
    let inside = c.requires in
    omega (arith, same, long, view, inside)

pub overflow_sub-result : goal.overflow_sub-result
overflow_sub-result c =
    let view = ap (λ A. length A.resources) c.self.view_is in
    let inside = c.requires in
    (select_between c.self.inside.flat c.args.resource _ (c.as_slice-starts.ensures ∙ c.self.invariant.selects_are) (omega (arith, view, inside))).0

pub returns-clause-value : goal.returns-clause-value
returns-clause-value c =
    let view = ap (λ A. length A.resources) c.self.view_is in
    let inside = c.requires in
    (select_between c.self.inside.flat c.args.resource _ (c.as_slice-starts.ensures ∙ c.self.invariant.selects_are) (omega (arith, view, inside))).1 ∙ ap (λ A. select_bits A c.args.resource) c.self.view_is

pub returns-clause-least : goal.returns-clause-least
returns-clause-least c =
    let view = ap (λ A. length A.resources) c.self.view_is in
    let inside = c.requires in
    let A = c.args.self.now in
    let is = (select_between c.self.inside.flat c.args.resource _ (c.as_slice-starts.ensures ∙ c.self.invariant.selects_are) (omega (arith, view, inside))).1 ∙ ap (λ A. select_bits A c.args.resource) c.self.view_is in
    subst (IsWidth (length (resource A c.args.resource).drivers)) (sym is) (is_width (length (resource A c.args.resource).drivers))
