use Rattle.std.proofs.Common.{◌+◌, length, get_or, sym, ap, ◌∙◌, arith}
use Rattle.cg_flat.specs.Slots.{select_at}
use Rattle.cg_bits.specs.Numbers.{number_at, bits_of_bytes}
use Rattle.cg_view.specs.Slot.{Slot}
use Rattle.cg_view.proofs.Located.{many_selects, select_there, select_within}
use Rattle.cg_view.proofs.context_view.ContextView.select.Goals as goal

pub select_at-requires : goal.select_at-requires
select_at-requires c =
    let many = many_selects c.self.inside.arch.now (bits_of_bytes c.self.inside.body.now) c.self.inside.at in
    let same = ap (λ (s : Slot). length s.selects) c.self.view_is in
    let r = c.requires in
    omega arith

pub select_bits-requires : goal.select_bits-requires
select_bits-requires c =
    let many = many_selects c.self.inside.arch.now (bits_of_bytes c.self.inside.body.now) c.self.inside.at in
    let same = ap (λ (s : Slot). length s.selects) c.self.view_is in
    let r = c.requires in
    omega arith

pub number_at-requires-clause-narrow : goal.number_at-requires-clause-narrow
number_at-requires-clause-narrow c =
    let many = many_selects c.self.inside.arch.now (bits_of_bytes c.self.inside.body.now) c.self.inside.at in
    let same = ap (λ (s : Slot). length s.selects) c.self.view_is in
    let r = c.requires in
    rw c.select_bits.ensures.value (c.self.invariant.narrow c.args.resource (omega arith))

pub number_at-requires-clause-inside : goal.number_at-requires-clause-inside
number_at-requires-clause-inside c =
    let many = many_selects c.self.inside.arch.now (bits_of_bytes c.self.inside.body.now) c.self.inside.at in
    let same = ap (λ (s : Slot). length s.selects) c.self.view_is in
    let r = c.requires in
    let within = select_within c.self.inside.arch.now c.args.resource (omega arith) in
    let inside = c.self.invariant.inside in
    rw (c.select_bits.ensures.value, c.select_at.ensures) (omega arith)

pub returns : goal.returns
returns c =
    let A = c.self.inside.arch.now in
    let bits = bits_of_bytes c.self.inside.body.now in
    let at = c.self.inside.at in
    let many = many_selects A bits at in
    let same = ap (λ (s : Slot). length s.selects) c.self.view_is in
    let r = c.requires in
    c.number_at.ensures ∙ ap (λ z. number_at bits (at + z) c.select_bits.result) c.select_at.ensures ∙ ap (number_at bits (at + select_at A c.args.resource)) c.select_bits.ensures.value
    ∙ sym (select_there A bits at c.args.resource (omega arith)) ∙ ap (λ (s : Slot). get_or s.selects c.args.resource 0) c.self.view_is
