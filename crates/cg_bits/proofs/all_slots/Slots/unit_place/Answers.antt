use Rattle.std.proofs.Common.{◌≡◌, ◌+◌, ◌-◌, ◌*◌, ◌∙◌, arith}
use Rattle.cg_bits.specs.Format.{unit_at}
use Rattle.cg_bits.proofs.Places.{unit_at_is, unit_inside}
use Rattle.cg_bits.proofs.all_slots.Slots.unit_place.Goals as goal

pub overflow_sub-result : goal.overflow_sub-result
overflow_sub-result c =
    let s = c.args.self.now in
    let e : c.unit_at.result ≡ unit_at s.format s.arch.now c.args.unit + c.args.unit * (6 - s.format.op_bits) = c.unit_at.ensures ∙ unit_at_is s.format s.arch.now c.args.unit s.fit.known.narrow in
    rw e (omega arith)

pub returns-clause-place : goal.returns-clause-place
returns-clause-place c =
    let s = c.args.self.now in
    let e : c.unit_at.result ≡ unit_at s.format s.arch.now c.args.unit + c.args.unit * (6 - s.format.op_bits) = c.unit_at.ensures ∙ unit_at_is s.format s.arch.now c.args.unit s.fit.known.narrow in
    rw (s.fit.len_is, e) (omega arith)

pub returns-clause-inside : goal.returns-clause-inside
returns-clause-inside c =
    let s = c.args.self.now in
    let e : c.unit_at.result ≡ unit_at s.format s.arch.now c.args.unit + c.args.unit * (6 - s.format.op_bits) = c.unit_at.ensures ∙ unit_at_is s.format s.arch.now c.args.unit s.fit.known.narrow in
    let h = unit_inside s.format s.arch.now c.args.unit c.args.slot s.ii c.requires.unit c.requires.slot in
    rw (s.fit.len_is, e) (omega arith)
