use Rattle.std.proofs.Common.{◌≡◌, ◌+◌, ◌*◌, ◌-◌, length, ◌∙◌, arith}
use Rattle.cg_bits.specs.Format.{slot_len}
use Rattle.cg_bits.proofs.Places.{unit_at_is}
use Rattle.cg_bits.proofs.header.slot_len.Goals as goal

pub overflow_sub-result-2 : goal.overflow_sub-result-2
overflow_sub-result-2 c =
    let F = c.args.format in
    let A = c.args.arch.now in
    let e : c.slot_bits.result ≡ slot_len F A + length A.units * (6 - F.op_bits) = c.slot_bits.ensures ∙ unit_at_is F A (length A.units) c.requires.narrow in
    rw (e, c.units.ensures.units) (omega arith)

pub returns-clause-value : goal.returns-clause-value
returns-clause-value c =
    let F = c.args.format in
    let A = c.args.arch.now in
    let e : c.slot_bits.result ≡ slot_len F A + length A.units * (6 - F.op_bits) = c.slot_bits.ensures ∙ unit_at_is F A (length A.units) c.requires.narrow in
    rw (e, c.units.ensures.units) (omega arith)
