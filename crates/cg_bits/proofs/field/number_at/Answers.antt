use Rattle.std.proofs.Common.{◌+◌, ◌/◌, ap, sym, ◌∙◌, arith}
use Rattle.cg_bits.specs.Numbers.{number_after, number_at, bits_of_bytes}
use Rattle.cg_bits.proofs.Bitwise.{field_is}
use Rattle.cg_bits.proofs.field.number_at.Goals as goal

pub returns-then-width-eq0 : goal.returns-then-width-eq0
unfolding number_after
returns-then-width-eq0 c = sym (ap (number_at (bits_of_bytes c.args.bytes.now) c.args.place) c.if-width-eq0.true)

pub returns-then-first-bytes : goal.returns-then-first-bytes
returns-then-first-bytes c =
    let place = c.args.place in
    let width = c.args.width in
    c.cut.ensures ∙ field_is c.args.bytes.now place width c.eight_bytes-word.result (place / 8 + 8) (let narrow = c.requires.narrow in omega arith) (let there = c.if-first-bytes.true in omega arith) c.eight_bytes-word.ensures

pub returns : goal.returns
returns c =
    let place = c.args.place in
    let width = c.args.width in
    c.cut-2.ensures ∙ field_is c.args.bytes.now place width c.few_bytes.result ((place + width + 7) / 8) (omega arith) (let inside = c.requires.inside in omega arith) c.few_bytes.ensures
