use Rattle.std.proofs.Common.{◌<◌, get_or, refl, sym, ap, subst, ◌∙◌, arith}
use Rattle.std.proofs.lemmas.List.{take_all}
use Rattle.cg_bits.specs.Numbers.{number, number_after, bits_of_bytes}
use Rattle.cg_bits.proofs.Bitwise.{byte_step}
use Rattle.cg_bits.proofs.field.few_bytes.Goals as goal

pub loop-byte-init : goal.loop-byte-init
unfolding number_after
loop-byte-init c = refl

pub loop-byte-preserved : goal.loop-byte-preserved
loop-byte-preserved c =
    let items = c.args.bytes.now in
    let i = c.loop-byte.byte-index in
    let small : get_or items i 0 < 256 = omega (arith, c.type_inv.bytes i) in
    byte_step items i c.loop-byte.number c.from.result c.loop-byte-test.true c.requires c.from.ensures (subst (λ z. z < 256) (sym c.from.ensures) small) c.loop-byte.invariant

pub returns : goal.returns
returns c = c.loop-byte.invariant ∙ ap (λ z. number (bits_of_bytes z)) (take_all c.loop-byte.byte-index c.args.bytes.now c.loop-byte-test.false)
