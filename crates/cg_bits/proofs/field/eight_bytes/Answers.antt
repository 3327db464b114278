use Rattle.std.proofs.Common.{◌∙◌, arith}
use Rattle.cg_bits.proofs.Bitwise.{eight_are}
use Rattle.cg_bits.proofs.field.eight_bytes.Goals as goal

pub returns : goal.returns
returns c = c.from_be_bytes.ensures ∙ eight_are c.args.bytes.now c.requires (λ i. omega (arith, c.type_inv.bytes i))
