use Rattle.std.proofs.Common.{◌/◌, ◌%◌, ◌^◌, ap, arith}
use Rattle.std.proofs.lemmas.Nat.{one_shl}
use Rattle.cg_bits.proofs.field.cut.Goals as goal

pub returns : goal.returns
returns c = ap (λ z. c.args.word / 2 ^ c.args.behind % z) (one_shl c.args.width 64 (omega arith))
