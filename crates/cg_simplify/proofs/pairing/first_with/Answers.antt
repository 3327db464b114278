use Rattle.std.proofs.Common.{◌<◌, refl, arith}
use Rattle.cg_simplify.proofs.Paired.{paired_like}
use Rattle.cg_simplify.proofs.pairing.first_with.Goals as goal

pub returns-then-has_pair : goal.returns-then-has_pair
returns-then-has_pair c =
    let before : c.loop-m.m < c.args.number = c.loop-m-test.true in
    paired_like c.args.table.now c.args.number c.loop-m.m c.args.pair (omega arith) c.requires.paired (c.if-has_pair.ensures refl)
