use Rattle.cg_simplify.proofs.Likeness.{taken_like}
use Rattle.std.proofs.Common.{refl}
use Rattle.cg_simplify.proofs.merging.first_of_text.Goals as goal

pub returns-then-may_take : goal.returns-then-may_take
returns-then-may_take c =
    taken_like c.args.joins.now c.requires.valid c.args.counted.now c.requires.counted c.in-Some.m c.args.number c.requires.inside c.requires.counted_earlier c.in-Some.ensures (c.if-may_take.ensures refl)
