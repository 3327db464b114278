use Rattle.std.proofs.Common.{codes, sym, ◌∙◌, ap}
use Rattle.cg_c_syntax.specs.Pieces.{begins}
use Rattle.cg_c_reader.proofs.Sounding.{rest_is, closed_on}
use Rattle.cg_c_reader.proofs.comments.closed_length.Goals as goal

pub loop-place-preserved : goal.loop-place-preserved
loop-place-preserved c =
    closed_on c.args.bytes.now c.loop-place.place c.loop-place-test.true c.loop-place.invariant (ap (begins (codes "*/")) (sym (rest_is c.loop-place.place c.args.bytes.now)) ∙ sym c.if-begins.ensures.value)
