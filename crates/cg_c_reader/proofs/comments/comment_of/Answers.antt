use Rattle.std.proofs.Common.{◌<◌, length, sym, ◌∙◌, ap, arith}
use Rattle.cg_c_syntax.specs.Pieces.{is_foul}
use Rattle.cg_c_reader.proofs.Sounding.{rest_is, sound_on}
use Rattle.cg_c_reader.proofs.comments.comment_of.Goals as goal

pub loop-place-preserved : goal.loop-place-preserved
loop-place-preserved c =
    let within : c.loop-place.place < length c.args.bytes.now = omega arith in
    sound_on c.args.one_line c.args.bytes.now c.loop-place.place within c.loop-place.invariant (ap (is_foul c.args.one_line) (sym (rest_is c.loop-place.place c.args.bytes.now)) ∙ sym c.if-is_foul.ensures)
