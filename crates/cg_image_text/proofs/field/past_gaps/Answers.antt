use Rattle.std.proofs.Common.{◌≡◌, ◌+◌, get_or, drop, ◌∷◌, sym, ◌∙◌, arith}
use Rattle.std.proofs.lemmas.List.{drop_more}
use Rattle.cg_image_text.proofs.Cutting.{rest_is, gap_cut}
use Rattle.cg_image_text.proofs.field.past_gaps.Goals as goal

pub loop-place-preserved : goal.loop-place-preserved
loop-place-preserved c =
    let bytes = c.args.bytes.now in
    let place = c.loop-place.place in
    let b = get_or bytes place 0 in
    let cut : drop place bytes ≡ b ∷ drop (place + 1) bytes = drop_more bytes place 0 c.loop-place-test.true in
    record {
      same = gap_cut bytes place b _ (drop (place + 1) bytes) cut (sym c.is_solid.ensures ∙ c.if-not-is_solid.true) (c.gap_length-place.ensures.count b (drop (place + 1) bytes) (rest_is place bytes ∙ cut)) ∙ c.loop-place.invariant.same;
      on = omega arith;
    }
