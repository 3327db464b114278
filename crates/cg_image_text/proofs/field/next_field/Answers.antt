use Rattle.std.proofs.Common.{◌+◌, get_or, drop, ◌∷◌, ◌≡◌, sym, ◌∙◌}
use Rattle.std.proofs.lemmas.List.{drop_more}
use Rattle.cg_image_text.proofs.Cutting.{rest_is, next_cut}
use Rattle.cg_image_text.proofs.field.next_field.Goals as goal

pub returns-then-place-bytes-clause-next : goal.returns-then-place-bytes-clause-next
returns-then-place-bytes-clause-next c =
    let bytes = c.args.bytes.now in
    let place = c.past_gaps-place.result in
    let b = get_or bytes place 0 in
    let cut : drop place bytes ≡ b ∷ drop (place + 1) bytes = drop_more bytes place 0 c.if-place-bytes.true in
    sym c.past_gaps-place.ensures.same
    ∙ next_cut bytes place b (drop (place + 1) bytes) _ cut (c.past_gaps-place.ensures.solid c.if-place-bytes.true) (c.first_field.ensures.first b (drop (place + 1) bytes) (rest_is place bytes ∙ cut))
