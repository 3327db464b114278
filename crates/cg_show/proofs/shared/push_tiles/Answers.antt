use Rattle.std.proofs.Common.{◌≡◌, ◌++◌, ◌∙◌, ap, length, arith}
use Rattle.cg_layout.specs.Layout.{frame_of, seat}
use Rattle.cg_show.specs.Panels.{frame_text, chip_text, tile_part, tiles_text}
use Rattle.cg_show.proofs.Steps.{joined, unbegun, grown, ended}
use Rattle.cg_show.proofs.shared.push_tiles.Goals as goal

pub loop-resource-init : goal.loop-resource-init
loop-resource-init c = unbegun _ _

pub loop-resource-preserved : goal.loop-resource-preserved
loop-resource-preserved c =
    let A = c.args.layout.now in
    let r = c.loop-resource.resource in
    let old = c.loop-resource.text.items in
    grown (tile_part A) _ _ _ _ c.loop-resource.invariant
    (joined old (frame_text A (frame_of A) r) c.push_frame.new.text.items c.push_chip.new.text.items (chip_text (seat A (frame_of A) r)) c.in_ok-push_frame.ensures
    (c.in_ok-push_chip.ensures ∙ ap (λ z. c.push_frame.new.text.items ++ chip_text z) c.seat.ensures))

pub returns : goal.returns
unfolding tiles_text
returns c =
    let all = ap length (c.resources-resource-end.ensures.resources ∙ ap (λ z. z.resources) c.arch.ensures) in
    let last : c.loop-resource.resource ≡ length c.args.layout.now.resources = omega (arith, all) in
    ended (tile_part c.args.layout.now) _ _ _ _ c.loop-resource.invariant last
