use Rattle.std.proofs.Common.{◌≡◌, ◌+◌, ◌∙◌, sym, ap, length, arith}
use Rattle.cg_show.specs.Panels.{panel_text, shown}
use Rattle.cg_show.proofs.Steps.{grown_alone, begun}
use Rattle.cg_show.proofs.Shown.{size_is, all_shown, some_shown}
use Rattle.cg_show.proofs.panels.panels.Goals as goal

pub loop-slot-init : goal.loop-slot-init
loop-slot-init c =
    let none = ap length c.new-text.ensures.items in
    (c.new-text.ensures.items ∙ sym (begun (panel_text c.args.marks.now)), omega (arith, none))

pub loop-slot-preserved : goal.loop-slot-preserved
loop-slot-preserved c =
    let full = c.len.ensures in
    (grown_alone (panel_text c.args.marks.now) c.loop-slot.slot _ _ c.loop-slot.invariant.0 c.in_ok-push_panel.ensures, omega (arith, full))

pub returns-then-len-room-clause-count : goal.returns-then-len-room-clause-count
returns-then-len-room-clause-count c =
    let m = c.args.marks.now in
    let room = c.args.room in
    let n = c.loop-slot.slot in
    let is = c.slots-ii.ensures.value in
    let full = c.len.ensures in
    let before = ap length c.loop-slot.invariant.0 ∙ size_is m n in
    let after = ap length (grown_alone (panel_text m) n _ _ c.loop-slot.invariant.0 c.in_ok-push_panel.ensures) ∙ size_is m (n + 1) in
    let least = c.loop-slot.invariant.1 in
    sym (some_shown m room n m.mapping.ii (omega (arith, is)) (omega (arith, before, least)) (omega (arith, after, full)))

pub returns-clause-count : goal.returns-clause-count
returns-clause-count c =
    let m = c.args.marks.now in
    let room = c.args.room in
    let n = c.loop-slot.slot in
    let is = c.slots-ii.ensures.value in
    let before = ap length c.loop-slot.invariant.0 ∙ size_is m n in
    let least = c.loop-slot.invariant.1 in
    let all : shown m room n ≡ n = all_shown m room n (omega (arith, before, least)) in
    let last : n ≡ m.mapping.ii = omega (arith, is) in
    is ∙ sym last ∙ sym all ∙ ap (shown m room) last
