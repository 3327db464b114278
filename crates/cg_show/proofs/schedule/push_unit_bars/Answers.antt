use Rattle.std.proofs.Common.{◌≡◌, ◌++◌, ◌∙◌, ap, arith}
use Rattle.cg_show.specs.Schedule.{bar_in}
use Rattle.cg_show.proofs.Steps.{unbegun, grown, ended, unchanged}
use Rattle.cg_show.proofs.Rows.{bar_shown, bar_hidden}
use Rattle.cg_show.proofs.schedule.push_unit_bars.Goals as goal
use Rattle.cg_show.proofs.schedule.push_unit_bars.Goals.{in-Some+in_ok-push_bar, in_default}

pub loop-slot-init : goal.loop-slot-init
loop-slot-init c = unbegun (bar_in c.args.marks.now c.args.unit c.args.top) c.args.text.now.items

pub loop-slot-preserved : goal.loop-slot-preserved
loop-slot-preserved c =
    let m = c.args.marks.now in
    let x = c.args.unit in
    let top = c.args.top in
    let s = c.loop-slot.slot in
    let base = c.args.text.now.items in
    let old = c.loop-slot.text.items in
    elim c.match-start.branch [
      | in-Some+in_ok-push_bar w ↦
          grown (bar_in m x top) s base old _ c.loop-slot.invariant
          (ap (λ z. z.items) w.text-is ∙ w.in_ok-push_bar.ensures ∙ ap (λ z. old ++ z) (bar_shown m x top s w.in-Some.node c.start.result c.start.ensures w.in-Some.is))
      | in_default w ↦
          unchanged (bar_in m x top) s base old _ c.loop-slot.invariant (bar_hidden m x top s c.start.result c.start.ensures w.in_default.is) (ap (λ z. z.items) w.text-is)
    ]

pub returns : goal.returns
returns c =
    let m = c.args.marks.now in
    let ii = c.ii-slot-end.ensures ∙ ap (λ z. z.ii) c.mapping.ensures.mapping in
    let last : c.loop-slot.slot ≡ m.mapping.ii = omega (arith, ii) in
    ended (bar_in m c.args.unit c.args.top) _ m.mapping.ii _ _ c.loop-slot.invariant last
