use Rattle.std.proofs.Common.{sym, ap, ◌∙◌, arith}
use Rattle.std.proofs.lemmas.Bool.{false≢true}
use Rattle.cg_class.proofs.Sets.{has_read}
use Rattle.cg_class.proofs.Moves.{stage_same, stage_pushed, stage_to}
use Rattle.cg_class.proofs.search.spread.Goals as goal
use Rattle.cg_class.proofs.search.spread.Goals.{then-has+then-not-seen-target+in_ok-push, else-has, else-has-via-then-has+else-not-seen-target, else-has-via-else-has}

pub loop-target-preserved : goal.loop-target-preserved
loop-target-preserved c =
    let nodes = c.args.placed.nodes.now in
    let units = c.args.placed.units.now in
    let places = c.args.placed.places.now in
    let log0 = c.args.log.now.items in
    let seen0 = c.args.seen.now in
    let i = c.loop-target.invariant in
    let read = has_read nodes units c.args.node c.loop-target.target c.index-nodes-node.result c.index-units-target.result c.requires.node c.loop-target-test.true in
    elim c.if-has.branch [
      | then-has+then-not-seen-target+in_ok-push w ↦
          stage_pushed nodes units places log0 seen0 c.args.node c.loop-target.log.items c.if-has.log.items c.loop-target.seen c.if-has.seen c.loop-target.target w.unwrap_or.result w.len-at.result c.args.before i c.requires.from
          c.loop-target-test.true (sym read ∙ sym c.has.ensures ∙ w.if-has.true) w.if-not-seen-target.true (ap (λ z. z.items) w.log-is ∙ w.in_ok-push.ensures.items) w.unwrap_or.ensures (omega arith) w.seen-is
      | else-has w ↦
          stage_to nodes units places log0 seen0 c.args.node c.loop-target.log.items c.if-has.log.items c.loop-target.seen c.if-has.seen _
          (stage_same nodes units places log0 seen0 c.args.node c.loop-target.log.items c.loop-target.seen c.loop-target.target i
          (λ h. elim w.else-has.branch [
            | else-has-via-then-has+else-not-seen-target v ↦ v.if-not-seen-target.false
            | else-has-via-else-has v ↦ absurd (false≢true (sym v.if-has.false ∙ c.has.ensures ∙ read ∙ h))
          ]))
          (ap (λ z. z.items) w.log-is) w.seen-is
    ]
