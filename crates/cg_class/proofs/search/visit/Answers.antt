use Rattle.std.proofs.Common.{refl, sym, ap, ◌∙◌, arith}
use Rattle.cg_word.specs.Sets.{among}
use Rattle.cg_class.proofs.Sets.{with_from, op_read}
use Rattle.cg_class.proofs.Visits.{visit_same, visit_spread, visit_to, visit_over}
use Rattle.cg_class.proofs.search.visit.Goals as goal
use Rattle.cg_class.proofs.search.visit.Goals.{then-places-other+then-not-has+in_ok-spread, else-places-other, else-places-other-via-then-places-other+else-not-has, else-places-other-via-else-places-other}

pub loop-other-preserved : goal.loop-other-preserved
loop-other-preserved c =
    let nodes = c.args.placed.nodes.now in
    let units = c.args.placed.units.now in
    let places = c.args.placed.places.now in
    let h = c.args.number in
    let i = c.loop-other.invariant in
    let x = c.index.result.now.unit in
    elim c.if-places-other.branch [
      | then-places-other+then-not-has+in_ok-spread w ↦
          visit_spread nodes units c.args.placed.ii places c.loop-other.log.items w.spread.new.log.items c.if-places-other.log.items c.loop-other.seen c.loop-other.seen w.spread.new.seen c.if-places-other.seen
          c.loop-other.done w.with-done.result c.if-places-other.done h x c.loop-other.other (omega arith) i w.in_ok-spread.ensures refl
          (with_from _ c.loop-other.done _ _ _ w.with-done.ensures.has refl (op_read nodes c.loop-other.other w.index-nodes-other-then-not-has.result (omega arith)))
          (ap (λ z. z.items) w.log-is) w.seen-is w.done-is
      | else-places-other w ↦
          visit_to nodes units c.args.placed.ii places c.loop-other.log.items c.if-places-other.log.items c.loop-other.seen c.if-places-other.seen c.loop-other.done c.if-places-other.done h x _
          (visit_same nodes units c.args.placed.ii places c.loop-other.log.items c.loop-other.seen c.loop-other.done h x c.loop-other.other i
          (λ e. elim w.else-places-other.branch [
            | else-places-other-via-then-places-other+else-not-has v ↦ ap (among c.loop-other.done) (sym (op_read nodes c.loop-other.other v.index-nodes-other.result (omega arith))) ∙ sym v.has.ensures ∙ v.if-not-has.false
            | else-places-other-via-else-places-other v ↦ absurd (v.if-places-other.false e)
          ]))
          (ap (λ z. z.items) w.log-is) w.seen-is w.done-is
    ]

pub returns : goal.returns
returns c =
    visit_over c.args.placed.nodes.now c.args.placed.units.now c.args.placed.ii c.args.placed.places.now c.loop-other.log.items c.loop-other.seen c.loop-other.done c.args.number c.index.result.now.unit c.loop-other.other c.loop-other.invariant (omega arith)
