use Rattle.std.proofs.Common.{sym, ◌∙◌}
use Rattle.cg_violations.proofs.Named.{meeting}
use Rattle.cg_check.proofs.Lists.{first_below_start, first_below_next, first_below_returned}
use Rattle.cg_violations.proofs.meeting.first_meeting.Goals as goal

pub loop-earlier-init : goal.loop-earlier-init
loop-earlier-init c = first_below_start (meeting c.args.mapping.now c.args.node)

pub returns-then-is_some : goal.returns-then-is_some
returns-then-is_some c =
    first_below_returned (meeting c.args.mapping.now c.args.node) c.args.node c.loop-earlier.earlier c.meeting_at-found.result c.loop-earlier-test.true c.loop-earlier.invariant c.meeting_at-found.ensures (sym c.is_some.ensures ∙ c.if-is_some.true)

pub loop-earlier-preserved : goal.loop-earlier-preserved
loop-earlier-preserved c =
    first_below_next (meeting c.args.mapping.now c.args.node) c.loop-earlier.earlier c.meeting_at-found.result c.loop-earlier.invariant c.meeting_at-found.ensures (sym c.is_some.ensures ∙ c.if-is_some.false)
