use Rattle.std.proofs.Common.{◌≡◌, None}
use Rattle.cg_check.specs.Rules.{first_below}
use Rattle.cg_violations.proofs.Named.{meeting}
use Rattle.cg_violations.proofs.meeting.first_meeting.Given as goal

abbrev pub invariant-loop-earlier : goal.invariant-loop-earlier
invariant-loop-earlier l = first_below (meeting l.mapping l.node) l.earlier ≡ None
