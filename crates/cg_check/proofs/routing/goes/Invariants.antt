use Rattle.std.proofs.Common.{◌≡◌, ◌+◌, ◌≤◌, drop}
use Rattle.cg_check.specs.Rules.{goes}
use Rattle.cg_check.proofs.routing.goes.Given as goal

abbrev pub invariant-loop-next : goal.invariant-loop-next
invariant-loop-next l =
    (goes l.arch l.at l.now (drop l.next-index l.path) l.«end».resource l.«end».time ≡ goes l.arch l.fn.start.resource l.fn.start.time l.path l.«end».resource l.«end».time) × (l.now ≤ l.fn.start.time + l.next-index)
