use Rattle.std.proofs.Common.{◌≡◌, true}
use Rattle.cg_recur.specs.Log.{IsLog, IsShallow, IsSettled, AreSlack}
use Rattle.cg_recur.proofs.rounds.make_rounds.Given as goal

abbrev pub invariant-loop-r : goal.invariant-loop-r
invariant-loop-r l = IsLog l.edges l.ii l.nodes l.log.items l.last.items × IsShallow l.nodes l.log.items × IsSettled l.edges l.ii l.r 0 l.log.items l.last.items

abbrev pub invariant-loop-e : goal.invariant-loop-e
invariant-loop-e l = IsLog l.edges l.ii l.nodes l.log.items l.last.items × IsShallow l.nodes l.log.items × IsSettled l.edges l.ii l.r l.e l.log.items l.last.items × (l.quiet ≡ true → AreSlack l.edges l.ii l.e l.log.items l.last.items)
