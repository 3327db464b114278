use Rattle.std.proofs.Common.{◌≡◌, ◌+◌, length}
use Rattle.cg_map.specs.Tried.{AreLeft}
use Rattle.cg_map.proofs.answering.tried.Given as goal

abbrev pub invariant-loop-ii : goal.invariant-loop-ii
invariant-loop-ii g l = AreLeft l.arch l.kernel l.request.seed l.request.moves l.first l.costs.items × (l.first + length l.costs.items ≡ l.ii)
