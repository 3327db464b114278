use Rattle.std.proofs.Common.{◌≡◌}
use Rattle.cg_walk_spec.specs.Walk.{Walked}
use Rattle.cg_anneal.specs.Walking.{at_state}
use Rattle.cg_anneal.proofs.finding.make_moves.Given as goal

abbrev pub invariant-loop-k : goal.invariant-loop-k
invariant-loop-k g l = record {
  same : l.walk ≡ at_state l.initial.walk l.walk.state;
  walked : Walked l.initial.walk.arch l.initial.walk.kernel l.initial.walk.ii l.initial.walk.early l.fn.request.moves l.fn.request.seed l.k l.generator l.walk.state;
}
