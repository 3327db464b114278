use Rattle.std.proofs.Common.{◌≡◌, ℕ, ◌≤◌, length, take, drop, get_or, None}
use Rattle.cg_walk_spec.specs.Pending.{Pending}
use Rattle.cg_anneal.specs.Walking.{at_state}
use Rattle.cg_anneal.specs.Steps.{put_back}
use Rattle.cg_anneal.proofs.walk.Walk.put_all.Given as goal

abbrev pub invariant-loop-k : goal.invariant-loop-k
invariant-loop-k l = record {
  each : length l.left.items ≡ length l.list;
  left : (j : ℕ) → l.k ≤ j → get_or l.left.items j None ≡ get_or l.fn.routes.items j None;
  now : l.self ≡ at_state l.fn.self (put_back (take l.k l.list) (take l.k l.fn.routes.items) l.fn.self.state);
  pending : Pending (drop l.k l.list) l.self.state;
}
