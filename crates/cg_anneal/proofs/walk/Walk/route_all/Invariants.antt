use Rattle.std.proofs.Common.{take, drop}
use Rattle.cg_walk_spec.specs.Pending.{Pending}
use Rattle.cg_anneal.specs.Walking.{IsRoutedBy}
use Rattle.cg_anneal.proofs.walk.Walk.route_all.Given as goal

abbrev pub invariant-loop-i : goal.invariant-loop-i
invariant-loop-i l = record {
  routed : IsRoutedBy (take l.i-index l.list) l.fn.self l.self;
  pending : Pending (drop l.i-index l.list) l.self.state;
}
