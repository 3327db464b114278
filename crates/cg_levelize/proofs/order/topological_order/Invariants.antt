use Rattle.std.proofs.Common.{◌≡◌, ◌≢◌, ℕ, ◌<◌, []}
use Rattle.cg_levelize.specs.declared.walk.Mark.TheVariants.{New}
use Rattle.cg_levelize.specs.Walk.{mark, IsWalk}
use Rattle.cg_levelize.proofs.order.topological_order.Given as goal

abbrev pub invariant-loop-start : goal.invariant-loop-start
invariant-loop-start l =
    record {
      walk : IsWalk l.resources l.walk;
      no_path : l.walk.path.items ≡ [];
      met : (r : ℕ) → r < l.start → mark l.walk.marks.items r ≢ New;
    }
