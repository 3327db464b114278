use Rattle.std.proofs.Common.{◌+◌, ◌*◌, ◌≤◌}
use Rattle.std.specs.Prelude.{flat_map}
use Rattle.std.specs.List.{range_with_len}
use Rattle.cg_depend.specs.Depend.{asks_of}
use Rattle.cg_depend.specs.Gathered.{Answers}
use Rattle.cg_depend.proofs.gather.add_row.Given as goal

-- the nodes so far were asked about
abbrev pub invariant-loop-v : goal.invariant-loop-v
invariant-loop-v l = record {
  answers : Answers l.accesses (flat_map (asks_of l.accesses l.u) (range_with_len 0 l.v)) l.fn.needed l.needed;
  few : l.needed.total ≤ l.fn.needed.total + 2 * l.v;
}
