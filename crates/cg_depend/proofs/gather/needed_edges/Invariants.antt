use Rattle.std.proofs.Common.{◌+◌, ◌*◌, ◌≤◌}
use Rattle.std.specs.Prelude.{flat_map}
use Rattle.std.specs.List.{range_with_len}
use Rattle.cg_model.specs.Kernel.{size}
use Rattle.cg_depend.specs.Depend.{asks_of}
use Rattle.cg_depend.specs.Gathered.{IsGathered}
use Rattle.cg_depend.proofs.gather.needed_edges.Given as goal

-- the rows of the nodes so far were asked
abbrev pub invariant-loop-u : goal.invariant-loop-u
invariant-loop-u l = record {
  gathered : IsGathered l.kernel (flat_map (λ u. flat_map (asks_of l.kernel u) (range_with_len 0 (size l.kernel))) (range_with_len 0 l.u)) l.needed;
  few : l.needed.total ≤ 4096 + 2048 * l.u;
}
