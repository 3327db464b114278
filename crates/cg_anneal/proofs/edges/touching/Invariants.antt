use Rattle.std.proofs.Common.{◌≡◌}
use Rattle.std.specs.Prelude.{filter}
use Rattle.std.specs.List.{range_with_len}
use Rattle.cg_anneal.specs.Edges.{touches_in}
use Rattle.cg_anneal.proofs.edges.touching.Given as goal

abbrev pub invariant-loop-i : goal.invariant-loop-i
invariant-loop-i l = l.numbers.items ≡ filter (touches_in l.edges l.node) (range_with_len 0 l.i)
