use Rattle.std.proofs.Common.{◌≡◌, ℕ, ◌<◌, length}
use Rattle.std.specs.Prelude.{slice_index}
use Rattle.cg_simplify.specs.Merging.{target}
use Rattle.cg_simplify.proofs.merging.moved_twice.Given as goal

abbrev pub invariant-loop-number : goal.invariant-loop-number
invariant-loop-number l = record {
  long : length l.into.items ≡ l.number;
  each : (v : ℕ) → v < l.number → slice_index l.into.items v ≡ target l.like l.index (target l.like l.index v);
}
