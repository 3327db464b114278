use Rattle.std.proofs.Common.{◌≡◌, ℕ, ◌<◌, length}
use Rattle.std.specs.Prelude.{slice_index}
use Rattle.cg_model.specs.Array.{unit}
use Rattle.cg_origins.proofs.indexed.owners_of.Given as goal

abbrev pub invariant-loop-x : goal.invariant-loop-x
invariant-loop-x l = record {
  long : length l.owners.items ≡ length l.arch.resources;
  each : (x : ℕ) → x < l.x → slice_index l.owners.items (unit l.arch x).out ≡ x;
}
