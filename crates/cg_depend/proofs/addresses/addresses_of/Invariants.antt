use Rattle.std.proofs.Common.{◌≡◌, ◌<◌, ℕ, length, None}
use Rattle.std.specs.Prelude.{option_map, slice_index_or}
use Rattle.cg_depend.specs.Affine.{address_pair}
use Rattle.cg_depend.specs.Gathered.{pair_in}
use Rattle.cg_depend.proofs.addresses.addresses_of.Given as goal

-- the nodes so far have theirs
abbrev pub invariant-loop-node : goal.invariant-loop-node
invariant-loop-node l = record {
  long : length l.addresses.items ≡ l.node;
  each : (v : ℕ) → v < l.node → option_map pair_in (slice_index_or l.addresses.items v None) ≡ address_pair l.kernel v;
}
