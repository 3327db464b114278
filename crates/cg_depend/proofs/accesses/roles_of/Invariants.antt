use Rattle.std.proofs.Common.{◌≡◌, ◌<◌, ℕ, length}
use Rattle.std.specs.Prelude.{slice_index_or}
use Rattle.cg_model.specs.Kernel.{node}
use Rattle.cg_depend.specs.declared.accesses.Role.TheVariants.{Apart}
use Rattle.cg_depend.specs.Gathered.{role_of}
use Rattle.cg_depend.proofs.accesses.roles_of.Given as goal

-- the nodes so far have theirs
abbrev pub invariant-loop-number : goal.invariant-loop-number
invariant-loop-number l = record {
  long : length l.roles.items ≡ l.number;
  each : (v : ℕ) → v < l.number → slice_index_or l.roles.items v Apart ≡ role_of (node l.kernel v).op;
}
