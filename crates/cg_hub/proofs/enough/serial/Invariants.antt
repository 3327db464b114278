use Rattle.std.proofs.Common.{◌≡◌, ℕ, ◌*◌, ◌<◌, ◌≤◌, length}
use Rattle.cg_model.specs.Kernel.{node}
use Rattle.cg_place.specs.Placed.{offering}
use Rattle.cg_hub.specs.Hub.{start}
use Rattle.cg_hub.proofs.enough.serial.Given as goal

abbrev pub invariant-loop-v : goal.invariant-loop-v
invariant-loop-v l = record {
  sum : l.sum ≡ start l.arch l.kernel l.v;
  small : l.sum ≤ 5 * l.v;
  offered : (v : ℕ) → v < l.v → 0 < length (offering l.arch (node l.kernel v).op);
}
