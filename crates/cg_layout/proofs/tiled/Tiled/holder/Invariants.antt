use Rattle.std.proofs.Common.{◌≡◌}
use Rattle.cg_model.specs.First.{first_from}
use Rattle.cg_layout.specs.Layout.{holds}
use Rattle.cg_layout.proofs.Found.{first_after}
use Rattle.cg_layout.proofs.tiled.Tiled.holder.Given as goal

abbrev pub invariant-loop-number : goal.invariant-loop-number
invariant-loop-number l = first_from (λ x u. holds l.resource u) 0 l.unit-items ≡ first_after (λ x u. holds l.resource u) l.unit-items l.number
