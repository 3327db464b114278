use Rattle.std.proofs.Common.{◌≡◌, eqb}
use Rattle.cg_model.specs.First.{first_from}
use Rattle.cg_layout.proofs.Found.{first_after}
use Rattle.cg_layout.proofs.tiled.number_of.Given as goal

abbrev pub invariant-loop-number : goal.invariant-loop-number
invariant-loop-number l = first_from (λ p q. eqb q l.resource) 0 l.ports ≡ first_after (λ p q. eqb q l.resource) l.ports l.number
