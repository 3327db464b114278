use Rattle.std.proofs.Common.{◌≡◌, drop}
use Rattle.std.specs.Prelude.{not}
use Rattle.cg_model.specs.First.{first_from}
use Rattle.cg_check.specs.Rules.{stands_well}
use Rattle.cg_check.proofs.placing.misplaced.Given as goal

abbrev pub invariant-loop-node : goal.invariant-loop-node
invariant-loop-node l = first_from (λ v p. not (stands_well l.arch l.kernel v p)) l.node (drop l.node l.mapping.places) ≡ first_from (λ v p. not (stands_well l.arch l.kernel v p)) 0 l.mapping.places
