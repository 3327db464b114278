use Rattle.std.proofs.Common.{◌≡◌, drop}
use Rattle.cg_model.specs.First.{first_from}
use Rattle.cg_kernel.specs.Rules.{applies_to_node}
use Rattle.cg_kernel.proofs.first.first_node.Given as goal

abbrev pub invariant-loop-number : goal.invariant-loop-number
invariant-loop-number l = first_from (applies_to_node l.rule l.written) l.number (drop l.number l.nodes) ≡ first_from (applies_to_node l.rule l.written) 0 l.nodes
