use Rattle.std.proofs.Common.{◌≡◌, ◌++◌}
use Rattle.cg_list_laws.specs.Below.{lists_below}
use Rattle.cg_violations.specs.Violations.{unit_violation}
use Rattle.cg_violations.proofs.placing.push_units.Given as goal

abbrev pub invariant-loop-node : goal.invariant-loop-node
invariant-loop-node l = l.found.items ≡ l.fn.found.items ++ lists_below (unit_violation l.arch l.kernel l.mapping) l.node
