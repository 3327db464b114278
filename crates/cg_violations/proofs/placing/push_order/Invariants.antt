use Rattle.std.proofs.Common.{◌≡◌, ◌++◌}
use Rattle.cg_list_laws.specs.Below.{lists_below}
use Rattle.cg_violations.specs.Violations.{order_violation}
use Rattle.cg_violations.proofs.placing.push_order.Given as goal

abbrev pub invariant-loop-edge : goal.invariant-loop-edge
invariant-loop-edge l = l.found.items ≡ l.fn.found.items ++ lists_below (order_violation l.kernel l.mapping) l.edge
