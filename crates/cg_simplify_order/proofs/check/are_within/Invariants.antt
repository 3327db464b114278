use Rattle.std.proofs.Common.{◌<◌, ℕ, get_or}
use Rattle.cg_depend.specs.Depend.{Within}
use Rattle.cg_simplify_order.specs.Found.{edge}
use Rattle.cg_simplify_order.proofs.check.are_within.Given as goal

-- those so far are given
abbrev pub invariant-loop-number : goal.invariant-loop-number
invariant-loop-number l = (k : ℕ) → k < l.number → Within l.table (get_or l.needs k (edge 0 0 0)).from (get_or l.needs k (edge 0 0 0)).to (get_or l.needs k (edge 0 0 0)).distance
