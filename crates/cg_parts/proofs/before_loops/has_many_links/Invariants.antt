use Rattle.std.proofs.Common.{◌≡◌, ◌≤◌, drop, nat_lt}
use Rattle.cg_parts.specs.Rules.{links}
use Rattle.cg_parts.proofs.before_loops.has_many_links.Given as goal

abbrev pub invariant-loop-resource : goal.invariant-loop-resource
invariant-loop-resource l = (l.room ≤ 65536) × (nat_lt l.room (links (drop l.resource-index l.resources)) ≡ nat_lt 65536 (links l.resources))
