use Rattle.std.proofs.Common.{◌≡◌, length}
use Rattle.cg_search_respond.proofs.mapping.places_of.Given as goal

abbrev pub invariant-loop-node : goal.invariant-loop-node
invariant-loop-node l = length l.places.items ≡ l.node
