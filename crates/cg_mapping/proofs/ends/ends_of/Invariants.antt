use Rattle.std.proofs.Common.{◌≡◌, ◌++◌, drop, map}
use Rattle.cg_model.specs.Mapping.{ends_from}
use Rattle.cg_mapping.specs.Ends.{as_end}
use Rattle.cg_mapping.proofs.ends.ends_of.Given as goal

abbrev pub invariant-loop-number : goal.invariant-loop-number
invariant-loop-number l = map as_end l.ends.items ++ ends_from l.number (drop l.number l.nodes) ≡ ends_from 0 l.nodes
