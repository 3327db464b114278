use Rattle.std.proofs.Common.{◌≡◌, drop}
use Rattle.cg_model.specs.First.{first_from}
use Rattle.cg_parts.specs.Rules.{has_bad_name}
use Rattle.cg_parts.proofs.before_loops.first_bad_name.Given as goal

abbrev pub invariant-loop-number : goal.invariant-loop-number
invariant-loop-number l = first_from (λ number e. has_bad_name e) l.number (drop l.number l.elements) ≡ first_from (λ number e. has_bad_name e) 0 l.elements
