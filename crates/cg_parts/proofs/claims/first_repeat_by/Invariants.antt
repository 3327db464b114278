use Rattle.std.proofs.Common.{◌≡◌, drop}
use Rattle.cg_model.specs.First.{first_from}
use Rattle.cg_reading.specs.Numbers.{found_in}
use Rattle.cg_parts.specs.Rules.{repeats_by}
use Rattle.cg_parts.proofs.claims.first_repeat_by.Given as goal

abbrev pub invariant-loop-number : goal.invariant-loop-number
invariant-loop-number l = first_from (repeats_by (found_in l.claimers)) l.number (drop l.number l.elements) ≡ first_from (repeats_by (found_in l.claimers)) 0 l.elements
