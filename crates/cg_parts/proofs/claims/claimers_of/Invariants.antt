use Rattle.std.proofs.Common.{◌≡◌, ℕ, List, take}
use Rattle.cg_reading.specs.Numbers.{found_in}
use Rattle.cg_parts.specs.Numbers.{claimer_of}
use Rattle.cg_parts.proofs.claims.claimers_of.Given as goal

abbrev pub invariant-loop-number : goal.invariant-loop-number
invariant-loop-number l = (name : List ℕ) → found_in l.numbers name ≡ claimer_of (take l.number l.elements) name
