use Rattle.std.proofs.Common.{◌≡◌, ℕ, List, Some, take}
use Rattle.cg_reading.specs.Numbers.{found_in, number_of}
use Rattle.cg_mapping.proofs.directory.numbers_of.Given as goal

abbrev pub invariant-loop-number : goal.invariant-loop-number
invariant-loop-number g l = (name : List ℕ) → found_in l.numbers name ≡ number_of (λ item. Some (g.T.Called.own_name item)) (take l.number l.items) name
