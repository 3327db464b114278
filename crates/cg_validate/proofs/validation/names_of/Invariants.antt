use Rattle.std.proofs.Common.{◌≡◌, take}
use Rattle.cg_validate.specs.Answer.{names_of}
use Rattle.cg_validate.proofs.validation.names_of.Given as goal

abbrev pub invariant-loop-number : goal.invariant-loop-number
invariant-loop-number l = l.names.items ≡ names_of l.flat (take l.number-index l.numbers)
