use Rattle.std.proofs.Common.{◌≡◌, drop}
use Rattle.cg_model.specs.First.{first_from}
use Rattle.cg_gates.specs.Numbers.{is_repeated}
use Rattle.cg_gates.proofs.instances.first_repeated.Given as goal

abbrev pub invariant-loop-number : goal.invariant-loop-number
invariant-loop-number l = first_from (is_repeated l.cells) l.number (drop l.number l.cells) ≡ first_from (is_repeated l.cells) 0 l.cells
