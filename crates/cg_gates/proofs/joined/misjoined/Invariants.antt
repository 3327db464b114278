use Rattle.std.proofs.Common.{◌≡◌, drop}
use Rattle.cg_model.specs.First.{first_from}
use Rattle.cg_gates.specs.Numbers.{is_misjoined}
use Rattle.cg_gates.proofs.joined.misjoined.Given as goal

abbrev pub invariant-loop-number : goal.invariant-loop-number
invariant-loop-number l = first_from (is_misjoined l.nets) l.number (drop l.number l.cells) ≡ first_from (is_misjoined l.nets) 0 l.cells
