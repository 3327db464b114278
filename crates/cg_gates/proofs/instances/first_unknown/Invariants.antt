use Rattle.std.proofs.Common.{◌≡◌, drop}
use Rattle.cg_model.specs.First.{first_from}
use Rattle.cg_gates.specs.Numbers.{is_unknown}
use Rattle.cg_gates.proofs.instances.first_unknown.Given as goal

abbrev pub invariant-loop-number : goal.invariant-loop-number
invariant-loop-number l = first_from (is_unknown l.arch) l.number (drop l.number l.cells) ≡ first_from (is_unknown l.arch) 0 l.cells
