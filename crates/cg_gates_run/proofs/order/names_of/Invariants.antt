use Rattle.std.proofs.Common.{◌≡◌, take}
use Rattle.cg_gates.specs.Accepts.{names_of}
use Rattle.cg_gates_run.proofs.order.names_of.Given as goal

abbrev pub invariant-loop-number : goal.invariant-loop-number
invariant-loop-number l = l.names.items ≡ names_of l.nets (take l.number-index l.numbers)
