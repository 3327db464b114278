use Rattle.std.proofs.Common.{◌≡◌, map, take}
use Rattle.cg_recur.specs.Recurrences.{name_at}
use Rattle.cg_recur.proofs.recur.name_all.Given as goal

abbrev pub invariant-loop-number : goal.invariant-loop-number
invariant-loop-number l = l.ids.items ≡ map (name_at l.names) (take l.number-index l.numbers)
