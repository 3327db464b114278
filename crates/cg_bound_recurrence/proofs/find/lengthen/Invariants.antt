use Rattle.std.proofs.Common.{◌≡◌, ℕ, ◌<◌, length}
use Rattle.std.specs.Prelude.{slice_get}
use Rattle.cg_recur.specs.Recurrences.{name_at}
use Rattle.cg_bound_registers.specs.Sums.{table}
use Rattle.cg_bound_recurrence.specs.WayCycles.{registers_of, longer}
use Rattle.cg_bound_recurrence.proofs.find.lengthen.Given as goal

abbrev pub invariant-loop-k : goal.invariant-loop-k
invariant-loop-k l =
    (length l.long.items ≡ l.k)
    × ((j : ℕ) → j < l.k → slice_get l.long.items j ≡ longer (registers_of (table l.hops) (name_at l.names j)) (slice_get l.edges j))
