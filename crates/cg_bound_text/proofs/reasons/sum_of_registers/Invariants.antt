use Rattle.std.proofs.Common.{◌≡◌, ◌*◌, ◌^◌, ◌≤◌, take}
use Rattle.std.specs.Prelude.{sum_by}
use Rattle.cg_bound_registers.specs.Sums.{table}
use Rattle.cg_bound_recurrence.specs.WayCycles.{registers_of}
use Rattle.cg_bound_text.proofs.reasons.sum_of_registers.Given as goal

abbrev pub invariant-loop-id : goal.invariant-loop-id
invariant-loop-id l = (l.sum ≡ sum_by (registers_of (table l.hops)) (take l.id-index l.ids)) × (l.sum ≤ l.id-index * 2 ^ 32)
