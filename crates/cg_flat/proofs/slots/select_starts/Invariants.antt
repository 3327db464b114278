use Rattle.std.proofs.Common.{◌≡◌, ◌*◌, ◌≤◌, map}
use Rattle.std.specs.List.{range_with_len}
use Rattle.cg_flat.specs.Slots.{select_at}
use Rattle.cg_flat.proofs.slots.select_starts.Given as goal

-- the starts so far, and the next one
abbrev pub invariant-loop-resource : goal.invariant-loop-resource
invariant-loop-resource l = (l.start ≡ select_at l.flat l.resource-index) × (l.start ≤ l.resource-index * 32) × (l.starts.items ≡ map (select_at l.flat) (range_with_len 0 l.resource-index))
