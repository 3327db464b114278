use Rattle.std.proofs.Common.{◌≡◌, ◌+◌, ◌*◌, ◌≤◌, map}
use Rattle.std.specs.List.{range_with_len}
use Rattle.cg_flat.specs.Slots.{unit_at}
use Rattle.cg_flat.proofs.slots.unit_starts.Given as goal

-- the starts so far, and the next one
abbrev pub invariant-loop-unit : goal.invariant-loop-unit
invariant-loop-unit l = (l.start ≡ unit_at l.flat l.unit-index) × (l.start ≤ 131072 + l.unit-index * 454) × (l.starts.items ≡ map (unit_at l.flat) (range_with_len 0 l.unit-index))
