use Rattle.std.proofs.Common.{◌≡◌, ◌*◌, ◌%◌, ◌^◌, ◌<◌, ◌≤◌}
use Rattle.cg_depend.proofs.gap.inverse.Given as goal

abbrev pub invariant-loop-bit : goal.invariant-loop-bit
invariant-loop-bit l = (l.power ≡ 2 ^ l._bit) × (1 ≤ l._bit) × (l.known < l.power) × ((l.odd * l.known) % l.power ≡ 1)
