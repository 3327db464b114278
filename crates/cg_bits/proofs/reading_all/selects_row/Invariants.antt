use Rattle.std.proofs.Common.{◌≡◌, map}
use Rattle.std.specs.List.{range_with_len}
use Rattle.cg_flat.specs.Slots.{select_bits}
use Rattle.cg_bits.specs.Numbers.{number_at, bits_of_bytes}
use Rattle.cg_bits.specs.Reading.{select_place}
use Rattle.cg_bits.proofs.reading_all.selects_row.Given as goal

abbrev pub invariant-loop-r : goal.invariant-loop-r
invariant-loop-r l = l.row.items ≡ map (λ r. number_at (bits_of_bytes l.slots.body.now) (select_place l.slots.format l.slots.arch.now r l.slot) (select_bits l.slots.arch.now r)) (range_with_len 0 l.r)
