use Rattle.std.proofs.Common.{◌≡◌, map, length}
use Rattle.std.specs.List.{range_with_len}
use Rattle.cg_flat.specs.Slots.{select_bits}
use Rattle.cg_bits.specs.Numbers.{number_at, bits_of_bytes}
use Rattle.cg_bits.specs.Reading.{select_place}
use Rattle.cg_bits.proofs.reading_all.selects_rows.Given as goal

abbrev pub invariant-loop-slot : goal.invariant-loop-slot
invariant-loop-slot l =
    l.rows.items ≡ map (λ slot. map (λ r. number_at (bits_of_bytes l.slots.body.now) (select_place l.slots.format l.slots.arch.now r slot) (select_bits l.slots.arch.now r)) (range_with_len 0 (length l.slots.arch.now.resources))) (range_with_len 0 l.slot)
