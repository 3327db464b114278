use Rattle.std.proofs.Common.{◌≡◌, map, length}
use Rattle.std.specs.List.{range_with_len}
use Rattle.cg_bits.specs.Numbers.{bits_of_bytes}
use Rattle.cg_bits.specs.Checks.{fields_there}
use Rattle.cg_bits.proofs.reading_all.fields_rows.Given as goal

abbrev pub invariant-loop-slot : goal.invariant-loop-slot
invariant-loop-slot l =
    l.rows.items ≡ map (λ slot. map (fields_there l.slots.format l.slots.arch.now (bits_of_bytes l.slots.body.now) slot) (range_with_len 0 (length l.slots.arch.now.units))) (range_with_len 0 l.slot)
