use Rattle.std.proofs.Common.{◌≡◌, map}
use Rattle.std.specs.List.{range_with_len}
use Rattle.cg_bits.specs.Numbers.{bits_of_bytes}
use Rattle.cg_bits.specs.Checks.{fields_there}
use Rattle.cg_bits.proofs.reading_all.fields_row.Given as goal

abbrev pub invariant-loop-x : goal.invariant-loop-x
invariant-loop-x l = l.row.items ≡ map (fields_there l.slots.format l.slots.arch.now (bits_of_bytes l.slots.body.now) l.slot) (range_with_len 0 l.x)
