use Rattle.std.proofs.Common.{◌≡◌, ◌+◌, [], length}
use Rattle.std.specs.Prelude.{nat_le}
use Rattle.cg_model.specs.Array.{resource}
use Rattle.cg_flat.specs.Slots.{select_bits}
use Rattle.cg_bits.specs.Numbers.{number_at, bits_of_bytes}
use Rattle.cg_bits.specs.Parts.{joined}
use Rattle.cg_bits.specs.Reading.{select_place}
use Rattle.cg_bits.specs.Faults.{unless}
use Rattle.cg_bits.proofs.all_slots.Slots.bad_select_in.Given as goal

abbrev pub invariant-loop-r : goal.invariant-loop-r
invariant-loop-r l =
    joined (λ r. unless (nat_le (number_at (bits_of_bytes l.self.body.now) (select_place l.self.format l.self.arch.now r l.slot) (select_bits l.self.arch.now r)) (length (resource l.self.arch.now r).drivers)) (320 + select_place l.self.format l.self.arch.now r l.slot)) l.r ≡ []
