use Rattle.std.proofs.Common.{◌≡◌, ◌+◌, ◌*◌, [], not, false}
use Rattle.std.specs.Prelude.{slice_index_or}
use Rattle.cg_bits.specs.Numbers.{bits_of_bytes}
use Rattle.cg_bits.specs.Parts.{joined}
use Rattle.cg_bits.specs.Format.{slot_len}
use Rattle.cg_bits.specs.Faults.{unless}
use Rattle.cg_bits.proofs.all_slots.Slots.set_padding.Given as goal

abbrev pub invariant-loop-i : goal.invariant-loop-i
invariant-loop-i l =
    joined (λ i. unless (not (slice_index_or (bits_of_bytes l.self.body.now) (l.self.ii * slot_len l.self.format l.self.arch.now + i) false)) (320 + (l.self.ii * slot_len l.self.format l.self.arch.now + i))) l.i ≡ []
