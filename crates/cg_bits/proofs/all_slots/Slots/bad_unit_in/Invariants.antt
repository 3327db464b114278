use Rattle.std.proofs.Common.{◌≡◌, []}
use Rattle.cg_model.specs.Array.{unit}
use Rattle.cg_bits.specs.Numbers.{bits_of_bytes}
use Rattle.cg_bits.specs.Parts.{joined}
use Rattle.cg_bits.specs.Reading.{unit_place}
use Rattle.cg_bits.specs.Checks.{unit_faults}
use Rattle.cg_bits.proofs.all_slots.Slots.bad_unit_in.Given as goal

abbrev pub invariant-loop-x : goal.invariant-loop-x
invariant-loop-x l =
    joined (λ x. unit_faults l.check l.self.format (unit l.self.arch.now x) (bits_of_bytes l.self.body.now) (unit_place l.self.format l.self.arch.now x l.slot)) l.x ≡ []
