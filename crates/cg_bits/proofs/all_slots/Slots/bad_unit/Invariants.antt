use Rattle.std.proofs.Common.{◌≡◌, []}
use Rattle.cg_bits.specs.Numbers.{bits_of_bytes}
use Rattle.cg_bits.specs.Parts.{joined}
use Rattle.cg_bits.specs.Checks.{slot_faults}
use Rattle.cg_bits.proofs.all_slots.Slots.bad_unit.Given as goal

abbrev pub invariant-loop-slot : goal.invariant-loop-slot
invariant-loop-slot l = joined (slot_faults l.self.format l.self.arch.now (bits_of_bytes l.self.body.now) l.check) l.slot ≡ []
