use Rattle.std.proofs.Common.{◌≡◌}
use Rattle.cg_model.specs.Canonical.{greatest_of}
use Rattle.cg_bits.specs.Numbers.{bits_of_bytes}
use Rattle.cg_bits.specs.Checks.{slot_stage}
use Rattle.cg_bits.proofs.all_slots.Slots.last_stage.Given as goal

abbrev pub invariant-loop-slot : goal.invariant-loop-slot
invariant-loop-slot l = l.last ≡ greatest_of (slot_stage l.self.format l.self.arch.now (bits_of_bytes l.self.body.now)) l.slot
