use Rattle.std.proofs.Common.{◌≡◌}
use Rattle.cg_model.specs.Canonical.{stage_of, greatest_of}
use Rattle.cg_bits.specs.Numbers.{bits_of_bytes}
use Rattle.cg_bits.specs.Checks.{fields_there}
use Rattle.cg_bits.proofs.all_slots.Slots.last_stage_in.Given as goal

abbrev pub invariant-loop-x : goal.invariant-loop-x
invariant-loop-x l = l.last ≡ greatest_of (λ x. stage_of (fields_there l.self.format l.self.arch.now (bits_of_bytes l.self.body.now) l.slot x)) l.x
