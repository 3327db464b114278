use Rattle.std.proofs.Common.{◌≡◌, ℕ, ◌<◌, [], false}
use Rattle.std.specs.Prelude.{slice_index_or}
use Rattle.cg_bits.specs.Numbers.{bits_of_bytes}
use Rattle.cg_bits.specs.Checks.{used_before, repeated_faults}
use Rattle.cg_bits.proofs.ports.repeated_port.Given as goal

abbrev pub invariant-loop-slot : goal.invariant-loop-slot
invariant-loop-slot l = record {
  noted : (q : ℕ) → q < 16 → slice_index_or l.used q false ≡ used_before l.slots.format l.slots.arch.now (bits_of_bytes l.slots.body.now) l.slot q;
  none : repeated_faults l.slots.format l.slots.arch.now (bits_of_bytes l.slots.body.now) l.slot ≡ [];
}
