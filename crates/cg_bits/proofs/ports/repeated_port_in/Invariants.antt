use Rattle.std.proofs.Common.{◌≡◌, ℕ, ◌<◌, ◌||◌, [], false}
use Rattle.std.specs.Prelude.{slice_index_or}
use Rattle.cg_bits.specs.Numbers.{bits_of_bytes}
use Rattle.cg_bits.specs.Parts.{joined}
use Rattle.cg_bits.specs.Checks.{fields_there, port_at, port_fault, uses}
use Rattle.cg_bits.proofs.ports.repeated_port_in.Given as goal

abbrev pub invariant-loop-x : goal.invariant-loop-x
invariant-loop-x l = record {
  noted : (q : ℕ) → q < 16 → slice_index_or l.used q false ≡ (slice_index_or l.fn.used q false || uses (fields_there l.slots.format l.slots.arch.now (bits_of_bytes l.slots.body.now) l.slot) l.x q);
  none : joined (port_fault (λ q. slice_index_or l.fn.used q false) (fields_there l.slots.format l.slots.arch.now (bits_of_bytes l.slots.body.now) l.slot) (port_at l.slots.format l.slots.arch.now (bits_of_bytes l.slots.body.now) l.slot)) l.x ≡ [];
}
