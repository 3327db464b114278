use Rattle.std.proofs.Common.{◌≡◌, ◌<◌, ◌^◌, ◌++◌}
use Rattle.cg_bits.specs.Numbers.{bits_of, bits_of_bytes}
use Rattle.cg_bits.proofs.writer.BitWriter.push.Given as goal

abbrev pub invariant-loop-count : goal.invariant-loop-count
invariant-loop-count l = record {
  few : l.count < 40;
  fits : l.pending < 2 ^ l.count;
  same_count : l.self-inside.count ≡ l.initial.self-inside.count;
  same_pending : l.self-inside.pending ≡ l.initial.self-inside.pending;
  kept : bits_of_bytes l.self-inside.bytes.items ++ bits_of l.count l.pending ≡ (bits_of_bytes l.initial.self-inside.bytes.items ++ bits_of l.initial.self-inside.count l.initial.self-inside.pending) ++ bits_of l.width l.number;
}

abbrev pub decreases-loop-count : goal.decreases-loop-count
decreases-loop-count l = l.count
