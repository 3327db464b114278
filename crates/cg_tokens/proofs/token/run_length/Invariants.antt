use Rattle.std.proofs.Common.{◌≡◌, ◌+◌, drop}
use Rattle.std.specs.List.{prefix_len}
use Rattle.cg_tokens.specs.Tokens.{goes_on}
use Rattle.cg_tokens.proofs.token.run_length.Given as goal

-- the bytes so far are counted, and the others are left
abbrev pub invariant-loop-byte : goal.invariant-loop-byte
invariant-loop-byte l = record {
  counted : l.count ≡ l.byte-index;
  left : l.count + prefix_len (goes_on l.kind) (drop l.byte-index l.bytes) ≡ prefix_len (goes_on l.kind) l.bytes;
}
