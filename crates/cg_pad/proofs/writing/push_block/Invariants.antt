use Rattle.std.proofs.Common.{◌≡◌, ◌++◌, take, length, flat_map}
use Rattle.std.specs.Int.{to_be_bytes, w32}
use Rattle.cg_pad.proofs.writing.push_block.Given as goal

-- the number, and the words so far
abbrev pub invariant-loop-word : goal.invariant-loop-word
invariant-loop-word l = l.bytes.items ≡ l.fn.bytes.items ++ (to_be_bytes w32 (length l.words) ++ flat_map (to_be_bytes w32) (take l.word-index l.words))
