use Rattle.std.proofs.Common.{◌≡◌, ◌++◌, take, flat_map}
use Rattle.cg_pad.specs.Bytes.{magic, block_bytes}
use Rattle.cg_pad.proofs.writing.write_image.Given as goal

-- the letters, the memory, and the streams so far
abbrev pub invariant-loop-stream : goal.invariant-loop-stream
invariant-loop-stream l = l.bytes.items ≡ magic ++ (block_bytes l.image.memory ++ flat_map block_bytes (take l.stream-index l.streams))
