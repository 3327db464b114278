use Rattle.std.proofs.lemmas.List.{append-nil}
use Rattle.cg_bits.specs.Numbers.{bits_of, bits_of_bytes}
use Rattle.cg_bits.proofs.writer.BitWriter.new.Goals as goal

pub returns : goal.returns
unfolding bits_of
returns c = append-nil (bits_of_bytes c.args.bytes.items)
