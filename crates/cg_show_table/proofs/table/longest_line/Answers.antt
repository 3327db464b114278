use Rattle.std.proofs.Common.{subst, sym}
use Rattle.std.specs.Str.{IsUtf8}
use Rattle.cg_show_table.proofs.Ascii.{chain_utf8}
use Rattle.cg_show_table.proofs.table.longest_line.Goals as goal

pub text_of-requires : goal.text_of-requires
text_of-requires c = subst IsUtf8 (sym c.in_ok-bytes.ensures) (chain_utf8 c.args.arch.now c.args.kernel.now c.args.chain.now c.nodes-nodes.ensures.valid)
