use Rattle.std.proofs.Common.{inl, inr}
use Rattle.cg_show_table.proofs.Halving.{not_forbidden}
use Rattle.cg_show_table.proofs.margin.margin_of.Goals as goal

pub long_chain-requires-clause-free : goal.long_chain-requires-clause-free
long_chain-requires-clause-free c = λ ids h. not_forbidden c.excludes.ensures c.args.legal.now c.arch-arch.result.now c.kernel-kernel.result.now c.mapping.result.now c.ii-ii.result c.arch-arch.ensures c.kernel-kernel.ensures c.mapping.ensures.mapping c.ii-ii.ensures c.nodes-nodes.ensures.valid c.mapping.ensures.legal (inl (ids, h))

pub full_class-requires-clause-free : goal.full_class-requires-clause-free
full_class-requires-clause-free c = λ set h. not_forbidden c.excludes.ensures c.args.legal.now c.arch-arch.result.now c.kernel-kernel.result.now c.mapping.result.now c.ii-ii.result c.arch-arch.ensures c.kernel-kernel.ensures c.mapping.ensures.mapping c.ii-ii.ensures c.nodes-nodes.ensures.valid c.mapping.ensures.legal (inr (set, h))
