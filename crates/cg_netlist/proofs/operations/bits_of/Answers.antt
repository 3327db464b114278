use Rattle.std.proofs.Common.{◌∙◌, ◌+◌, ap, sym, get_or, arith}
use Rattle.std.proofs.lemmas.List.Sums.{sum_by_more}
use Rattle.cg_word.specs.declared.op.Op.TheVariants.{Const}
use Rattle.cg_word.specs.Word.{all_ops}
use Rattle.cg_netlist.specs.Netlist.{bit_of}
use Rattle.cg_netlist.proofs.operations.bits_of.Goals as goal

pub loop-op-preserved : goal.loop-op-preserved
loop-op-preserved c = record {
  value =
      ap (λ n. c.loop-op.bits + n) c.bit_of-bits.ensures.bit
      ∙ ap (λ n. n + bit_of c.args.ops (get_or all_ops c.loop-op.op-index Const)) c.loop-op.invariant.value
      ∙ sym (sum_by_more (bit_of c.args.ops) all_ops c.loop-op.op-index Const c.loop-op-test.true);
  few = let small = c.bit_of-bits.ensures.small in let before = c.loop-op.invariant.few in omega arith;
}
