use Rattle.std.proofs.Common.{[], ◌∷◌, ◌++◌, length, ap, sym, ◌∙◌, arith}
use Rattle.cg_depend.specs.Affine.{pairs}
use Rattle.cg_depend.proofs.PairTable.{pair_added}
use Rattle.cg_depend.proofs.table.all_pairs.Goals as goal

pub loop-number-init : goal.loop-number-init
unfolding pairs
loop-number-init c = c.new-pairs.ensures.items

pub loop-number-preserved : goal.loop-number-preserved
loop-number-preserved c =
    pair_added c.args.kernel.now c.loop-number.number c.index-nodes-number.result c.nodes-nodes.result.now c.deref.result.now c.push.new.self.items c.pair_by-pair.result
    c.nodes-nodes.ensures.nodes (let n = ap (λ xs. length xs) c.nodes-nodes.ensures.nodes in omega arith) c.index-nodes-number.is (c.deref.ensures.value ∙ c.loop-number.invariant) c.pair_by-pair.ensures (c.in_ok-push.ensures.items ∙ ap (λ xs. xs ++ c.pair_by-pair.result ∷ []) (sym c.deref.ensures.value))
