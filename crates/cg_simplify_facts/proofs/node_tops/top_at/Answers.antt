use Rattle.std.proofs.Common.{◌≡◌, ◌∙◌, ◌<◌, List, length, slice_index_or, sym, ap, subst, arith}
use Rattle.std.proofs.lemmas.List.{get_or_read}
use Rattle.cg_model.specs.declared.kernel.Node.{Node}
use Rattle.cg_model.specs.Kernel.{no_node, node}
use Rattle.cg_simplify_facts.proofs.Known.{node_top}
use Rattle.cg_simplify_facts.proofs.Words.{val_word}
use Rattle.cg_simplify_facts.proofs.node_tops.top_at.Goals as goal

pub returns-then-computes : goal.returns-then-computes
returns-then-computes c = λ image i valid suits.
    let K = c.args.kernel.now in
    let n = c.args.number in
    let given = c.nodes.result.now in
    let N = c.index-nodes-number.result in
    let l : n < length given = subst (λ (zs : List Node). n < length zs) (sym c.nodes.ensures.nodes) c.requires in
    let is : node K n ≡ N = ap (λ (zs : List Node). slice_index_or zs n no_node) (sym c.nodes.ensures.nodes) ∙ sym (get_or_read given n N l c.index-nodes-number.is no_node) in
    node_top K image n i c.top_of.result c.facts_of.result N c.nodes-then-computes.result.now c.as_slice.result.now c.args.tops.now c.nodes.ensures.valid valid c.requires
    is (sym c.computes.ensures ∙ c.if-computes.true) c.nodes-then-computes.ensures.nodes c.as_slice.ensures c.facts_of.ensures c.top_of.ensures suits

pub returns-else-computes : goal.returns-else-computes
returns-else-computes c = λ image i valid suits. let h = val_word c.args.kernel.now c.nodes.ensures.valid image valid c.args.number i in omega arith
