use Rattle.std.proofs.Common.{◌≡◌, List, length, ap, sym, ◌∙◌, subst}
use Rattle.cg_model.specs.declared.kernel.Node.{Node}
use Rattle.cg_simplify_order.specs.Found.{JoinBelow}
use Rattle.cg_simplify_order.proofs.chains.chains_of.Goals as goal

pub note_needs-requires : goal.note_needs-requires
note_needs-requires c =
    let nodes : length c.nodes-nodes.result.now ≡ length c.args.kernel.now.nodes = ap (λ (ns : List Node). length ns) c.nodes-nodes.ensures.nodes in
    subst (λ n. JoinBelow n c.args.needs.now) (sym (c.note_data.ensures ∙ c.in_ok-chains.ensures ∙ nodes)) c.requires
