use Rattle.std.proofs.Common.{◌≡◌, ◌∙◌, ap, length, subst, sym}
use Rattle.cg_model.specs.declared.kernel.Node.{Node}
use Rattle.std.specs.Prelude.{List}
use Rattle.cg_c_order.specs.Chains.{JoinBelow, data_edges}
use Rattle.cg_c_order.proofs.Drafts.{data_join}
use Rattle.cg_c_order.proofs.draft.Draft.new.Goals as goal

pub near_rows-requires : goal.near_rows-requires
near_rows-requires c =
    let edges : c.deref-2.result.now ≡ data_edges c.args.nodes.items = c.deref-2.ensures.value ∙ c.in_ok-edges.ensures ∙ ap (λ (z : List Node). data_edges z) c.deref.ensures.value in
    let long : c.len.result ≡ length c.args.nodes.items = c.len.ensures ∙ c.args.nodes.ok.0 in
    subst (λ n. JoinBelow n c.deref-2.result.now) (sym long) (data_join c.args.nodes.items c.deref-2.result.now c.requires edges)
