use Rattle.std.proofs.Common.{◌≡◌, ◌<◌, [], length, sym, ap, ◌∙◌, subst}
use Rattle.std.specs.Prelude.{slice_set}
use Rattle.std.proofs.lemmas.List.{get_or_read}
use Rattle.cg_model.specs.declared.kernel.Node.{Node}
use Rattle.cg_model.specs.Kernel.{Kernel, IsKernel, no_node, node, size}
use Rattle.cg_simplify_draft.specs.Settings.{Fits}
use Rattle.cg_simplify_draft.proofs.Drafts.{valid}
use Rattle.cg_simplify_draft.proofs.draft.Draft.set_operand.Goals as goal

pub invariant_of-self : goal.invariant_of-self
invariant_of-self c =
    let ns = c.self.inside.nodes.items in
    let K : Kernel = record { nodes = ns; order = [] } in
    let v = c.args.number in
    let p = c.args.place in
    let o = c.args.operand in
    let known : v < length ns = subst (λ (k : Kernel). v < size k) (sym c.self.view_is) c.requires.known in
    let fits : Fits K v p o = subst (λ (k : Kernel). Fits k v p o) (sym c.self.view_is) c.requires.fits in
    let read : c.index_mut.result.now ≡ node K v = get_or_read ns v c.index_mut.result.now known c.index_mut.ensures.value no_node in
    let new : c.put.new.node ≡ record (node K v) { operands = slice_set (node K v).operands p o } =
    c.put.ensures ∙ ap (λ (n : Node). record n { operands = slice_set n.operands p o }) read in
    subst (λ (n : Node). IsKernel (record { nodes = slice_set ns v n; order = [] })) (sym new) (valid K v p o known c.self.invariant fits)
