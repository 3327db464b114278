use Rattle.std.proofs.Common.{◌≡◌, ◌<◌, [], length, sym, ap, ◌∙◌, subst}
use Rattle.std.specs.Prelude.{slice_set}
use Rattle.std.proofs.lemmas.List.{get_or_read}
use Rattle.cg_model.specs.declared.kernel.Node.{Node}
use Rattle.cg_model.specs.Kernel.{Kernel, IsKernel, no_node, node, size}
use Rattle.cg_simplify_draft.specs.Settings.{FitsText}
use Rattle.cg_simplify_draft.proofs.Written.{text_valid}
use Rattle.cg_simplify_draft.proofs.draft.Draft.set_text.Goals as goal

pub invariant_of-self : goal.invariant_of-self
invariant_of-self c =
    let ns = c.self.inside.nodes.items in
    let K : Kernel = record { nodes = ns; order = [] } in
    let v = c.args.number in
    let known : v < length ns = subst (λ (k : Kernel). v < size k) (sym c.self.view_is) c.requires.known in
    let fits : FitsText K v c.args.op c.args.port c.args.operands = subst (λ (k : Kernel). FitsText k v c.args.op c.args.port c.args.operands) (sym c.self.view_is) c.requires.fits in
    let read : c.index_mut.result.now ≡ node K v = get_or_read ns v c.index_mut.result.now known c.index_mut.ensures.value no_node in
    let new : c.write.new.node ≡ record (node K v) { op = c.args.op; port = c.args.port; operands = c.args.operands } =
    c.write.ensures ∙ ap (λ (n : Node). record n { op = c.args.op; port = c.args.port; operands = c.args.operands }) read in
    subst (λ (n : Node). IsKernel (record { nodes = slice_set ns v n; order = [] })) (sym new)
    (text_valid K v c.args.op c.args.port c.args.operands known c.self.invariant fits)
