use Rattle.std.proofs.Common.{rules, ◌≡◌, [], List, sym, ◌∙◌, subst, arith}
use Rattle.std.proofs.lemmas.Grind.{common_steps}
use Rattle.cg_model.specs.declared.kernel.Node.{Node}
use Rattle.cg_model.specs.Kernel.{IsKernel}
use Rattle.cg_simplify_draft.specs.Rewritten.{IsRewritten}
use Rattle.cg_simplify_draft.proofs.Drafts.{unordered}
use Rattle.cg_simplify_rotate.specs.Turning.{IsRotated, kernel_of}
use Rattle.cg_simplify_rotate.proofs.Rotated.{kernel_is, rotated_kernel}
use Rattle.cg_simplify_rotate.proofs.rotate.Goals as goal

pub turn_all-requires : goal.turn_all-requires
turn_all-requires c =
    let e : c.deref_mut.result.now ≡ c.args.kernel.now.nodes = c.deref_mut.ensures.value ∙ c.in_ok-nodes.ensures ∙ c.nodes-2.ensures.nodes in
    subst (λ (ns : List Node). IsKernel (kernel_of ns)) (sym e) (unordered c.args.kernel.now c.nodes-2.ensures.valid)

pub returns-clause-rewritten : goal.returns-clause-rewritten
returns-clause-rewritten c =
    let e : c.deref_mut.result.now ≡ c.args.kernel.now.nodes = c.deref_mut.ensures.value ∙ c.in_ok-nodes.ensures ∙ c.nodes-2.ensures.nodes in
    let f : c.new-3.result.nodes ≡ c.turn_all.new.nodes = first_of (search rules, grind (arith, common_steps)) in
    let g : c.new-3.result.order ≡ [] = first_of (search rules, grind (arith, common_steps)) in
    let r : IsRotated c.args.kernel.now.nodes c.turn_all.new.nodes c.in_ok-changed.changed = subst (λ (ns : List Node). IsRotated ns c.turn_all.new.nodes c.in_ok-changed.changed) e c.in_ok-changed.ensures in
    subst (IsRewritten c.args.kernel.now) (sym (kernel_is c.new-3.result c.turn_all.new.nodes f g))
    (rotated_kernel c.args.kernel.now c.turn_all.new.nodes c.in_ok-changed.changed c.nodes-2.ensures.valid r)
