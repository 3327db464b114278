use Rattle.std.proofs.Common.{Bool, List, ℕ, ◌∙◌, subst}
use Rattle.cg_simplify.specs.Merging.{AreTargets}
use Rattle.cg_simplify.proofs.Likeness.{targets_like}
use Rattle.cg_simplify.proofs.merging.targets.Goals as goal

pub returns : goal.returns
returns c =
    let like = c.in_ok-like.like.items in
    let index = c.in_ok-index.index.items in
    let into = c.in_ok-into.into.items in
    let are : AreTargets like index into =
    subst (λ (t : List ℕ). AreTargets t index into) c.deref-2.ensures.value
    (subst (λ (marks : List Bool). AreTargets c.deref-2.result.now marks into) c.deref-3.ensures.value c.in_ok-into.ensures) in
    (are.long ∙ c.in_ok-like.ensures.0, targets_like c.args.kernel.now like into index c.in_ok-like.ensures.1 are)
