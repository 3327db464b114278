use Rattle.std.proofs.Common.{◌≡◌, List, ℕ, Option, None, sym, ap, subst}
use Rattle.cg_walk_spec.specs.State.{State}
use Rattle.cg_walk_spec.specs.Walk.{with_route}
use Rattle.cg_walk_spec.proofs.Pending.{with_same_route}
use Rattle.cg_anneal.specs.Walking.{at_state}
use Rattle.cg_anneal.proofs.walk.Walk.put.Goals as goal

pub returns-in-None : goal.returns-in-None
returns-in-None c =
    let W = c.args.self.now in
    subst (λ (r : Option (List ℕ)). W ≡ at_state W (with_route W.state c.args.i r)) (sym c.in-None.is)
    (ap (λ (S : State). at_state W S) (sym (with_same_route W.state c.args.i None c.requires.none)))
