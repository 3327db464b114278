use Rattle.std.proofs.Common.{◌∙◌, ◌<◌, length, sym, subst}
use Rattle.std.specs.Prelude.{All, OnOk}
use Rattle.cg_walk_spec.specs.State.{State, edges}
use Rattle.cg_walk_spec.specs.Walk.{unrouted_start}
use Rattle.cg_walk_spec.specs.Pending.{Rising, Pending}
use Rattle.cg_walk_spec.proofs.Uses.{all_known}
use Rattle.cg_walk_spec.proofs.Pending.{all_rising, pending_start}
use Rattle.cg_anneal.specs.Walking.{IsRoutedBy}
use Rattle.cg_anneal.proofs.finding.route_first.Goals as goal

pub route_all-requires-clause-known : goal.route_all-requires-clause-known
route_all-requires-clause-known c =
    let hl = c.deref.ensures.value ∙ c.in_ok-list.ensures in
    subst (λ xs. All (λ i. i < length (edges c.args.walk.now.kernel)) xs) (sym hl) (all_known c.args.walk.now.kernel)

pub route_all-requires-clause-rising : goal.route_all-requires-clause-rising
route_all-requires-clause-rising c =
    let hl = c.deref.ensures.value ∙ c.in_ok-list.ensures in
    subst (λ xs. Rising xs) (sym hl) (all_rising c.args.walk.now.kernel)

pub route_all-requires-clause-pending : goal.route_all-requires-clause-pending
route_all-requires-clause-pending c =
    let W = c.args.walk.now in
    let hl = c.deref.ensures.value ∙ c.in_ok-list.ensures in
    subst (λ (S : State). Pending c.deref.result.now S) (sym c.requires) (subst (λ xs. Pending xs (unrouted_start W.arch W.kernel W.ii W.early)) (sym hl) (pending_start W.arch W.kernel W.ii W.early))

pub returns : goal.returns
returns c =
    let hl = c.deref.ensures.value ∙ c.in_ok-list.ensures in
    subst (λ xs. OnOk c.route_all.result (IsRoutedBy xs c.args.walk.now c.route_all.new.self)) hl c.route_all.ensures
