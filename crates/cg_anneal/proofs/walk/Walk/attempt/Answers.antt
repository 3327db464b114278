use Rattle.std.proofs.Common.{◌∙◌, refl, sym, ap, subst}
use Rattle.cg_place.specs.declared.moves.Move.{Move}
use Rattle.cg_walk_spec.specs.Walk.{unrouted, moved_by}
use Rattle.cg_anneal.specs.Walking.{Walking, MayPlace, at_state}
use Rattle.cg_anneal.proofs.Attempts as moves
use Rattle.cg_anneal.proofs.walk.Walk.attempt.Goals as goal

pub take_all-requires-clause-known : goal.take_all-requires-clause-known
take_all-requires-clause-known c =
    moves.list_known c.args.self.now c.args.change c.args.list.now c.requires.list c.args.self.now c.args.self.now.state refl

pub take_all-requires-clause-rising : goal.take_all-requires-clause-rising
take_all-requires-clause-rising c =
    moves.list_rising c.args.self.now c.args.change c.args.list.now c.requires.list

pub place-back-requires-clause-alone : goal.place-back-requires-clause-alone
place-back-requires-clause-alone c =
    moves.alone_at c.args.self.now c.args.change c.args.list.now c.requires.list c.take_all.new.self c.args.self.now.state c.args.change.node c.holds.ensures.good.routes refl c.in_ok-routes.ensures.new

pub route_all-requires-clause-known : goal.route_all-requires-clause-known
route_all-requires-clause-known c =
    moves.list_known c.args.self.now c.args.change c.args.list.now c.requires.list c.place-back.new.self _ (moves.moved_is c.args.self.now c.args.change c.args.list.now c.requires.list c.holds.ensures c.take_all.new.self c.place-back.new.self c.in_ok-routes.ensures.new c.place-back.ensures.new)

pub route_all-requires-clause-rising : goal.route_all-requires-clause-rising
route_all-requires-clause-rising c =
    moves.list_rising c.args.self.now c.args.change c.args.list.now c.requires.list

pub route_all-requires-clause-pending : goal.route_all-requires-clause-pending
route_all-requires-clause-pending c =
    moves.moved_pending c.args.self.now c.args.change c.args.list.now c.requires.list c.holds.ensures c.take_all.new.self c.place-back.new.self c.in_ok-routes.ensures.new c.place-back.ensures.new

pub drop_all-requires : goal.drop_all-requires
drop_all-requires c =
    record { known = moves.list_known c.args.self.now c.args.change c.args.list.now c.requires.list c.route_all.new.self c.route_all.new.self.state (moves.tried_is c.args.self.now c.args.change c.args.list.now c.requires.list c.holds.ensures c.take_all.new.self c.place-back.new.self c.in_ok-routes.ensures.new c.place-back.ensures.new c.route_all.new.self c.in_ok-route_all.ensures) }

pub place-requires-clause-may : goal.place-requires-clause-may
place-requires-clause-may c =
    let e = c.drop_all.ensures ∙ ap (λ (X : Walking). at_state X (unrouted c.args.list.now c.route_all.new.self.state)) (moves.tried_is c.args.self.now c.args.change c.args.list.now c.requires.list c.holds.ensures c.take_all.new.self c.place-back.new.self c.in_ok-routes.ensures.new c.place-back.ensures.new c.route_all.new.self c.in_ok-route_all.ensures) in
    let may = subst (λ (X : Walking). MayPlace X c.place-back.result) (moves.moved_is c.args.self.now c.args.change c.args.list.now c.requires.list c.holds.ensures c.take_all.new.self c.place-back.new.self c.in_ok-routes.ensures.new c.place-back.ensures.new) c.place-back.ensures.may in
    subst (λ (X : Walking). MayPlace X c.place-back.result) (sym e) (moves.may_at c.args.self.now (moved_by c.args.self.now.kernel c.args.change c.args.self.now.state) (unrouted c.args.list.now c.route_all.new.self.state) c.place-back.result may)

pub place-requires-clause-alone : goal.place-requires-clause-alone
place-requires-clause-alone c =
    let e = c.drop_all.ensures ∙ ap (λ (X : Walking). at_state X (unrouted c.args.list.now c.route_all.new.self.state)) (moves.tried_is c.args.self.now c.args.change c.args.list.now c.requires.list c.holds.ensures c.take_all.new.self c.place-back.new.self c.in_ok-routes.ensures.new c.place-back.ensures.new c.route_all.new.self c.in_ok-route_all.ensures) in
    moves.alone_at c.args.self.now c.args.change c.args.list.now c.requires.list c.drop_all.new.self c.route_all.new.self.state c.place-back.result.node (moves.tried_long c.args.self.now c.args.change c.args.list.now c.requires.list c.holds.ensures c.take_all.new.self c.place-back.new.self c.in_ok-routes.ensures.new c.place-back.ensures.new c.route_all.new.self c.in_ok-route_all.ensures) (ap (λ (x : Move). x.node) c.place-back.ensures.back) e

pub put_all-requires-clause-known : goal.put_all-requires-clause-known
put_all-requires-clause-known c =
    moves.list_known c.args.self.now c.args.change c.args.list.now c.requires.list c.place.new.self _ (moves.undone_is c.args.self.now c.args.change c.args.list.now c.requires.list c.holds.ensures c.take_all.new.self c.place-back.new.self c.in_ok-routes.ensures.new c.place-back.ensures.new c.route_all.new.self c.in_ok-route_all.ensures c.drop_all.new.self c.place.new.self c.place-back.result c.place-back.ensures.back c.drop_all.ensures c.place.ensures.new)

pub put_all-requires-clause-rising : goal.put_all-requires-clause-rising
put_all-requires-clause-rising c =
    moves.list_rising c.args.self.now c.args.change c.args.list.now c.requires.list

pub put_all-requires-clause-pending : goal.put_all-requires-clause-pending
put_all-requires-clause-pending c =
    moves.pending_at c.args.self.now c.args.change c.args.list.now c.requires.list c.place.new.self c.args.self.now.state c.holds.ensures.good.routes (moves.undone_is c.args.self.now c.args.change c.args.list.now c.requires.list c.holds.ensures c.take_all.new.self c.place-back.new.self c.in_ok-routes.ensures.new c.place-back.ensures.new c.route_all.new.self c.in_ok-route_all.ensures c.drop_all.new.self c.place.new.self c.place-back.result c.place-back.ensures.back c.drop_all.ensures c.place.ensures.new)

pub put_all-requires-clause-fits : goal.put_all-requires-clause-fits
put_all-requires-clause-fits c =
    moves.fits_back c.args.self.now c.args.change c.args.list.now c.requires.list c.holds.ensures c.take_all.new.self c.place-back.new.self c.in_ok-routes.ensures.new c.place-back.ensures.new c.route_all.new.self c.in_ok-route_all.ensures c.drop_all.new.self c.place.new.self c.place-back.result c.place-back.ensures.back c.drop_all.ensures c.place.ensures.new c.in_ok-routes.routes.items c.in_ok-routes.ensures.routes

pub returns : goal.returns
returns c =
    moves.attempt_refused c.args.self.now c.args.change c.args.list.now c.requires.list c.holds.ensures c.take_all.new.self c.place-back.new.self c.in_ok-routes.ensures.new c.place-back.ensures.new c.route_all.new.self c.in_ok-route_all.ensures c.args.pace.moves c.args.pace.k c.args.word c.in_ok-before.before c.in_ok-after.after c.is_taken.result c.in_ok-before.ensures c.in_ok-after.ensures c.is_taken.ensures c.put_all.new.self (moves.restored_whole c.args.self.now c.args.change c.args.list.now c.requires.list c.holds.ensures c.take_all.new.self c.place-back.new.self c.in_ok-routes.ensures.new c.place-back.ensures.new c.route_all.new.self c.in_ok-route_all.ensures c.drop_all.new.self c.place.new.self c.place-back.result c.place-back.ensures.back c.drop_all.ensures c.place.ensures.new c.in_ok-routes.routes.items c.in_ok-routes.ensures.routes c.put_all.new.self c.in_ok-put_all.ensures) c.if-is_taken.false
