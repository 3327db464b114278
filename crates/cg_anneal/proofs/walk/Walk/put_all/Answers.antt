use Rattle.std.proofs.Common.{◌≡◌, ◌∙◌, ℕ, ◌<◌, List, Option, length, get_or, take, None, sym, ap, subst, arith}
use Rattle.std.proofs.lemmas.List.{take_all, get_or_read, length-set, get_or-set_other}
use Rattle.cg_walk_spec.specs.State.{edges}
use Rattle.cg_walk_spec.specs.Walk.{edge}
use Rattle.cg_walk_spec.specs.Pending.{Fits}
use Rattle.cg_anneal.specs.Walking.{Walking, at_state}
use Rattle.cg_anneal.specs.Steps.{put_back}
use Rattle.cg_anneal.proofs.Loops.{pending_here, put_more, put_pending, put_places}
use Rattle.cg_anneal.proofs.walk.Walk.put_all.Goals as goal

pub put-requires-clause-known : goal.put-requires-clause-known
put-requires-clause-known c =
    let k = c.loop-k.k in
    subst (λ (X : Walking). get_or c.args.list.now k 0 < length (edges X.kernel)) (sym c.loop-k.invariant.now) (c.requires.known k 0 c.loop-k-test.true)

pub put-requires-clause-none : goal.put-requires-clause-none
put-requires-clause-none c = pending_here c.args.list.now c.loop-k.k c.loop-k.self.state c.loop-k-test.true c.loop-k.invariant.pending

pub put-requires-clause-fits : goal.put-requires-clause-fits
put-requires-clause-fits c =
    let W = c.args.self.now in
    let k = c.loop-k.k in
    let list = c.args.list.now in
    let routes : List (Option (List ℕ)) = c.args.routes.items in
    let l = c.loop-k-test.true in
    let each = c.loop-k.invariant.each in
    let i = get_or list k 0 in
    let read : c.take-route.result ≡ get_or routes k None =
    c.take-route.ensures.value ∙ get_or_read c.loop-k.left.items k c.index_mut.result.now (omega (arith, l, each)) c.index_mut.ensures.value None ∙ c.loop-k.invariant.left k (omega arith) in
    subst (λ (X : Walking). Fits X.arch X.ii X.state.places (edge X.kernel i) c.take-route.result) (sym c.loop-k.invariant.now)
    (subst (λ ps. Fits W.arch W.ii ps (edge W.kernel i) c.take-route.result) (sym (put_places (take k list) (take k routes) W.state))
    (subst (λ (r : Option (List ℕ)). Fits W.arch W.ii W.state.places (edge W.kernel i) r) (sym read) (c.requires.fits k l)))

pub loop-k-preserved : goal.loop-k-preserved
loop-k-preserved c =
    let W = c.args.self.now in
    let V = c.loop-k.self in
    let U = c.put.new.self in
    let k = c.loop-k.k in
    let list = c.args.list.now in
    let routes : List (Option (List ℕ)) = c.args.routes.items in
    let left : List (Option (List ℕ)) = c.loop-k.left.items in
    let l = c.loop-k-test.true in
    let each = c.loop-k.invariant.each in
    let read : c.take-route.result ≡ get_or routes k None =
    c.take-route.ensures.value ∙ get_or_read left k c.index_mut.result.now (omega (arith, l, each)) c.index_mut.ensures.value None ∙ c.loop-k.invariant.left k (omega arith) in
    record {
      each = length-set left k c.take-route.new.self ∙ each;
      left = λ j le. get_or-set_other left k j c.take-route.new.self None (λ e. omega (arith, e, le)) ∙ c.loop-k.invariant.left j (omega (arith, le));
      now = put_more W V U list routes k c.take-route.result l c.requires.each read c.loop-k.invariant.now c.in_ok-put.ensures;
      pending = put_pending V U list k c.take-route.result l c.requires.rising c.loop-k.invariant.pending c.in_ok-put.ensures;
    }

pub returns : goal.returns
returns c =
    let W = c.args.self.now in
    let k = c.loop-k.k in
    let list = c.args.list.now in
    let routes : List (Option (List ℕ)) = c.args.routes.items in
    let f = c.loop-k-test.false in
    let each = c.requires.each in
    c.loop-k.invariant.now ∙ ap (λ xs. at_state W (put_back xs (take k routes) W.state)) (take_all k list f) ∙ ap (λ rs. at_state W (put_back list rs W.state)) (take_all k routes (omega (arith, f, each)))
