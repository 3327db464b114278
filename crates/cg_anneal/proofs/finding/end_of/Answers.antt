use Rattle.std.proofs.Common.{◌≡◌, sym, subst}
use Rattle.cg_walk_spec.specs.State.{cost}
use Rattle.cg_anneal.specs.Walking.{Walking}
use Rattle.cg_anneal.specs.Ended.{IsFoundAt, IsReached}
use Rattle.cg_anneal.proofs.Reached.{ends_found}
use Rattle.cg_anneal.proofs.finding.end_of.Goals as goal

pub legal_end-requires : goal.legal_end-requires
legal_end-requires g c =
    let V = c.make_moves.new.walk in
    let r = subst (IsReached c.args.walk.now c.args.request.seed c.args.request.moves V) c.in-Zero.is c.in_ok-k.ensures in
    record { zero = subst (λ (X : Walking). cost X.arch X.kernel X.ii V.state ≡ 0) (sym r.0) r.1 }

pub returns-in_ok-end-in-Zero : goal.returns-in_ok-end-in-Zero
returns-in_ok-end-in-Zero g c =
    let W = c.args.walk.now in
    let V = c.make_moves.new.walk in
    let seed = c.args.request.seed in
    let moves = c.args.request.moves in
    let k = c.in-Zero.k in
    let found = c.in_ok-end-in-Zero.end in
    let (same, zero, (g, end)) = subst (IsReached W seed moves V) c.in-Zero.is c.in_ok-k.ensures in
    let there = subst (λ (X : Walking). IsFoundAt X.arch X.kernel X.ii V.state k found) same c.in_ok-end-in-Zero.ensures in
    ends_found W.arch W.kernel W.ii W.early moves seed k g V.state found end.0 zero there

pub returns-in-Cost : goal.returns-in-Cost
returns-in-Cost g c =
    let W = c.args.walk.now in
    let V = c.make_moves.new.walk in
    let (same, left, some, (g, end)) = subst (IsReached W c.args.request.seed c.args.request.moves V) c.in-Cost.is c.in_ok-k.ensures in
    (g, V.state, end, left, some)
