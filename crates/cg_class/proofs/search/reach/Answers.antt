use Rattle.std.proofs.Common.{◌+◌, length, List, [], Bool, sym, ap, subst, arith}
use Rattle.cg_class.specs.Search.{IsSearch, IsVisited}
use Rattle.cg_class.proofs.Sets.{with_from, op_read}
use Rattle.cg_class.proofs.Visits.{search_begun, few_moves, written, overfull}
use Rattle.cg_class.proofs.search.reach.Goals as goal

pub loop-number-init : goal.loop-number-init
loop-number-init c =
    let nodes = c.args.nodes.now in
    let units = c.args.units.now in
    let places = c.args.places.now in
    let whole = written c.in_ok-seen.seen.len c.spread.new.seen _ (let a = c.spread.auto.seen in let b = ap (λ (z : List Bool). length z) c.deref_mut.ensures.value in let d = c.in_ok-seen.seen.ok.0 in omega arith) in
    let added = with_from _ [] _ _ _ c.with-done.ensures.has c.empty.ensures (op_read nodes (length places) c.index-nodes-node.result c.requires.next) in
    subst (λ z. IsSearch nodes units c.args.ii places c.spread.new.log.items z c.with-done.result 0) (sym whole)
    (search_begun nodes units c.args.ii places c.new-log.result.items c.deref_mut.result.now c.spread.new.log.items c.spread.new.seen c.with-done.result c.requires.next c.in_ok-spread.ensures added)

pub loop-number-smaller : goal.loop-number-smaller
loop-number-smaller c =
    let nodes = c.args.nodes.now in
    let units = c.args.units.now in
    let places = c.args.places.now in
    let log = c.visit.new.log.items in
    let s : IsSearch nodes units c.args.ii places log c.visit.new.seen c.in-Some.more (c.loop-number.number + 1) =
    subst (λ o. IsVisited nodes units c.args.ii places log c.visit.new.seen c.loop-number.number o) c.in-Some.is c.in_ok-visit.ensures in
    let f = few_moves nodes units c.args.ii places log c.visit.new.seen s.logged in
    let l = s.within in
    omega arith

pub returns : goal.returns
returns c =
    overfull c.args.nodes.now c.args.units.now c.args.ii c.args.places.now c.requires.placed c.requires.next c.loop-number.log.items c.loop-number.seen.items c.loop-number.done c.loop-number.number c.loop-number.invariant (omega arith)
