use Rattle.std.proofs.Common.{get_or}
use Rattle.std.proofs.lemmas.List.Elements.{Contains-get_or}
use Rattle.cg_simplify_order.specs.Found.{edge}
use Rattle.cg_simplify_order.proofs.Listed.{among_more}
use Rattle.cg_simplify_order.proofs.reduce.kept.Goals as goal

pub keep-requires-clause-from : goal.keep-requires-clause-from
keep-requires-clause-from c =
    let k = c.loop-number.number in
    (c.requires (get_or c.args.needs.now k (edge 0 0 0)) (Contains-get_or c.args.needs.now k (edge 0 0 0) c.loop-number-test.true)).0

pub keep-requires-clause-to : goal.keep-requires-clause-to
keep-requires-clause-to c =
    let k = c.loop-number.number in
    (c.requires (get_or c.args.needs.now k (edge 0 0 0)) (Contains-get_or c.args.needs.now k (edge 0 0 0) c.loop-number-test.true)).1

pub loop-number-preserved : goal.loop-number-preserved
loop-number-preserved c =
    let k = c.loop-number.number in
    among_more c.args.needs.now c.loop-number.edges.items c.keep.new.edges.items (get_or c.args.needs.now k (edge 0 0 0)) (Contains-get_or c.args.needs.now k (edge 0 0 0) c.loop-number-test.true) c.in_ok-keep.ensures c.loop-number.invariant
