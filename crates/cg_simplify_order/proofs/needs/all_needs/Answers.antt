use Rattle.std.proofs.Common.{◌≡◌, List, [], length, ap, subst, arith}
use Rattle.cg_model.specs.declared.kernel.Node.{Node}
use Rattle.cg_simplify_order.specs.Found.{Adds, AllPairs, Pair}
use Rattle.cg_simplify_order.proofs.Adding.{all_added, rows_more}
use Rattle.cg_simplify_order.proofs.needs.all_needs.Goals as goal

pub loop-u-preserved : goal.loop-u-preserved
loop-u-preserved c =
    rows_more c.args.given.now c.args.rewritten.now [] c.loop-u.needs.items c.add_row.new.needs.items c.loop-u.u c.loop-u.invariant
    (subst (λ (p : Pair). Adds p.given p.rewritten (AllPairs c.loop-u.u) c.loop-u.needs.items c.add_row.new.needs.items) c.in_ok-rewriting.ensures.pair c.in_ok-add_row.ensures)

pub returns-clause-all : goal.returns-clause-all
returns-clause-all c =
    let nodes : length c.nodes-u-end.result.now ≡ length c.args.rewritten.now.nodes = ap (λ (ns : List Node). length ns) c.nodes-u-end.ensures.nodes in
    all_added c.args.given.now c.args.rewritten.now c.loop-u.needs.items c.loop-u.u (omega arith) c.loop-u.invariant
