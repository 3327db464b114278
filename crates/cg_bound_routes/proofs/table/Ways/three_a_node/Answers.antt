use Rattle.std.proofs.Common.{◌≡◌, ◌+◌, [], length, get_or, sym, ap, ◌∙◌, subst, arith}
use Rattle.std.proofs.lemmas.List.{get_or_default}
use Rattle.cg_bound_routes.proofs.Tables.{AreThreeTo, three_more, three_whole, three_small}
use Rattle.cg_bound_routes.proofs.table.Ways.three_a_node.Goals as goal

pub loop-node-preserved : goal.loop-node-preserved
loop-node-preserved c =
    let node = c.loop-node.node in
    let row = c.as_slice-row.result.now in
    let is : row ≡ get_or c.args.self.now node [] = c.as_slice-row.ensures ∙ c.index.ensures ∙ get_or_default c.self.inside.rows.items node _ [] (omega arith) ∙ ap (λ z. get_or z node []) c.self.view_is in
    subst (AreThreeTo c.args.self.now (node + 1)) (sym c.in_ok-extend_from_slice.ensures.items)
    (three_more c.args.self.now node c.loop-node.list.items row _ _ _ c.loop-node.invariant is c.number_at.ensures c.number_at-in-loop-node.ensures c.number_at-in-loop-node-2.ensures)

pub returns-clause-numbers : goal.returns-clause-numbers
returns-clause-numbers c =
    let long = ap length c.self.view_is in
    let over : c.loop-node.node ≡ length c.args.self.now = omega arith in
    three_whole c.args.self.now c.loop-node.list.items (subst (λ z. AreThreeTo c.args.self.now z c.loop-node.list.items) over c.loop-node.invariant)

pub returns-clause-small : goal.returns-clause-small
returns-clause-small c =
    let long = ap length c.self.view_is in
    let over : c.loop-node.node ≡ length c.args.self.now = omega arith in
    three_small c.args.self.now c.loop-node.list.items (three_whole c.args.self.now c.loop-node.list.items (subst (λ z. AreThreeTo c.args.self.now z c.loop-node.list.items) over c.loop-node.invariant))
