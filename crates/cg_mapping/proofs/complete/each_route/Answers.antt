use Rattle.std.proofs.Common.{◌+◌, ◌∙◌, ◌++◌, ◌∷◌, [], ap, Err}
use Rattle.cg_reading.proofs.Lists.{before}
use Rattle.cg_mapping.proofs.EdgeOperands.{end_has}
use Rattle.cg_mapping.proofs.Steps.{routes_left, route_more, route_stop}
use Rattle.cg_mapping.proofs.complete.each_route.Goals as goal

pub returns-in-None : goal.returns-in-None
returns-in-None c = λ other. ap Err (c.arg_fault.ensures other)
    ∙ route_stop c.args.nodes.now c.args.named.now c.args.ends.now c.args.table.now _ c.loop-end.routes.items c.loop-end.end-index _ c.requires.table c.requires.short c.loop-end-test.true
    (end_has _ c.args.ends.now c.loop-end.end-index _ c.requires.within c.loop-end-test.true) c.in-None.ensures c.loop-end.invariant

pub loop-end-preserved : goal.loop-end-preserved
loop-end-preserved c =
    ap (λ xs. before xs (routes_left c.args.nodes.now c.args.named.now c.args.ends.now (c.loop-end.end-index + 1)))
    (c.in_ok-push-in-Some.ensures.items ∙ ap (λ r. c.loop-end.routes.items ++ r ∷ []) c.in_ok-copy_of-in-Some.ensures)
    ∙ route_more c.args.nodes.now c.args.named.now c.args.ends.now c.args.table.now _ c.loop-end.routes.items c.loop-end.end-index _ c.in-Some.found.now c.requires.table c.requires.short c.loop-end-test.true
    (end_has _ c.args.ends.now c.loop-end.end-index _ c.requires.within c.loop-end-test.true) c.in-Some.ensures c.loop-end.invariant
