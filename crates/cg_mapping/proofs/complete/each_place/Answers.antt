use Rattle.std.proofs.Common.{◌+◌, ◌∙◌, ap, Err}
use Rattle.cg_reading.proofs.Lists.{before}
use Rattle.cg_mapping.proofs.Steps.{places_left, place_more, place_stop}
use Rattle.cg_mapping.proofs.complete.each_place.Goals as goal

pub returns-in-None : goal.returns-in-None
returns-in-None c = λ other. ap Err (c.node_fault.ensures other) ∙ place_stop c.args.nodes.now c.args.named.now c.args.table.now c.loop-number.places.items c.loop-number.number c.requires c.loop-number-test.true c.in-None.ensures c.loop-number.invariant

pub loop-number-preserved : goal.loop-number-preserved
loop-number-preserved c =
    ap (λ xs. before xs (places_left c.args.nodes.now c.args.named.now (c.loop-number.number + 1))) c.in_ok-push-in-Some.ensures.items
    ∙ place_more c.args.nodes.now c.args.named.now c.args.table.now c.loop-number.places.items c.loop-number.number c.in-Some.found.now c.requires c.loop-number-test.true c.in-Some.ensures c.loop-number.invariant
