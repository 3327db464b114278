use Rattle.std.proofs.Common.{◌≡◌, ◌+◌, length, arith, ap, sym, subst, List, get_or, Some}
use Rattle.std.specs.Prelude.{slice_get}
use Rattle.std.proofs.lemmas.Option.{slice_get-get_or}
use Rattle.cg_model.specs.declared.kernel.OrderEdge.{OrderEdge}
use Rattle.cg_model.specs.Kernel.{IsKernel, HasOrder, size}
use Rattle.cg_distance.specs.Leaving.{HasLinks, Seen}
use Rattle.cg_distance.proofs.Seen.{order_added, all_seen}
use Rattle.cg_distance.proofs.links.add_order.Goals as goal

pub loop-number-preserved : goal.loop-number-preserved
loop-number-preserved c =
    let K = c.args.kernel.now in
    let good : IsKernel K = c.order-order.ensures.valid in
    let k = c.loop-number.number in
    let edge : OrderEdge = get_or c.order-order.result.now k record { from = 0; to = 0; distance = 0 } in
    let has : HasOrder K k edge.from edge.to edge.distance = subst (λ (xs : List OrderEdge). slice_get xs k ≡ Some edge) c.order-order.ensures.order (slice_get-get_or c.order-order.result.now k record { from = 0; to = 0; distance = 0 } c.loop-number-test.true) in
    subst (λ z. HasLinks (size K) (Seen K (size K) 0 (k + 1)) z) (sym c.in_ok-add_link.ensures)
    (order_added K good k edge.from edge.to edge.distance c.loop-number.lists has c.loop-number.invariant)

pub returns : goal.returns
returns c =
    let K = c.args.kernel.now in
    let long : length c.order-order.result.now ≡ length K.order = ap length c.order-order.ensures.order in
    let e : c.loop-number.number ≡ length K.order = omega arith in
    all_seen K c.loop-number.lists (subst (λ z. HasLinks (size K) (Seen K (size K) 0 z) c.loop-number.lists) e c.loop-number.invariant)
