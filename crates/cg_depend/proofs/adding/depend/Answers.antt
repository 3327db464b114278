use Rattle.std.proofs.Common.{◌≡◌, ◌+◌, ◌≤◌, List, length, sym, ◌∙◌, ap, subst, arith}
use Rattle.cg_model.specs.Kernel.{IsKernel}
use Rattle.cg_model.specs.declared.kernel.OrderEdge.{OrderEdge}
use Rattle.cg_model.specs.Limits.{most_order_edges}
use Rattle.cg_depend.specs.Depend.{with_order}
use Rattle.cg_depend.proofs.Ordered.{same_left, unaliased}
use Rattle.cg_depend.proofs.Unique.{one_list}
use Rattle.cg_depend.proofs.Valid.{kernel_valid}
use Rattle.cg_depend.proofs.adding.depend.Goals as goal

pub with_order-requires-clause-valid : goal.with_order-requires-clause-valid
with_order-requires-clause-valid c =
    let K = c.args.kernel.now in
    let g = c.in_ok-needed.ensures.gathered in
    let few : c.in_ok-needed.needed.total ≤ most_order_edges = omega arith in
    let same : c.as_slice.result.now ≡ g.edges = c.as_slice.ensures.value ∙ g.kept few in
    subst (λ es. IsKernel (with_order K es)) (sym same) (kernel_valid K g.edges c.in_ok-needed.ensures.valid g.are (omega (arith, g.total, few)))

pub returns-clause-same : goal.returns-clause-same
returns-clause-same c =
    let K = c.args.kernel.now in
    let g = c.in_ok-needed.ensures.gathered in
    let few : c.in_ok-needed.needed.total ≤ most_order_edges = omega arith in
    let same : c.as_slice.result.now ≡ g.edges = c.as_slice.ensures.value ∙ g.kept few in
    λ n image. same_left K c.in_ok-with_order.field-0.kernel n image (g.edges, c.in_ok-with_order.ensures.kernel ∙ ap (with_order K) same, g.are)

pub returns-clause-unaliased : goal.returns-clause-unaliased
returns-clause-unaliased c =
    let K = c.args.kernel.now in
    let g = c.in_ok-needed.ensures.gathered in
    let few : c.in_ok-needed.needed.total ≤ most_order_edges = omega arith in
    let same : c.as_slice.result.now ≡ g.edges = c.as_slice.ensures.value ∙ g.kept few in
    λ n image less. unaliased K c.in_ok-with_order.field-0.kernel n image c.in_ok-needed.ensures.valid.wired (g.edges, c.in_ok-with_order.ensures.kernel ∙ ap (with_order K) same, g.are) less

pub returns-clause-fits : goal.returns-clause-fits
returns-clause-fits c =
    let K = c.args.kernel.now in
    let g = c.in_ok-needed.ensures.gathered in
    let few : c.in_ok-needed.needed.total ≤ most_order_edges = omega arith in
    λ n needs.
    let same : needs.0 ≡ g.edges = one_list K needs.0 g.edges needs.1 g.are in
    let all : n ≡ length K.order + length g.edges = needs.2 ∙ ap (λ (es : List OrderEdge). length K.order + length es) same in
    omega (arith, all, g.total, few)
