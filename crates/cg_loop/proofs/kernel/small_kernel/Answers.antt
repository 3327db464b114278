use Rattle.std.proofs.Common.{◌≡◌, ◌<◌, ◌≤◌, ◌∙◌, Some, length, ap, ap₂, sym, subst, arith}
use Rattle.cg_model.specs.Kernel.{IsKernel, size}
use Rattle.cg_loop_syntax.specs.declared.fault.Excess.TheVariants.{Order}
use Rattle.cg_loop_syntax.specs.Body.{body_of}
use Rattle.cg_loop_laws.specs.Translate.{loop_kernel_of}
use Rattle.cg_loop.proofs.Bodies.{nodes_same, order_same, size_same}
use Rattle.cg_loop.proofs.Excesses.{excess_absurd, excess_exact, excess_order}
use Rattle.cg_loop.proofs.Valid.{kernel_valid}
use Rattle.cg_loop.proofs.kernel.small_kernel.Goals as goal

pub returns-then-count-gt-MOST_ORDER_EDGES-clause-fault : goal.returns-then-count-gt-MOST_ORDER_EDGES-clause-fault
returns-then-count-gt-MOST_ORDER_EDGES-clause-fault c =
    let K = loop_kernel_of (body_of c.args.body.now) in
    let es = order_same c.args.body.now _ _ _ _ c.in_ok-order.ensures (c.accesses.ensures ∙ c.in_ok-code.ensures.accesses) c.as_slice-decls.ensures c.as_slice.ensures in
    let v = c.in_ok-order.order.ok in
    let n : length K.order ≡ c.len-count.result = sym (ap length es) ∙ omega arith in
    let s : size K ≤ 1024 = omega (arith, size_same c.args.body.now) in
    let big : 4096 < length K.order = omega arith in
    excess_order K s big ∙ ap (λ z. Some (Order z)) n

pub returns-then-count-gt-MOST_ORDER_EDGES-clause-exact : goal.returns-then-count-gt-MOST_ORDER_EDGES-clause-exact
returns-then-count-gt-MOST_ORDER_EDGES-clause-exact c = λ x e.
    excess_exact (loop_kernel_of (body_of c.args.body.now)) x (Order c.len-count.result) (returns-then-count-gt-MOST_ORDER_EDGES-clause-fault c) e

pub new-requires : goal.new-requires
new-requires c =
    let K = loop_kernel_of (body_of c.args.body.now) in
    let es = order_same c.args.body.now _ _ _ _ c.in_ok-order.ensures (c.accesses.ensures ∙ c.in_ok-code.ensures.accesses) c.as_slice-decls.ensures c.as_slice.ensures in
    let ns = c.into_nodes.ensures ∙ nodes_same c.args.body.now _ _ _ c.in_ok-code.ensures.nodes c.as_slice-decls.ensures c.as_slice.ensures in
    let v = c.in_ok-order.order.ok in
    let few : length K.order ≤ 4096 = omega (arith, ap length es) in
    let s : size K ≤ 1024 = omega (arith, size_same c.args.body.now) in
    subst IsKernel (ap₂ (λ n o. record { nodes = n; order = o }) (sym ns) (sym es)) (kernel_valid c.args.body.now s few)

pub returns-clause-exact : goal.returns-clause-exact
returns-clause-exact c = λ x e.
    let K = loop_kernel_of (body_of c.args.body.now) in
    let es = order_same c.args.body.now _ _ _ _ c.in_ok-order.ensures (c.accesses.ensures ∙ c.in_ok-code.ensures.accesses) c.as_slice-decls.ensures c.as_slice.ensures in
    let v = c.in_ok-order.order.ok in
    let few : length K.order ≤ 4096 = omega (arith, ap length es) in
    let s : size K ≤ 1024 = omega (arith, size_same c.args.body.now) in
    excess_absurd K x s few e
