use Rattle.std.proofs.Common.{◌<◌, ◌∙◌, Some, ap, sym, arith, map}
use Rattle.cg_model.specs.Kernel.{size}
use Rattle.cg_loop_syntax.specs.declared.fault.Excess.TheVariants.{Nodes}
use Rattle.cg_loop_syntax.specs.Body.{body_of}
use Rattle.cg_loop_syntax.specs.Grouped.{stmt_of}
use Rattle.cg_loop_laws.specs.Translate.{body_cost, loop_kernel_of}
use Rattle.cg_loop.proofs.Bodies.{size_same}
use Rattle.cg_loop.proofs.Excesses.{excess_exact, excess_nodes}
use Rattle.cg_loop.proofs.kernel.loop_kernel.Goals as goal

pub small_kernel-requires : goal.small_kernel-requires
small_kernel-requires c = omega (arith, c.in_ok-size.ensures ∙ ap (λ z. body_cost (map stmt_of z)) c.as_slice.ensures)

pub returns-then-size-gt-MOST_NODES-clause-fault : goal.returns-then-size-gt-MOST_NODES-clause-fault
returns-then-size-gt-MOST_NODES-clause-fault c =
    let n = size_same c.args.body.now ∙ sym (c.in_ok-size.ensures ∙ ap (λ z. body_cost (map stmt_of z)) c.as_slice.ensures) in
    let big : 1024 < size (loop_kernel_of (body_of c.args.body.now)) = omega arith in
    excess_nodes (loop_kernel_of (body_of c.args.body.now)) big ∙ ap (λ z. Some (Nodes z)) n

pub returns-then-size-gt-MOST_NODES-clause-exact : goal.returns-then-size-gt-MOST_NODES-clause-exact
returns-then-size-gt-MOST_NODES-clause-exact c = λ x e.
    let n = size_same c.args.body.now ∙ sym (c.in_ok-size.ensures ∙ ap (λ z. body_cost (map stmt_of z)) c.as_slice.ensures) in
    let big : 1024 < size (loop_kernel_of (body_of c.args.body.now)) = omega arith in
    excess_exact (loop_kernel_of (body_of c.args.body.now)) x (Nodes c.in_ok-size.size) (excess_nodes (loop_kernel_of (body_of c.args.body.now)) big ∙ ap (λ z. Some (Nodes z)) n) e
