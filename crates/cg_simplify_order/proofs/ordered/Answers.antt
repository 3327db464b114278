use Rattle.std.proofs.Common.{List, sym, subst, arith}
use Rattle.cg_model.specs.declared.kernel.OrderEdge.{OrderEdge}
use Rattle.cg_model.specs.Kernel.{Kernel, HasOrder, size}
use Rattle.cg_simplify_order.specs.Needs.{AreMet}
use Rattle.cg_simplify_order.specs.Found.{AreAmong, AreWithin, JoinBelow, edge}
use Rattle.cg_simplify_order.proofs.Valid.{need_at, needs_join, needs_order}
use Rattle.cg_simplify_order.proofs.Stays.{stays}
use Rattle.cg_simplify_order.proofs.ordered.Goals as goal

pub reduced-requires : goal.reduced-requires
reduced-requires c =
    let L = c.args.rewritten.now in
    subst (JoinBelow (size L)) (sym c.deref.ensures.value) (needs_join c.args.given.now L c.in_ok-needs.needs.items c.in_ok-needs.ensures.all)

pub with_edges-requires : goal.with_edges-requires
with_edges-requires c =
    let es = c.in_ok-edges.edges.items in
    let among = subst (λ (all : List OrderEdge). AreAmong all es) c.deref.ensures.value c.in_ok-edges.ensures in
    needs_order c.args.given.now c.args.rewritten.now c.in_ok-needs.needs.items es c.in_ok-needs.ensures.given c.requires c.in_ok-needs.ensures.all among (omega arith)

pub returns-then-branch-clause-needed : goal.returns-then-branch-clause-needed
returns-then-branch-clause-needed c =
    let es = c.in_ok-edges.edges.items in
    let among = subst (λ (all : List OrderEdge). AreAmong all es) c.deref.ensures.value c.in_ok-edges.ensures in
    λ k u v r at.
    need_at c.args.given.now c.args.rewritten.now c.in_ok-needs.needs.items es k (edge u v r) c.in_ok-needs.ensures.all among
    (subst (λ (z : Kernel). HasOrder z k u v r) c.in_ok-kernel.ensures at)

pub returns-then-branch-clause-met : goal.returns-then-branch-clause-met
returns-then-branch-clause-met c =
    let within = subst (λ (all : List OrderEdge). AreWithin c.in_ok-kernel.kernel all) c.deref-2.ensures.value (c.in_ok-meets.ensures c.if-branch.true) in
    λ u v r n. within (edge u v r) (c.in_ok-needs.ensures.all.complete u v r n)

pub returns-then-branch-clause-unaliased : goal.returns-then-branch-clause-unaliased
returns-then-branch-clause-unaliased c =
    let K = c.args.given.now in
    let L = c.args.rewritten.now in
    let M = c.in_ok-kernel.kernel in
    let within = subst (λ (all : List OrderEdge). AreWithin M all) c.deref-2.ensures.value (c.in_ok-meets.ensures c.if-branch.true) in
    let met : AreMet K L M = λ u v r n. within (edge u v r) (c.in_ok-needs.ensures.all.complete u v r n) in
    stays K L M c.in_ok-edges.edges.items c.in_ok-needs.ensures.given c.in_ok-needs.ensures.rewritten c.requires c.in_ok-kernel.ensures met
