use Rattle.std.proofs.Common.{length, refl, ap, subst, List}
use Rattle.cg_model.specs.declared.kernel.Node.{Node}
use Rattle.cg_recur.specs.Numbered.{IsNumbered}
use Rattle.cg_recur.proofs.Named.{within, listed, numbers_within, cycle_named, times_named}
use Rattle.cg_recur.proofs.recur.recurrence.Goals as goal

pub longest_chains-requires-clause-within : goal.longest_chains-requires-clause-within
longest_chains-requires-clause-within c =
    within c.args.arch.now c.args.kernel.now c.latencies_are_small.ensures c.nodes-nodes.ensures.valid c.in_ok-list.list.names.items c.in_ok-list.list.edges.items c.deref.result.now c.nodes-nodes.result.now c.in_ok-list.ensures c.deref.ensures.value c.nodes-nodes.ensures.nodes

pub name_all-requires : goal.name_all-requires
name_all-requires c =
    let good = listed c.args.arch.now c.args.kernel.now c.in_ok-list.list.names.items c.deref-in-Cycle.result.now c.in_ok-list.list.edges.items c.deref.result.now c.in_ok-list.ensures c.deref-in-Cycle.ensures.value c.deref.ensures.value in
    numbers_within c.args.arch.now c.args.kernel.now c.deref-in-Cycle.result.now c.deref.result.now good c.args.ii c.in-Cycle.numbers.items c.deref-in-Cycle-2.result.now c.deref-in-Cycle-2.ensures.value
    (subst (IsNumbered c.deref.result.now (length c.nodes-nodes.result.now) c.args.ii) c.in-Cycle.is c.in_ok-numbers.ensures)

pub returns-in-Cycle : goal.returns-in-Cycle
returns-in-Cycle c =
    let good = listed c.args.arch.now c.args.kernel.now c.in_ok-list.list.names.items c.deref-in-Cycle.result.now c.in_ok-list.list.edges.items c.deref.result.now c.in_ok-list.ensures c.deref-in-Cycle.ensures.value c.deref.ensures.value in
    cycle_named c.args.arch.now c.args.kernel.now c.deref-in-Cycle.result.now c.deref.result.now good c.args.ii c.in-Cycle.numbers.items c.deref-in-Cycle-2.result.now c.in_ok-name_all-in-Cycle.field-0.items c.deref-in-Cycle-2.ensures.value
    (subst (IsNumbered c.deref.result.now (length c.nodes-nodes.result.now) c.args.ii) c.in-Cycle.is c.in_ok-numbers.ensures)
    c.in_ok-name_all-in-Cycle.ensures

pub returns : goal.returns
returns c =
    let good = listed c.args.arch.now c.args.kernel.now c.in_ok-list.list.names.items c.in_ok-list.list.names.items c.in_ok-list.list.edges.items c.deref.result.now c.in_ok-list.ensures refl c.deref.ensures.value in
    let h = subst (IsNumbered c.deref.result.now (length c.nodes-nodes.result.now) c.args.ii) c.in-Times.is c.in_ok-numbers.ensures in
    times_named c.args.arch.now c.args.kernel.now c.in_ok-list.list.names.items c.deref.result.now good c.args.ii (length c.nodes-nodes.result.now) c.in-Times.times.items
    (ap (λ (z : List Node). length z) c.nodes-nodes.ensures.nodes) h.0 h.1 h.2
