use Rattle.std.proofs.Common.{◌+◌, ◌*◌, length, refl, subst}
use Rattle.cg_bound_registers.specs.Sums.{table}
use Rattle.cg_recur.specs.Numbered.{IsNumbered}
use Rattle.cg_recur.proofs.Named.{listed}
use Rattle.cg_bound_recurrence.proofs.Found.{lengthened, quick_at, all_within, numbers_within, cycle_named, none_named}
use Rattle.cg_bound_recurrence.proofs.find.find_way_cycle.Goals as goal

pub lengthen-requires-clause-quick : goal.lengthen-requires-clause-quick
lengthen-requires-clause-quick c =
    let l = c.in_ok-list.list in
    quick_at c.args.arch.now c.args.kernel.now l.names.items c.deref-2.result.now
    (listed c.args.arch.now c.args.kernel.now l.names.items l.names.items l.edges.items c.deref-2.result.now c.in_ok-list.ensures refl c.deref-2.ensures.value)
    c.latencies_are_small.ensures

pub longest_chains-requires-clause-within : goal.longest_chains-requires-clause-within
longest_chains-requires-clause-within c =
    let l = c.in_ok-list.list in
    let long = lengthened (table c.args.hops.now) l.names.items c.deref.result.now l.edges.items c.deref-2.result.now c.in_ok-edges.edges.items c.deref-3.result.now c.deref.ensures.value c.deref-2.ensures.value c.deref-3.ensures.value c.in_ok-edges.ensures in
    all_within c.args.arch.now c.args.kernel.now l.names.items l.edges.items c.in_ok-list.ensures (table c.args.hops.now) c.deref-3.result.now long c.latencies_are_small.ensures c.nodes-nodes.ensures.valid (λ v p. c.requires.small (3 * v + p)) c.nodes-nodes.result.now c.nodes-nodes.ensures.nodes

pub name_all-requires : goal.name_all-requires
name_all-requires c =
    let l = c.in_ok-list.list in
    let long = lengthened (table c.args.hops.now) l.names.items c.deref.result.now l.edges.items c.deref-2.result.now c.in_ok-edges.edges.items c.deref-3.result.now c.deref.ensures.value c.deref-2.ensures.value c.deref-3.ensures.value c.in_ok-edges.ensures in
    numbers_within c.args.arch.now c.args.kernel.now l.names.items l.edges.items c.in_ok-list.ensures (table c.args.hops.now) c.deref-3.result.now long c.args.ii c.deref-in-Cycle.result.now c.in-Cycle.numbers.items c.deref-in-Cycle-2.result.now c.deref-in-Cycle.ensures.value c.deref-in-Cycle-2.ensures.value
    (subst (IsNumbered c.deref-3.result.now (length c.nodes-nodes.result.now) c.args.ii) c.in-Cycle.is c.in_ok-numbers.ensures)

pub returns-in-Cycle : goal.returns-in-Cycle
returns-in-Cycle c =
    let l = c.in_ok-list.list in
    let long = lengthened (table c.args.hops.now) l.names.items c.deref.result.now l.edges.items c.deref-2.result.now c.in_ok-edges.edges.items c.deref-3.result.now c.deref.ensures.value c.deref-2.ensures.value c.deref-3.ensures.value c.in_ok-edges.ensures in
    cycle_named c.args.arch.now c.args.kernel.now l.names.items l.edges.items c.in_ok-list.ensures (table c.args.hops.now) c.deref-3.result.now long c.args.ii c.deref-in-Cycle.result.now c.in-Cycle.numbers.items c.deref-in-Cycle-2.result.now c.in_ok-name_all-in-Cycle.field-0.items c.deref-in-Cycle.ensures.value c.deref-in-Cycle-2.ensures.value
    (subst (IsNumbered c.deref-3.result.now (length c.nodes-nodes.result.now) c.args.ii) c.in-Cycle.is c.in_ok-numbers.ensures)
    c.in_ok-name_all-in-Cycle.ensures

pub returns : goal.returns
returns c =
    let l = c.in_ok-list.list in
    let long = lengthened (table c.args.hops.now) l.names.items c.deref.result.now l.edges.items c.deref-2.result.now c.in_ok-edges.edges.items c.deref-3.result.now c.deref.ensures.value c.deref-2.ensures.value c.deref-3.ensures.value c.in_ok-edges.ensures in
    let h = subst (IsNumbered c.deref-3.result.now (length c.nodes-nodes.result.now) c.args.ii) c.in-Times.is c.in_ok-numbers.ensures in
    none_named c.args.arch.now c.args.kernel.now l.names.items l.edges.items c.in_ok-list.ensures (table c.args.hops.now) c.deref-3.result.now long c.args.ii h.2
