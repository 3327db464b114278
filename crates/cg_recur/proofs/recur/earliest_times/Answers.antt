use Rattle.std.proofs.Common.{List, length, refl, ap}
use Rattle.cg_model.specs.declared.kernel.Node.{Node}
use Rattle.cg_recur.proofs.Named.{within, listed, none_numbered, times_named}
use Rattle.cg_recur.proofs.Made as made
use Rattle.cg_recur.proofs.recur.earliest_times.Goals as goal

pub make_rounds-requires-clause-within : goal.make_rounds-requires-clause-within
make_rounds-requires-clause-within c =
    within c.args.arch.now c.args.kernel.now c.latencies_are_small.ensures c.nodes-nodes.ensures.valid c.in_ok-list.list.names.items c.in_ok-list.list.edges.items c.as_slice-edges.result.now c.nodes-nodes.result.now c.in_ok-list.ensures c.as_slice-edges.ensures.value c.nodes-nodes.ensures.nodes

pub times-requires-clause-good : goal.times-requires-clause-good
times-requires-clause-good c =
    let m = c.in_ok-made.made in
    let es = c.as_slice-edges.result.now in
    let n = length c.nodes-nodes.result.now in
    made.good es c.args.ii n c.as_slice-log.result.now c.as_slice-last.result.now m.is_deep
    (made.made_at es c.args.ii n m.log.items c.as_slice-log.result.now m.last.items c.as_slice-last.result.now m.is_deep c.as_slice-log.ensures.value c.as_slice-last.ensures.value c.in_ok-made.ensures)

pub times-requires-clause-shallow : goal.times-requires-clause-shallow
times-requires-clause-shallow c =
    let m = c.in_ok-made.made in
    let es = c.as_slice-edges.result.now in
    let n = length c.nodes-nodes.result.now in
    let good = listed c.args.arch.now c.args.kernel.now c.in_ok-list.list.names.items c.in_ok-list.list.names.items c.in_ok-list.list.edges.items es c.in_ok-list.ensures refl c.as_slice-edges.ensures.value in
    let h = made.made_at es c.args.ii n m.log.items c.as_slice-log.result.now m.last.items c.as_slice-last.result.now m.is_deep c.as_slice-log.ensures.value c.as_slice-last.ensures.value c.in_ok-made.ensures in
    made.shallow es c.args.ii n c.as_slice-log.result.now c.as_slice-last.result.now
    (made.none_deep es c.args.ii n c.as_slice-log.result.now c.as_slice-last.result.now m.is_deep (none_numbered c.args.arch.now c.args.kernel.now c.in_ok-list.list.names.items es good c.args.ii c.requires) h)

pub returns : goal.returns
returns c =
    let m = c.in_ok-made.made in
    let es = c.as_slice-edges.result.now in
    let n = length c.nodes-nodes.result.now in
    let good = listed c.args.arch.now c.args.kernel.now c.in_ok-list.list.names.items c.in_ok-list.list.names.items c.in_ok-list.list.edges.items es c.in_ok-list.ensures refl c.as_slice-edges.ensures.value in
    let inside = within c.args.arch.now c.args.kernel.now c.latencies_are_small.ensures c.nodes-nodes.ensures.valid c.in_ok-list.list.names.items c.in_ok-list.list.edges.items es c.nodes-nodes.result.now c.in_ok-list.ensures c.as_slice-edges.ensures.value c.nodes-nodes.ensures.nodes in
    let h = made.made_at es c.args.ii n m.log.items c.as_slice-log.result.now m.last.items c.as_slice-last.result.now m.is_deep c.as_slice-log.ensures.value c.as_slice-last.ensures.value c.in_ok-made.ensures in
    let none = none_numbered c.args.arch.now c.args.kernel.now c.in_ok-list.list.names.items es good c.args.ii c.requires in
    let a = made.early es c.args.ii n c.as_slice-log.result.now c.as_slice-last.result.now inside c.in_ok-early.early.items
    (made.none_deep es c.args.ii n c.as_slice-log.result.now c.as_slice-last.result.now m.is_deep none h) c.in_ok-early.ensures in
    let b = times_named c.args.arch.now c.args.kernel.now c.in_ok-list.list.names.items es good c.args.ii n c.in_ok-early.early.items (ap (λ (z : List Node). length z) c.nodes-nodes.ensures.nodes) a.0 a.1 a.2 in
    record { each = b.0; right = b.1 }
