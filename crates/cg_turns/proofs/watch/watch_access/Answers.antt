use Rattle.std.proofs.Common.{rules, subst}
use Rattle.std.specs.Vec.{with_item}
use Rattle.cg_model.specs.Kernel.{Kernel}
use Rattle.cg_turns.specs.declared.watch.Watch.{Watch}
use Rattle.cg_turns.specs.Trace.{IsLatest, rivals_of}
use Rattle.cg_turns.proofs.Pairs.{watches_made}
use Rattle.cg_turns.proofs.watch.watch_access.Goals as goal

pub returns : goal.returns
returns c =
    let last = c.index_mut-last.result.now in
    let stores = c.is_store-stores.result in
    let new : Watch = record { words = with_item c.args.watch.now.words c.args.address c.take.new.self; pair = c.paired-watch.result; places = c.take.new.places } in
    watches_made c.args.kernel.now c.args.address c.args.access c.args.watch.now new stores last c.take.new.self c.latest_unordered-found.result c.requires.address c.is_store-stores.ensures c.index_mut-last.ensures.value
    (search rules) c.in_ok-take.ensures
    (subst (λ (K : Kernel). IsLatest K c.args.access last.store (rivals_of stores last) c.latest_unordered-found.result) c.requires.table c.latest_unordered-found.ensures)
    c.paired-watch.ensures
