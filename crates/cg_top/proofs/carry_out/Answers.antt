use Rattle.std.proofs.Common.{rules, ◌≡◌, inl, refl}
use Rattle.cg_effects.specs.Outcome.{outcome_of}
use Rattle.cg_top.proofs.Calls.{calls, stopped, finished_since, none_written}
use Rattle.cg_top.proofs.carry_out.Goals as goal

pub returns-in-Ok-clause-calls : goal.returns-in-Ok-clause-calls
returns-in-Ok-clause-calls g c =
    let asked : g.S.Store.asked c.finish-status.new.store ≡ g.S.Store.asked c.outcome.new.store = search rules in
    let wrote : g.S.Store.wrote c.outcome.new.store ≡ g.S.Store.wrote c.args.store.now = search rules in
    let held : g.S.Store.held c.outcome.new.store ≡ g.S.Store.held c.args.store.now = search rules in
    let reads : g.S.Store.read_faults c.finish-status.new.store ≡ g.S.Store.read_faults c.outcome.new.store = search rules in
    let writes : g.S.Store.write_faults c.outcome.new.store ≡ g.S.Store.write_faults c.args.store.now = search rules in
    calls _ _ _ _ (outcome_of c.in-Ok.outcome) (rw reads c.in-Ok.ensures.ok)
    (finished_since _ _ _ _ _ _ _ _ _ _ _ held writes c.finish-status.ensures.ends)
    _ _ _ _ (rw asked c.in-Ok.ensures.asks) (rw (← wrote) c.finish-status.ensures.wrote) (rw (← wrote) c.finish-status.ensures.wrote_all)

pub returns-in-Err-clause-calls : goal.returns-in-Err-clause-calls
returns-in-Err-clause-calls g c =
    let wrote : g.S.Store.wrote c.outcome.new.store ≡ g.S.Store.wrote c.args.store.now = search rules in
    stopped _ _ _ _ _ _ _ _ (inl refl) c.in-Err.ensures.asks (rw wrote (none_written _ _))
