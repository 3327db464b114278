use Rattle.std.proofs.Common.{ap}
use Rattle.cg_history.specs.State.{cycle_in}
use Rattle.cg_history.proofs.Rounds.{cycle_after}
use Rattle.cg_history.proofs.replay.run_cycle.Goals as goal

pub returns-clause-state : goal.returns-clause-state
returns-clause-state g c =
    let A = c.args.run.now.arch.now in
    let C = g.C.Contexts.config c.args.run.now.contexts.now in
    let done = c.begin_tasks.ensures in
    let last = c.store_pending.ensures in
    let next = c.advance.ensures in
    cycle_after A C c.args.run.now.n c.args.run.now.image.now (cycle_in C c.args.slot c.args.round) c.requires.canonical c.requires.valid.small.units
    c.args.history.now c.args.effects.now c.requires.state c.begin_tasks.new.history done.kept done.now
    c.advance.new.self next.units next.rows next.first next.later
    c.begin_tasks.new.effects c.store_pending.new.self done.effects done.few last.memory last.pending last.room (ap (λ z. z.items) last.streams) last.outside
