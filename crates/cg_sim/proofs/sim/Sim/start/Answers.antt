use Rattle.std.proofs.Common.{arith}
use Rattle.cg_datapath.specs.declared.fault.SimFault.TheVariants.{TooManyTurns, ImageTooLarge}
use Rattle.cg_datapath.proofs.Carried.{carried}
use Rattle.cg_sim.proofs.Chosen.{are_short}
use Rattle.cg_sim.proofs.Cycles.{first_running, terminals_by}
use Rattle.cg_sim.proofs.sim.Sim.start.Goals as goal

pub new-requires-clause-latencies : goal.new-requires-clause-latencies
new-requires-clause-latencies g c =
    let A = c.args.arch.now in
    let us = c.in_ok-terminals.terminals.items in
    are_short A us (terminals_by A _ _ us c.units.ensures.units c.resources.ensures.resources c.in_ok-terminals.ensures) c.in_ok-none.ensures.valid

pub invariant_of-result : goal.invariant_of-result
invariant_of-result g c =
    let A = c.args.arch.now in
    let C = g.C.Contexts.config c.args.contexts.now in
    let us = c.in_ok-terminals.terminals.items in
    let none = c.in_ok-none.ensures in
    first_running A C c.args.n c.args.image.now us c.in_ok-none.none.words.items c.in_ok-none.none.before.items c.in-Ok.course none.words none.before c.in-Ok.ensures.ok none.valid c.requires.canonical c.in_ok-plan.plan c.in_ok-plan.ensures
    (terminals_by A _ _ us c.units.ensures.units c.resources.ensures.resources c.in_ok-terminals.ensures)

pub returns-in-Err-clause-few : goal.returns-in-Err-clause-few
returns-in-Err-clause-few g c = λ t e.
    let many = (carried _ c.in-Err.fault (TooManyTurns t) _ (c.in-Err.ensures.many t)).0 e in
    let above = many.1 in
    let few = c.requires.turns in
    omega arith

pub returns-in-Err-clause-small : goal.returns-in-Err-clause-small
returns-in-Err-clause-small g c = λ w e.
    let large = (carried _ c.in-Err.fault (ImageTooLarge w) _ (c.in-Err.ensures.large w)).0 e in
    let same = large.0 in
    let above = large.2 in
    let fits = c.requires.fits in
    omega arith
