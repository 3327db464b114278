use Rattle.std.proofs.Common.{arith}
use Rattle.cg_datapath.specs.declared.fault.SimFault.TheVariants.{TooManyTurns, ImageTooLarge}
use Rattle.cg_datapath.proofs.Carried.{carried}
use Rattle.cg_history.proofs.running.simulate.Goals as goal

pub returns-in-Err-clause-few : goal.returns-in-Err-clause-few
returns-in-Err-clause-few g c = λ t e.
    let many = (carried _ c.in-Err.fault (TooManyTurns t) _ (c.in-Err.ensures.many t)).0 e in
    let above = many.1 in
    let few = c.requires.turns in
    omega arith

pub returns-in-Err-clause-small : goal.returns-in-Err-clause-small
returns-in-Err-clause-small g c = λ w e.
    let large = (carried _ c.in-Err.fault (ImageTooLarge w) _ (c.in-Err.ensures.large w)).0 e in
    let same = large.0 in
    let above = large.2 in
    let fits = c.requires.fits in
    omega arith
