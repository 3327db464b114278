use Rattle.cg_datapath.specs.declared.fault.SimFault.TheVariants.{TooManyTurns, ImageTooLarge}
use Rattle.cg_datapath.proofs.Carried.{carried}
use Rattle.cg_history.proofs.running.run.Goals as goal

pub returns-in-Err-clause-many : goal.returns-in-Err-clause-many
returns-in-Err-clause-many g c = λ t. carried _ c.in-Err.fault (TooManyTurns t) _ (c.in-Err.ensures.many t)

pub returns-in-Err-clause-large : goal.returns-in-Err-clause-large
returns-in-Err-clause-large g c = λ w. carried _ c.in-Err.fault (ImageTooLarge w) _ (c.in-Err.ensures.large w)
