use Rattle.cg_loop_laws.proofs.Ruled.{body_sound}
use Rattle.cg_loop_laws.proofs.LoopTurns.{leaves_the_same}
use Rattle.cg_loop_laws.proofs.turns_are_the_loop.Goals as goal

pub returns : goal.returns
returns c P n image h room = leaves_the_same P n image (body_sound P h) room
