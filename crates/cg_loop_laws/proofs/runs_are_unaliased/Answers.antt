use Rattle.cg_loop_laws.proofs.Ruled.{body_sound}
use Rattle.cg_loop_laws.proofs.Edges.{unaliased}
use Rattle.cg_loop_laws.proofs.runs_are_unaliased.Goals as goal

pub returns : goal.returns
returns c P n image h = unaliased P n image (body_sound P h)
