use Rattle.cg_loop_laws.proofs.Ruled.{body_sound, body_ruled}
use Rattle.cg_loop_laws.proofs.Valid.{valid}
use Rattle.cg_loop_laws.proofs.kernels_are_valid.Goals as goal

pub returns : goal.returns
returns c P h few few_edges = valid P (body_sound P h) (body_ruled P h) few few_edges
