use Rattle.cg_loop_laws.proofs.Rows.{well_loop}
use Rattle.cg_loop_laws.proofs.bodies_are_loops.Goals as goal

pub returns : goal.returns
returns c b = well_loop b.decls b.stmts b.well
