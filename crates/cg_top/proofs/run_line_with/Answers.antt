use Rattle.cg_top.proofs.Call.{call}
use Rattle.cg_top.proofs.run_line_with.Goals as goal

pub returns-clause-call : goal.returns-clause-call
returns-clause-call g c = call _ _ _ _ c.carry_out.ensures.ends (record { reads = c.carry_out.ensures.reads; writes = c.carry_out.ensures.writes; puts = c.carry_out.ensures.faults })
