use Rattle.cg_overlap.proofs.Solution.{run, same}
use Rattle.cg_overlap.proofs.runs.Goals as goal

pub returns : goal.returns
returns c = record { solved = run; once = same }
