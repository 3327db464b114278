use Rattle.cg_commands.proofs.Chain.{compose, compose_four, compose_simplified}
use Rattle.cg_commands.proofs.laws.calls_compose.Goals as goal

pub returns-clause-loops : goal.returns-clause-loops
returns-clause-loops c = compose

pub returns-clause-simplified : goal.returns-clause-simplified
returns-clause-simplified c = compose_simplified

pub returns-clause-simplified_loops : goal.returns-clause-simplified_loops
returns-clause-simplified_loops c = compose_four
