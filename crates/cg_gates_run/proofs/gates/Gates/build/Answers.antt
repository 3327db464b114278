use Rattle.std.proofs.Common.{sym, ◌∙◌}
use Rattle.cg_gates.specs.Accepts.{early}
use Rattle.cg_gates_run.proofs.gates.Gates.build.Goals as goal

pub returns-in-Some-clause-answer : goal.returns-in-Some-clause-answer
returns-in-Some-clause-answer c = λ _. early (sym c.in_ok-fault.ensures ∙ c.in-Some.is)
