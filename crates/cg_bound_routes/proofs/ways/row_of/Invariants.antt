use Rattle.cg_bound_routes.specs.Question.{AreAnswers, IsRowTo}
use Rattle.cg_bound_routes.proofs.ways.row_of.Given as goal

abbrev pub invariant-loop-arg : goal.invariant-loop-arg
invariant-loop-arg l =
    record {
      row : IsRowTo l.instance.arch.now l.instance.kernel.now l.instance.ii l.node l.arg l.row.items;
      answers : AreAnswers l.instance.arch.now l.answers.items;
    }
