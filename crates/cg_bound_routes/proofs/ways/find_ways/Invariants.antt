use Rattle.cg_bound_routes.specs.Question.{AreAnswers, AreRowsTo}
use Rattle.cg_bound_routes.proofs.ways.find_ways.Given as goal

abbrev pub invariant-loop-node : goal.invariant-loop-node
invariant-loop-node l =
    record {
      rows : AreRowsTo l.arch l.kernel l.ii l.node l.rows.items;
      answers : AreAnswers l.arch l.answers.items;
    }
