use Rattle.cg_model.specs.Turns.{operand}
use Rattle.cg_simplify_facts.proofs.operands.facts_of.Goals as goal

pub returns : goal.returns
returns c = λ is V i suits.
    let second = c.fact_at-second.ensures is V i suits in
    let third = c.fact_at-third.ensures is V i suits in
    record {
      first = c.fact_at-first.ensures is V i suits;
      second = second;
      third = third;
      equal = λ e. c.are_equal_at.ensures e (operand V i);
      alike = λ e. c.are_alike.ensures e (operand V i) second third;
    }
