use Rattle.cg_c_values.proofs.Truths.{and_truth_first, and_truth_second, either_truth, shr_truth, test_truth}
use Rattle.cg_c_values.proofs.values.Values.two_gives_truth.Goals as goal

pub returns-in-Eq : goal.returns-in-Eq
returns-in-Eq c = λ _ x E f. test_truth c.args.op c.in-Eq.is (E c.args.first) (E c.args.second)

pub returns-then-is_truth : goal.returns-then-is_truth
returns-then-is_truth c = λ h x E f. and_truth_first c.args.op (E c.args.first) (E c.args.second) c.in-And.is ((c.is_truth.ensures h).is x E f)

pub returns-else-is_truth : goal.returns-else-is_truth
returns-else-is_truth c = λ h x E f. and_truth_second c.args.op (E c.args.first) (E c.args.second) c.in-And.is ((c.is_truth-else-is_truth.ensures h).is x E f)

pub returns-then-is_truth-2 : goal.returns-then-is_truth-2
returns-then-is_truth-2 c = λ h x E f. either_truth c.args.op (E c.args.first) (E c.args.second) c.in-Or.is ((c.is_truth-in-Or.ensures c.if-is_truth-2.true).is x E f) ((c.is_truth-then-is_truth-2.ensures h).is x E f)

pub returns-in-Shr : goal.returns-in-Shr
returns-in-Shr c = λ h x E f. shr_truth c.args.op (E c.args.first) (E c.args.second) c.in-Shr.is (f.word c.args.first c.requires.first) ((c.is_number.ensures h).is x E f)
