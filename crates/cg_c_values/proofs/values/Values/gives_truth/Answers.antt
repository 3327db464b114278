use Rattle.std.proofs.lemmas.Bool.{leb-true}
use Rattle.cg_c_values.proofs.Known.{const_truth, select_truth, two_truth}
use Rattle.cg_c_values.proofs.values.Values.gives_truth.Goals as goal

pub returns-in-Const : goal.returns-in-Const
returns-in-Const c = λ h. const_truth c.args.self.now.values.keys c.args.value c.in-Const.word c.in-Const.is (leb-true c.in-Const.word 1 h)

pub returns-in-Two : goal.returns-in-Two
returns-in-Two c = λ h. two_truth c.args.self.now.values.keys c.args.value c.in-Two.op c.in-Two.first c.in-Two.second c.in-Two.is (c.two_gives_truth.ensures h)

pub returns-then-is_truth : goal.returns-then-is_truth
returns-then-is_truth c = λ h. select_truth c.args.self.now.values.keys c.args.value c.in-Select.condition c.in-Select.chosen c.in-Select.other c.in-Select.is (c.is_truth.ensures c.if-is_truth.true) (c.is_truth-then-is_truth.ensures h)
