use Rattle.cg_c_values.proofs.Deciding.{by_eq, by_ne, is_condition, is_negation}
use Rattle.cg_c_values.proofs.values.Values.choice_by_test.Goals as goal

pub returns-in-Some-default-eq0 : goal.returns-in-Some-default-eq0
returns-in-Some-default-eq0 c = by_eq c.args.self.now.values.keys c.args.condition c.args.chosen c.args.other c.requires.condition c.requires.chosen c.requires.other c.in-Some-default-eq0.tested c.in-Some-default-eq0.field-0-1 c.in-Some-default-eq0.ensures.within c.in-Some-default-eq0.field-0-1-test c.in-Some-default-eq0.ensures.means

pub returns-in-Some-default-eq0-inner : goal.returns-in-Some-default-eq0-inner
returns-in-Some-default-eq0-inner c = by_ne c.args.self.now.values.keys c.args.condition c.args.chosen c.args.other c.requires.condition c.requires.chosen c.requires.other c.in-Some-default-eq0-inner.tested c.in-Some-default-eq0-inner.field-0-1 c.in-Some-default-eq0-inner.ensures.within c.in-Some-default-eq0-inner.field-0-1-test c.in-Some-default-eq0-inner.ensures.means

pub returns-then-are_numbers : goal.returns-then-are_numbers
returns-then-are_numbers c = is_condition c.args.self.now.values.keys c.args.condition c.args.chosen c.args.other c.requires.condition c.requires.chosen c.requires.other c.is.result c.is.ensures (c.is_truth.ensures c.if-is_truth.true) (c.are_numbers.ensures.first c.if-are_numbers.true) (c.are_numbers.ensures.second c.if-are_numbers.true)

pub returns-then-are_numbers-2 : goal.returns-then-are_numbers-2
returns-then-are_numbers-2 c = is_negation c.args.self.now.values.keys c.args.condition c.args.chosen c.args.other c.requires.condition c.requires.chosen c.requires.other c.plan_negated.result c.plan_negated.ensures (c.are_numbers-then-is_truth.ensures.first c.if-are_numbers-2.true) (c.are_numbers-then-is_truth.ensures.second c.if-are_numbers-2.true)
