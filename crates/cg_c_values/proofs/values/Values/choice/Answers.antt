use Rattle.cg_c_values.proofs.Deciding.{is_chosen, is_other, is_same}
use Rattle.cg_c_values.proofs.Planning.{number_is}
use Rattle.cg_c_values.proofs.values.Values.choice.Goals as goal

pub returns-in-Some-eq0 : goal.returns-in-Some-eq0
returns-in-Some-eq0 c = is_other c.args.self.now.values.keys c.args.condition c.args.chosen c.args.other c.requires.condition c.requires.chosen c.requires.other c.is.result c.is.ensures (number_is c.args.self.now.values.keys c.args.condition _ 0 c.in-Some-eq0.ensures.means c.in-Some-eq0.field-0-test)

pub returns-in-Some : goal.returns-in-Some
returns-in-Some c = is_chosen c.args.self.now.values.keys c.args.condition c.args.chosen c.args.other c.requires.condition c.requires.chosen c.requires.other c.is-in-Some.result c.in-Some.field-0 c.is-in-Some.ensures c.in-Some.field-0-test.1 c.in-Some.ensures.means

pub returns-in-None : goal.returns-in-None
returns-in-None c = is_same c.args.self.now.values.keys c.args.condition c.args.chosen c.args.other c.requires.condition c.requires.chosen c.requires.other c.is-in-None.result c.is-in-None.ensures c.if-chosen-other.true
