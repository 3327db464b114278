use Rattle.std.proofs.Common.{arith}
use Rattle.cg_c_values.proofs.Adding.{add_one, sub_one}
use Rattle.cg_c_values.proofs.Planning.{less_gives, more_gives}
use Rattle.cg_c_values.proofs.values.Values.plan_not_below.Goals as goal

pub returns-then-word-order : goal.returns-then-word-order
returns-then-word-order c =
    less_gives c.args.self.now.values.keys c.args.v c.args.order.op c.args.order.least c.args.order.greatest c.args.first c.args.second c.in-Some.word _ c.requires.order c.requires.first c.requires.means c.in-Some.ensures.means c.if-word-order.true (omega arith) (sub_one c.in-Some.word)

pub returns-then-word-order-2 : goal.returns-then-word-order-2
returns-then-word-order-2 c =
    more_gives c.args.self.now.values.keys c.args.v c.args.order.op c.args.order.least c.args.order.greatest c.args.first c.args.second c.in-Some-number.word _ c.requires.order c.requires.second c.requires.means c.in-Some-number.ensures.means c.if-word-order-2.true (omega arith) (add_one c.in-Some-number.word)
