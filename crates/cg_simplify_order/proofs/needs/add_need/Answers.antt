use Rattle.cg_simplify_order.proofs.Adding.{adds_none, adds_one}
use Rattle.cg_simplify_order.proofs.needs.add_need.Goals as goal

pub returns-in_ok-push : goal.returns-in_ok-push
returns-in_ok-push c =
    adds_one c.args.rewriting.now.given c.args.rewriting.now.rewritten c.requires.valid c.args.needs.now.items c.push.new.self.items c.args.u c.args.v c.in-Some.distance c.in-Some.ensures c.in_ok-push.ensures.items

pub returns-in_default : goal.returns-in_default
returns-in_default c = adds_none c.args.rewriting.now.given c.args.rewriting.now.rewritten c.args.needs.now.items c.args.u c.args.v c.in_default.ensures
