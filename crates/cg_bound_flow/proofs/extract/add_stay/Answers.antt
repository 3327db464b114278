use Rattle.std.proofs.Common.{arith}
use Rattle.cg_bound_flow.proofs.Certificates.{stay_added}
use Rattle.cg_bound_flow.proofs.extract.add_stay.Goals as goal

pub returns-in_ok-push-clause-taken : goal.returns-in_ok-push-clause-taken
returns-in_ok-push-clause-taken c = λ f. stay_added c.args.kernel.now f c.args.list.now.items c.push.new.self.items c.args.part c.in-Stay.node c.in-Stay.arg c.args.flow c.if-flow-gt0.true (c.requires c.in-Stay.node c.in-Stay.arg c.in-Stay.is) c.in_ok-push.ensures.items c.in-Stay.is
