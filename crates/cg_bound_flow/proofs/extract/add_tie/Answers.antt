use Rattle.cg_bound_flow.proofs.Certificates.{tie_added}
use Rattle.cg_bound_flow.proofs.extract.add_tie.Goals as goal

pub returns-in_ok-push-clause-taken : goal.returns-in_ok-push-clause-taken
returns-in_ok-push-clause-taken c = λ f. tie_added c.args.kernel.now f c.args.list.now.items c.push.new.self.items c.args.part c.in-Tie.edge c.args.flow c.in_ok-push.ensures.items c.in-Tie.is
