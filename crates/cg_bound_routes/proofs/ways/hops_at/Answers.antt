use Rattle.std.proofs.lemmas.Result.{IfOk-weaker}
use Rattle.cg_bound_routes.specs.Question.{IsAnswer, AreFoundHops}
use Rattle.cg_bound_routes.proofs.Rows.{edge_hops, no_hops}
use Rattle.cg_bound_routes.proofs.ways.hops_at.Goals as goal

pub returns-in-Some-clause-hops : goal.returns-in-Some-clause-hops
returns-in-Some-clause-hops c =
    IfOk-weaker c.ask_shared.result (IsAnswer c.args.instance.arch.now c.in-Some.question) (AreFoundHops c.args.instance.arch.now c.args.instance.kernel.now c.args.instance.ii c.args.node c.args.arg)
    (λ o h. edge_hops c.args.instance.arch.now c.args.instance.kernel.now c.args.instance.ii c.args.node c.args.arg c.in-Some.question c.in-Some.ensures.edge o h) c.ask_shared.ensures.answer

pub returns-in-None-clause-hops : goal.returns-in-None-clause-hops
returns-in-None-clause-hops c = no_hops c.args.instance.arch.now c.args.instance.kernel.now c.args.instance.ii c.args.node c.args.arg c.in-None.ensures.none
