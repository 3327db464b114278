use Rattle.std.proofs.Common.{[], ◌∷◌, sym, ◌∙◌, subst}
use Rattle.cg_depend.specs.Gathered.{Answers, ask}
use Rattle.cg_depend.proofs.Answered.{asks_both, asks_nothing}
use Rattle.cg_depend.proofs.Asked.{answers_none, answers_then}
use Rattle.cg_depend.proofs.gather.add_pair.Goals as goal

pub returns-in_ok-add_edge-2-clause-answers : goal.returns-in_ok-add_edge-2-clause-answers
returns-in_ok-add_edge-2-clause-answers c =
    let K = c.args.accesses.now in
    let u = c.args.u in
    let v = c.args.v in
    subst (λ qs. Answers K qs c.args.needed.now c.add_edge-then-conflict.new.needed) (sym (asks_both K u v c.requires.order (sym c.conflict.ensures ∙ c.if-conflict.true)))
    (answers_then K (ask u v 0 ∷ []) (ask v u 1 ∷ []) c.args.needed.now c.add_edge.new.needed c.add_edge-then-conflict.new.needed c.in_ok-add_edge.ensures.answers c.in_ok-add_edge-2.ensures.answers)

pub returns-else-conflict-clause-answers : goal.returns-else-conflict-clause-answers
returns-else-conflict-clause-answers c =
    let K = c.args.accesses.now in
    subst (λ qs. Answers K qs c.args.needed.now c.args.needed.now) (sym (asks_nothing K c.args.u c.args.v (sym c.conflict.ensures ∙ c.if-conflict.false))) (answers_none K c.args.needed.now)
