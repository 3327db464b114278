use Rattle.std.proofs.Common.{rules, sym, ◌∙◌}
use denote.Enum.Bare.{same_true}
use Rattle.cg_bound_routes.specs.contracts.question.Ends.{the_type}
use Rattle.cg_bound_routes.proofs.Questions.{same_question}
use Rattle.cg_bound_routes.proofs.question.is_same.Goals as goal

pub returns : goal.returns
returns c = λ e.
    same_question c.args.a c.args.b (sym c.code.ensures ∙ c.if-code.false ∙ c.code-2.ensures) (sym c.code-3.ensures ∙ c.if-code-2.false ∙ c.code-4.ensures) c.if-a-b.false
    (same_true the_type (search rules) _ _ (sym c.eq.ensures ∙ e))
