use Rattle.std.proofs.Common.{sym, ap, ap₂, ◌∙◌}
use Rattle.cg_simplify_facts.proofs.Values.{known, of_one, of_two}
use Rattle.cg_word.specs.Word.{apply_of}
use Rattle.cg_simplify_facts.proofs.constants.computed.Goals as goal

pub returns-then-arity-eq1 : goal.returns-then-arity-eq1
returns-then-arity-eq1 c = λ x y z f.
    of_one c.args.op x y z (sym c.arity.ensures.count ∙ c.if-arity-eq1.true)
    ∙ ap (λ a. apply_of c.args.op a 0 0) (known c.args.facts.first x c.in_ok-first.first f.first c.in_ok-first.was) ∙ sym c.apply.ensures

pub returns-then-arity-eq2 : goal.returns-then-arity-eq2
returns-then-arity-eq2 c = λ x y z f.
    of_two c.args.op x y z (sym c.arity-2.ensures.count ∙ c.if-arity-eq2.true)
    ∙ ap₂ (λ a b. apply_of c.args.op a b 0) (known c.args.facts.first x c.in_ok-first.first f.first c.in_ok-first.was) (known c.args.facts.second y c.in_ok-second.second f.second c.in_ok-second.was) ∙ sym c.apply-then-arity-eq2.ensures

pub returns : goal.returns
returns c = λ x y z f.
    ap (λ a. apply_of c.args.op a y z) (known c.args.facts.first x c.in_ok-first.first f.first c.in_ok-first.was)
    ∙ ap₂ (λ b d. apply_of c.args.op c.in_ok-first.first b d) (known c.args.facts.second y c.in_ok-second.second f.second c.in_ok-second.was) (known c.args.facts.third z c.in_ok-third.third f.third c.in_ok-third.was) ∙ sym c.apply-2.ensures
