use Rattle.std.proofs.Common.{sym, subst}
use Rattle.std.proofs.lemmas.Result.{IfOk-weaker}
use Rattle.cg_c_syntax.specs.declared.expression.Binary.TheVariants.{OrElse}
use Rattle.cg_c_values.specs.Listed.{listed}
use Rattle.cg_c_turn.specs.Stands.{Wanted}
use Rattle.cg_c_turn.specs.Pieces.{Joins}
use Rattle.cg_c_turn.proofs.Operating.{joins_or, joins_or_word}
use Rattle.cg_c_turn.proofs.expressions.either.Goals as goal

pub returns-in-TheWord : goal.returns-in-TheWord
returns-in-TheWord c reading = IfOk-weaker c.truth.result _ _ (λ r h.
    subst (λ (z : Wanted). Joins (listed c.args.values.now) (listed c.truth.new.self) OrElse reading c.args.first c.args.second z r) (sym c.in-TheWord.is)
    (joins_or_word (listed c.args.values.now) (listed c.two.new.self) (listed c.truth.new.self) reading c.args.first c.args.second c.in_ok-either.either r c.two.ensures.kept c.truth.ensures.kept c.in_ok-either.ensures.means h)) c.truth.ensures.means

pub returns-in-ACondition : goal.returns-in-ACondition
returns-in-ACondition c reading =
    subst (λ (z : Wanted). Joins (listed c.args.values.now) (listed c.two.new.self) OrElse reading c.args.first c.args.second z c.in_ok-either.either) (sym c.in-ACondition.is)
    (joins_or (listed c.args.values.now) (listed c.two.new.self) reading c.args.first c.args.second c.in_ok-either.either c.two.ensures.kept c.in_ok-either.ensures.means)
