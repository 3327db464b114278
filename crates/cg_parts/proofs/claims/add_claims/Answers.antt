use Rattle.std.proofs.Common.{◌∙◌, ◌||◌, ap, sym, take, bytes_eq, cond, Some, None}
use Rattle.std.specs.List.{list_any}
use Rattle.std.specs.Option.{option_or}
use Rattle.std.proofs.lemmas.List.Folds.{list_any_more}
use Rattle.cg_reading.specs.Numbers.{found_in}
use Rattle.cg_parts.proofs.Lists.{or_twice}
use Rattle.cg_parts.proofs.claims.add_claims.Goals as goal

pub loop-name-preserved : goal.loop-name-preserved
loop-name-preserved c = λ other.
    c.in_ok-add_first.ensures other
    ∙ ap (λ o. option_or o (cond (bytes_eq c.as_str.result.now other) (Some c.args.number) None)) (c.loop-name.invariant other)
    ∙ or_twice (found_in c.args.numbers.now other) (list_any (λ claim. bytes_eq claim other) (take c.loop-name.name-index c.args.names.now)) (bytes_eq c.as_str.result.now other) c.args.number
    ∙ ap (λ b. option_or (found_in c.args.numbers.now other) (cond b (Some c.args.number) None))
    (ap (λ t. list_any (λ claim. bytes_eq claim other) (take c.loop-name.name-index c.args.names.now) || bytes_eq t other) (c.as_str.ensures ∙ c.name-item.is)
    ∙ sym (list_any_more (λ claim. bytes_eq claim other) c.args.names.now c.loop-name.name-index c.name-item.result c.loop-name-test.true))
