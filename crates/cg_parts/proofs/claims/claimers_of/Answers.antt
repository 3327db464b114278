use Rattle.std.proofs.Common.{arith, ◌≡◌, ◌+◌, ◌∙◌, ap, sym, take, get_or, bytes_eq, cond, Some, None}
use Rattle.std.specs.List.{list_any}
use Rattle.std.specs.Option.{option_or}
use Rattle.cg_model.proofs.Positions.{position_from-more}
use Rattle.cg_parts.specs.Parts.{claims_of}
use Rattle.cg_parts.specs.Numbers.{claims, claimer_of}
use Rattle.cg_parts.proofs.claims.claimers_of.Goals as goal

pub loop-number-preserved : goal.loop-number-preserved
loop-number-preserved c = λ name.
    let same : c.loop-number.number ≡ 0 + c.loop-number.number = omega arith in
    c.in_ok-add_claims.ensures name
    ∙ ap (λ o. option_or o (cond (list_any (λ claim. bytes_eq claim name) c.deref.result.now) (Some c.loop-number.number) None)) (c.loop-number.invariant name)
    ∙ ap (λ xs. option_or (claimer_of (take c.loop-number.number c.args.elements.now) name) (cond (list_any (λ claim. bytes_eq claim name) xs) (Some c.loop-number.number) None))
    (c.deref.ensures.value ∙ c.in_ok-names.ensures ∙ ap claims_of c.index-elements-number.is)
    ∙ ap (λ n. option_or (claimer_of (take c.loop-number.number c.args.elements.now) name) (cond (claims name (get_or c.args.elements.now c.loop-number.number c.index-elements-number.result)) (Some n) None)) same
    ∙ sym (position_from-more (claims name) 0 c.args.elements.now c.loop-number.number c.index-elements-number.result c.loop-number-test.true)
