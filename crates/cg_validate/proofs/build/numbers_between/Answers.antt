use Rattle.std.proofs.Common.{◌≡◌, ◌+◌, ◌-◌, ◌∙◌, ◌∷◌, ◌++◌, [], ap, sym, arith}
use Rattle.std.specs.List.{range_with_len}
use Rattle.cg_validate.proofs.build.numbers_between.Goals as goal
use Rattle.cg_model.proofs.Ranges.{range_more}

pub loop-number-preserved : goal.loop-number-preserved
loop-number-preserved c =
    let n = c.loop-number.number - c.args.first in
    let low = c.loop-number.auto.number in
    let is : c.loop-number.number ≡ c.args.first + n = omega (arith, low) in
    let next : n + 1 ≡ c.loop-number.number + 1 - c.args.first = omega (arith, low) in
    c.in_ok-push.ensures.items
    ∙ ap (λ xs. xs ++ c.loop-number.number ∷ []) c.loop-number.invariant
    ∙ ap (λ k. range_with_len c.args.first n ++ k ∷ []) is
    ∙ sym (range_more c.args.first n)
    ∙ ap (range_with_len c.args.first) next
