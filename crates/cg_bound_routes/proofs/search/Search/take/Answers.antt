use Rattle.std.proofs.Common.{length, sym, ◌∙◌, subst, arith}
use Rattle.cg_bound_routes.specs.Search.{IsSearch, AreBelow}
use Rattle.cg_bound_routes.proofs.Searches.{skipped, risen}
use Rattle.cg_bound_routes.proofs.search.Search.take.Goals as goal
use Rattle.cg_bound_routes.proofs.search.Search.take.Goals.{then-self-len, else-self-len}

pub skip-requires-then-self-len-clause-known : goal.skip-requires-then-self-len-clause-known
skip-requires-then-self-len-clause-known c =
    let numbers = c.rise.ensures.numbers ∙ c.skip.ensures.numbers in
    let front = c.rise.ensures.front ∙ c.skip.ensures.later in
    subst (λ z. AreBelow (length z) c.rise.new.self.front.items) (sym numbers) (subst (λ z. AreBelow (length c.args.self.now.numbers.items) z) (sym front) c.requires.later)

pub returns-then-self-len-2-clause-kept : goal.returns-then-self-len-2-clause-kept
returns-then-self-len-2-clause-kept c = λ A ends h.
    let first = skipped A ends c.args.self.now c.skip.new.self c.skip.ensures h in
    elim c.if-self-len.branch [
      | then-self-len w ↦
          subst (IsSearch A ends) (sym w.self-is)
          (skipped A ends w.rise.new.self w.skip-then-self-len.new.self w.skip-then-self-len.ensures (risen A ends c.skip.new.self w.rise.new.self w.rise.ensures (omega arith) first))
      | else-self-len w ↦ subst (IsSearch A ends) (sym w.self-is) first
    ]

pub returns-else-self-len-2-clause-kept : goal.returns-else-self-len-2-clause-kept
returns-else-self-len-2-clause-kept c = λ A ends h.
    let first = skipped A ends c.args.self.now c.skip.new.self c.skip.ensures h in
    elim c.if-self-len.branch [
      | then-self-len w ↦
          subst (IsSearch A ends) (sym w.self-is)
          (skipped A ends w.rise.new.self w.skip-then-self-len.new.self w.skip-then-self-len.ensures (risen A ends c.skip.new.self w.rise.new.self w.rise.ensures (omega arith) first))
      | else-self-len w ↦ subst (IsSearch A ends) (sym w.self-is) first
    ]
