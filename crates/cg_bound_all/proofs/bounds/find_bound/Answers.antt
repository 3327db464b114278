use Rattle.std.proofs.Common.{refl, arith}
use Rattle.cg_bound_all.proofs.Reasons.{numbers_for}
use Rattle.cg_bound_all.proofs.Halves.{free_at, shown_at, bound_of_1, bound_of_all, between_begins}
use Rattle.cg_bound_all.proofs.bounds.find_bound.Goals as goal
use Rattle.cg_bound_all.proofs.bounds.find_bound.Goals.{then-most-eq1-via-then-most-eq1, then-most-eq1-via-else-most-eq1+then-excludes_lower}

pub returns-in_default-clause-bound : goal.returns-in_default-clause-bound
returns-in_default-clause-bound c =
    bound_of_1 c.args.search.instance.arch.now c.args.search.instance.kernel.now c.args.search.instance.tables.now c.args.search.kind _ c.in_ok-first.field-0 refl c.in_default.is c.in_ok-first.ensures c.contexts-most.ensures.valid.small.contexts.0

pub find_at-requires-clause-numbers : goal.find_at-requires-clause-numbers
find_at-requires-clause-numbers c = numbers_for c.args.search.instance.arch.now c.args.search.instance.kernel.now c.args.search.instance.tables.now 1 (omega arith) c.requires

pub find_at-requires-2-clause-numbers : goal.find_at-requires-2-clause-numbers
find_at-requires-2-clause-numbers c =
    let e = c.contexts-most.ensures.contexts in
    let s = c.contexts-most.ensures.valid.small.contexts.0 in
    numbers_for c.args.search.instance.arch.now c.args.search.instance.kernel.now c.args.search.instance.tables.now c.contexts-most.result (omega arith) c.requires

pub halve-requires-clause-between : goal.halve-requires-clause-between
halve-requires-clause-between c =
    let e = c.contexts-most.ensures.contexts in
    let s = c.contexts-most.ensures.valid.small.contexts.0 in
    between_begins c.args.search.instance.arch.now c.args.search.instance.kernel.now c.args.search.instance.tables.now c.args.search.kind c.in-Some.first c.contexts-most.result
    (shown_at c.args.search.instance.arch.now c.args.search.instance.kernel.now c.args.search.instance.tables.now c.args.search.kind 1 _ c.in_ok-first.field-0 c.in-Some.first refl c.in-Some.is c.in_ok-first.ensures)
    (free_at c.args.search.instance.arch.now c.args.search.instance.kernel.now c.args.search.instance.tables.now c.args.search.kind c.contexts-most.result _ c.in_ok-last.field-0 refl c.in_default-2.is c.in_ok-last.ensures)
    (omega arith) (omega arith)

pub returns-then-most-eq1-clause-bound : goal.returns-then-most-eq1-clause-bound
returns-then-most-eq1-clause-bound c =
    bound_of_all c.args.search.instance.arch.now c.args.search.instance.kernel.now c.args.search.instance.tables.now c.args.search.kind c.contexts-most.result _ c.in_ok-last.field-0 c.in-Some.first c.in-Some-2.last c.contexts-most.ensures.contexts refl c.in-Some-2.is c.in_ok-last.ensures
    (shown_at c.args.search.instance.arch.now c.args.search.instance.kernel.now c.args.search.instance.tables.now c.args.search.kind 1 _ c.in_ok-first.field-0 c.in-Some.first refl c.in-Some.is c.in_ok-first.ensures)
    (elim c.then-most-eq1.branch [
      | then-most-eq1-via-then-most-eq1 w ↦ λ ii l m. absurd (let t = w.if-most-eq1.true in omega arith)
      | then-most-eq1-via-else-most-eq1+then-excludes_lower w ↦ w.excludes_lower.ensures.lower w.if-excludes_lower.true
    ])
