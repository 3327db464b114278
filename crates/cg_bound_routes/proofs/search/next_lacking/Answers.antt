use Rattle.std.proofs.Common.{length, sym, ◌∙◌, arith}
use Rattle.cg_bound_routes.proofs.Marks.{passed_more, below_at}
use Rattle.cg_bound_routes.proofs.search.next_lacking.Goals as goal

pub loop-place-preserved : goal.loop-place-preserved
loop-place-preserved c =
    record {
      from = let h = c.loop-place.invariant.from in omega arith;
      within = omega arith;
      passed = passed_more c.args.numbers.now c.args.front.now c.args.at c.loop-place.place (sym c.is_some.ensures ∙ c.if-is_some.true) c.loop-place.invariant.passed;
    }

pub bounds-numbers-front : goal.bounds-numbers-front
bounds-numbers-front c = below_at (length c.args.numbers.now) c.args.front.now c.loop-place.place c.requires.known (omega arith)
