use Rattle.std.proofs.Common.{◌≡◌, ℕ, ◌+◌, ◌≤◌, length, Contains}
use Rattle.std.specs.Prelude.{None}
use Rattle.cg_bound_routes.specs.Search.{IsSearch, number, lacking}
use Rattle.cg_bound_routes.proofs.search.least.Given as goal

abbrev pub invariant-loop-resource : goal.invariant-loop-resource
invariant-loop-resource l =
    record {
      search : IsSearch l.arch l.ends l.search;
      unmet : (q : ℕ) → Contains l.from q → number l.search.numbers.items q ≡ None;
      few : l.search.level + lacking l.search.numbers.items ≤ length l.arch.resources;
    }

abbrev pub decreases-loop-resource : goal.decreases-loop-resource
decreases-loop-resource l = lacking l.search.numbers.items
