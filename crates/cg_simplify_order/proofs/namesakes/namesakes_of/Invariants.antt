use Rattle.std.proofs.Common.{◌≡◌, ◌<◌, ℕ, length}
use Rattle.std.specs.Prelude.{slice_index}
use Rattle.cg_simplify_order.specs.Needs.{IsNamesake}
use Rattle.cg_simplify_order.proofs.namesakes.namesakes_of.Given as goal

-- the nodes so far have theirs
abbrev pub invariant-loop-number : goal.invariant-loop-number
invariant-loop-number l = record {
  long : length l.numbers.items ≡ l.number;
  each : (u : ℕ) → u < l.number → IsNamesake l.fn.given l.rewritten (slice_index l.numbers.items u) u;
}
