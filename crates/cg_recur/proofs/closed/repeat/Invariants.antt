use Rattle.std.proofs.Common.{◌≡◌, ℕ, ◌<◌}
use Rattle.cg_recur.specs.Path.{moment}
use Rattle.cg_recur.proofs.closed.repeat.Given as goal

abbrev pub invariant-loop-b : goal.invariant-loop-b
invariant-loop-b l = (i j : ℕ) → i < j → j < l.b → (moment l.log l.path i).node ≡ (moment l.log l.path j).node → ⊥

abbrev pub invariant-loop-a : goal.invariant-loop-a
invariant-loop-a l = (i : ℕ) → i < l.a → (moment l.log l.path i).node ≡ (moment l.log l.path l.b).node → ⊥
