use Rattle.std.proofs.Common.{◌≡◌, ◌+◌, ◌-◌, ◌++◌}
use Rattle.cg_trial.specs.Drawn.{drawn_nodes}
use Rattle.cg_trial.proofs.kernel.add_drawn_nodes.Given as goal

-- the nodes that are left to draw follow those that were drawn
abbrev pub invariant-loop-k : goal.invariant-loop-k
invariant-loop-k l = l.nodes.items ++ drawn_nodes (l.first + l.k) (l.count - l.k) l.generator ≡ l.initial.nodes.items ++ drawn_nodes l.first l.count l.initial.generator
