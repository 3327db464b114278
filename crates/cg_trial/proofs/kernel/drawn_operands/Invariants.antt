use Rattle.std.proofs.Common.{◌≡◌, ◌-◌, ◌++◌}
use Rattle.cg_trial.specs.Drawn.{drawn_operands, after_operands}
use Rattle.cg_trial.proofs.kernel.drawn_operands.Given as goal

-- the operands that are left to draw follow those that were drawn
abbrev pub invariant-loop-k : goal.invariant-loop-k
invariant-loop-k l =
    record {
      operands : l.list.items ++ drawn_operands l.node (l.count - l._k) l.generator ≡ drawn_operands l.node l.count l.initial.generator;
      rest : after_operands (l.count - l._k) l.generator ≡ after_operands l.count l.initial.generator;
    }
