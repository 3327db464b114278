use Rattle.std.specs.Prelude.{IfSome}
use Rattle.cg_simplify.specs.Joining.{HasText}
use Rattle.cg_simplify.proofs.merging.last_of_text.Given as goal

-- the last one so far
abbrev pub invariant-loop-m : goal.invariant-loop-m
invariant-loop-m l = IfSome l.last (HasText l.joins l.counted l.number)
