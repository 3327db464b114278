use Rattle.std.proofs.Common.{◌≡◌, drop}
use Rattle.cg_kernel.specs.Rules.{first_fault}
use Rattle.cg_kernel.proofs.first.first_of.Given as goal

abbrev pub invariant-loop-rule : goal.invariant-loop-rule
invariant-loop-rule l = first_fault (drop l.rule-index l.rules) l.written ≡ first_fault l.rules l.written
