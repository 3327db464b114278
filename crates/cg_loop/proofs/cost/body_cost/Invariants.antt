use Rattle.std.proofs.Common.{◌≡◌, take, map}
use Rattle.cg_loop_syntax.specs.Grouped.{stmt_of}
use Rattle.cg_loop_laws.specs.Translate.{body_cost}
use Rattle.cg_loop.proofs.cost.body_cost.Given as goal

abbrev pub invariant-loop-stmt : goal.invariant-loop-stmt
invariant-loop-stmt l = l.cost ≡ body_cost (map stmt_of (take l.stmt-index l.stmts))
