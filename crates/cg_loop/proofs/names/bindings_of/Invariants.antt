use Rattle.std.proofs.Common.{◌≡◌, take, map}
use Rattle.cg_loop_syntax.specs.Grouped.{stmt_of}
use Rattle.cg_loop_laws.specs.Translate.{body_cost}
use Rattle.cg_loop.specs.Known.{bindings, known_of}
use Rattle.cg_loop.proofs.names.bindings_of.Given as goal

abbrev pub invariant-loop-stmt : goal.invariant-loop-stmt
invariant-loop-stmt l = record {
  end : l.end ≡ body_cost (map stmt_of (take l.stmt-index l.stmts));
  bindings : map known_of l.bindings.items ≡ bindings 0 (map stmt_of (take l.stmt-index l.stmts));
}
