use Rattle.std.proofs.Common.{◌≡◌, ◌++◌, length, map, take}
use Rattle.cg_loop_syntax.specs.Grouped.{grouped, stmt_of}
use Rattle.cg_loop_syntax.specs.Loop.{extent}
use Rattle.cg_loop_laws.specs.Translate.{accesses, body_code, body_cost, first_env}
use Rattle.cg_loop.specs.Known.{bindings, carries, known_of}
use Rattle.cg_loop.proofs.statements.body_code.Given as goal

abbrev pub invariant-loop-stmt : goal.invariant-loop-stmt
invariant-loop-stmt l = record {
  known : map known_of l.known.items ≡ carries (bindings 0 (map stmt_of l.stmts)) l.decls ++ bindings 0 (map stmt_of (take l.stmt-index l.stmts));
  nodes : l.code.nodes ≡ body_code (extent l.decls) (first_env (grouped l.decls l.stmts)) 0 (map stmt_of (take l.stmt-index l.stmts));
  accesses : l.code.accesses ≡ accesses 0 (map stmt_of (take l.stmt-index l.stmts));
  size : length l.code.nodes ≡ body_cost (map stmt_of (take l.stmt-index l.stmts));
}
