use Rattle.std.proofs.Common.{◌∙◌, ◌+◌, ◌++◌, refl, ap, sym, arith, append_assoc, map, take}
use Rattle.cg_loop_syntax.specs.Grouped.{stmt_of}
use Rattle.cg_loop_laws.specs.Translate.{body_cost}
use Rattle.cg_loop.specs.Known.{bindings, carries, known_of, stmt_bindings}
use Rattle.cg_loop.proofs.Bodies.{accesses_step, nodes_step}
use Rattle.cg_loop.proofs.Costs.{body_cost_step, body_cost_within}
use Rattle.cg_loop.proofs.Envs.{bindings_step}
use Rattle.cg_loop.proofs.statements.body_code.Goals as goal

pub stmt_code-requires : goal.stmt_code-requires
stmt_code-requires c =
    let s = body_cost_step c.args.stmts.now c.loop-stmt.stmt-index c.stmt-item.result c.loop-stmt-test.true c.stmt-item.is in
    let w = body_cost_within c.args.stmts.now (c.loop-stmt.stmt-index + 1) in
    omega arith

pub bind-requires-clause-within : goal.bind-requires-clause-within
bind-requires-clause-within c = omega (arith, c.in_ok-stmt_code.ensures.size, c.len.ensures)

pub bind-requires-clause-small : goal.bind-requires-clause-small
bind-requires-clause-small c =
    let s = body_cost_step c.args.stmts.now c.loop-stmt.stmt-index c.stmt-item.result c.loop-stmt-test.true c.stmt-item.is in
    let w = body_cost_within c.args.stmts.now (c.loop-stmt.stmt-index + 1) in
    omega (arith, c.in_ok-stmt_code.ensures.size, c.len.ensures)

pub loop-stmt-preserved : goal.loop-stmt-preserved
loop-stmt-preserved c =
    let i = c.loop-stmt.stmt-index in
    let stmts = c.args.stmts.now in
    let s = body_cost_step stmts i c.stmt-item.result c.loop-stmt-test.true c.stmt-item.is in
    let at = body_cost (map stmt_of (take i stmts)) in
    let inv = c.loop-stmt.invariant in
    let k = ap (map known_of) c.deref.ensures.value ∙ inv.known in
    let x = c.in_ok-stmt_code.ensures in
    record {
      known =
          c.in_ok-bind.ensures at (omega (arith, x.size, c.len.ensures))
          ∙ ap (λ z. z ++ stmt_bindings at (stmt_of c.stmt-item.result)) inv.known
          ∙ append_assoc (carries (bindings 0 (map stmt_of stmts)) c.args.decls.now) (bindings 0 (map stmt_of (take i stmts))) (stmt_bindings at (stmt_of c.stmt-item.result))
          ∙ ap (λ z. carries (bindings 0 (map stmt_of stmts)) c.args.decls.now ++ z) (sym (bindings_step stmts i c.stmt-item.result c.loop-stmt-test.true c.stmt-item.is));
      nodes = nodes_step c.args.decls.now stmts i c.stmt-item.result c.loop-stmt-test.true c.stmt-item.is _ _ _ refl k inv.size x inv.nodes;
      accesses = accesses_step c.args.decls.now stmts i c.stmt-item.result c.loop-stmt-test.true c.stmt-item.is _ _ _ refl k inv.size x inv.accesses;
      size = omega (arith, x.size);
    }
