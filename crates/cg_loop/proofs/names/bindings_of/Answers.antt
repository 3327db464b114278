use Rattle.std.proofs.Common.{◌∙◌, ◌+◌, ◌++◌, ap, sym, arith, map, take}
use Rattle.cg_loop_syntax.specs.Grouped.{stmt_of}
use Rattle.cg_loop_laws.specs.Translate.{body_cost}
use Rattle.cg_loop.specs.Known.{stmt_bindings}
use Rattle.cg_loop.proofs.Costs.{body_cost_step, body_cost_within}
use Rattle.cg_loop.proofs.Envs.{bindings_step}
use Rattle.cg_loop.proofs.names.bindings_of.Goals as goal

pub bind-requires-clause-within : goal.bind-requires-clause-within
bind-requires-clause-within c = omega arith

pub bind-requires-clause-small : goal.bind-requires-clause-small
bind-requires-clause-small c =
    let s = body_cost_step c.args.stmts.now c.loop-stmt.stmt-index c.stmt-item.result c.loop-stmt-test.true c.stmt-item.is in
    let w = body_cost_within c.args.stmts.now (c.loop-stmt.stmt-index + 1) in
    omega arith

pub loop-stmt-preserved : goal.loop-stmt-preserved
loop-stmt-preserved c =
    let s = body_cost_step c.args.stmts.now c.loop-stmt.stmt-index c.stmt-item.result c.loop-stmt-test.true c.stmt-item.is in
    let at = body_cost (map stmt_of (take c.loop-stmt.stmt-index c.args.stmts.now)) in
    record {
      end = omega arith;
      bindings =
          c.in_ok-bind.ensures at (omega arith)
          ∙ ap (λ z. z ++ stmt_bindings at (stmt_of c.stmt-item.result)) c.loop-stmt.invariant.bindings
          ∙ sym (bindings_step c.args.stmts.now c.loop-stmt.stmt-index c.stmt-item.result c.loop-stmt-test.true c.stmt-item.is);
    }
