use Rattle.std.proofs.Common.{sym, subst, ◌∙◌}
use Rattle.cg_loop_reader.specs.Lines.{FindsStmts}
use Rattle.cg_loop_reader.proofs.Stated.{more_stmts, stmt_shorter}
use Rattle.cg_loop_reader.proofs.reader.Reader.stmts.Goals as goal

pub loop-token-smaller : goal.loop-token-smaller
loop-token-smaller c = stmt_shorter c.in_ok-stmt.field-0 c.loop-token.self c.stmt.new.self c.in_ok-stmt.ensures.ok

pub loop-token-preserved : goal.loop-token-preserved
loop-token-preserved c = record {
  found = subst (λ x. FindsStmts x c.args.self.now c.stmt.new.self) (sym c.in_ok-push.ensures.items)
      (more_stmts c.loop-token.stmts.items c.in_ok-stmt.field-0 c.args.self.now c.loop-token.self c.stmt.new.self c.loop-token.invariant.found c.in_ok-stmt.ensures.ok);
  same = c.in_ok-stmt.ensures.same ∙ c.loop-token.invariant.same;
}
