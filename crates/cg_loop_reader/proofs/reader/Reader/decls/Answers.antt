use Rattle.std.proofs.Common.{sym, subst, ◌∙◌}
use Rattle.cg_loop_reader.specs.Lines.{FindsDecls}
use Rattle.cg_loop_reader.proofs.Stated.{more_decls}
use Rattle.cg_loop_reader.proofs.reader.Reader.decls.Goals as goal

pub loop-token-preserved : goal.loop-token-preserved
loop-token-preserved c = record {
  found = subst (λ x. FindsDecls x c.args.self.now c.decl.new.self) (sym c.in_ok-push.ensures.items)
      (more_decls c.loop-token.decls.items c.in_ok-decl.field-0 c.args.self.now c.loop-token.self c.decl.new.self c.loop-token.invariant.found c.in_ok-decl.ensures.ok);
  same = c.in_ok-decl.ensures.same ∙ c.loop-token.invariant.same;
}
