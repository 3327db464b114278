use Rattle.std.proofs.Common.{refl}
use Rattle.cg_loop_reader.proofs.Stated.{guard_found}
use Rattle.cg_loop_reader.proofs.reader.Reader.guard.Goals as goal

pub returns-in_ok-guard-clause-ok : goal.returns-in_ok-guard-clause-ok
returns-in_ok-guard-clause-ok c = guard_found c.in_ok-guard.guard c.args.self.now c.skip.new.self c.expr.new.self (c.if-skip.ensures.taken refl) c.in_ok-guard.ensures.ok
