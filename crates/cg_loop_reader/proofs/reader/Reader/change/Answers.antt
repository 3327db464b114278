use Rattle.std.proofs.lemmas.Result.{IfErr-weaker, IfOk-weaker}
use Rattle.cg_loop_reader.proofs.Stated.{change_found}
use Rattle.cg_loop_reader.proofs.Strayed.{change_missed}
use Rattle.cg_loop_reader.proofs.reader.Reader.change.Goals as goal

pub returns-clause-ok : goal.returns-clause-ok
returns-clause-ok c =
    IfOk-weaker c.target.result _ _ (λ s x. change_found c.args.token s c.args.self.now c.take.new.self c.target.new.self c.requires.is c.take.ensures.taken c.take.ensures.kept x) c.target.ensures.ok

pub returns-clause-misses : goal.returns-clause-misses
returns-clause-misses c =
    IfErr-weaker c.target.result _ _ (λ e x. change_missed e c.args.token c.args.self.now c.take.new.self _ c.requires.is c.take.ensures.taken x) c.target.ensures.misses
