use Rattle.cg_loop_reader.proofs.Stated.{bind_found}
use Rattle.cg_loop_reader.proofs.reader.Reader.bind.Goals as goal

pub returns-clause-ok : goal.returns-clause-ok
returns-clause-ok c =
    bind_found c.args.token c.in_ok-bound.bound c.in_ok-name.name c.in_ok-value.value c.args.self.now c.take.new.self c.name.new.self c.value.new.self c.note.new.self
    c.requires.is c.take.ensures.taken c.take.ensures.kept c.in_ok-bound.ensures.ok c.in_ok-value.ensures.ok c.in_ok-note.ensures.ok c.in_ok-name.ensures
