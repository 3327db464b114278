use Rattle.cg_loop_reader.proofs.Atoms.{turn_found}
use Rattle.cg_loop_reader.proofs.reader.Reader.turn_atom.Goals as goal

pub returns-clause-ok : goal.returns-clause-ok
returns-clause-ok c = turn_found c.args.room c.args.token c.args.self.now c.take.new.self c.requires.is c.take.ensures.taken c.take.ensures.kept
