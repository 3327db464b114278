use Rattle.cg_loop_reader.proofs.Ascii.{name_utf8}
use Rattle.cg_loop_reader.proofs.words.text_of.Goals as goal

pub returns-in-Err : goal.returns-in-Err
returns-in-Err c = absurd (c.in-Err.ensures.cases.0 (name_utf8 c.args.name.now c.requires))
