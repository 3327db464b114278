use Rattle.cg_pad.proofs.Roundtrip.{written, read}
use Rattle.cg_pad.proofs.writing.reads_back.Goals as goal

pub returns-clause-written : goal.returns-clause-written
returns-clause-written c = written

pub returns-clause-read : goal.returns-clause-read
returns-clause-read c = read
