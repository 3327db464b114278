use Rattle.cg_word.proofs.Codes.{op_of-exact}
use Rattle.cg_word.proofs.op.Op.from_code.Goals as goal

pub returns-clause-exact : goal.returns-clause-exact
returns-clause-exact c = λ op. rw c.find_code.ensures (op_of-exact c.args.number op)
