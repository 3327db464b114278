use Rattle.cg_word.proofs.Codes.{op_named-exact}
use Rattle.cg_word.proofs.op.Op.from_name.Goals as goal

pub returns-clause-exact : goal.returns-clause-exact
returns-clause-exact c = λ op. rw c.find_name.ensures (op_named-exact c.args.name.now op)
