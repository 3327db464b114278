use Rattle.cg_mapping.proofs.Answered.{answered-shaped, answered-names, answered-within}
use Rattle.cg_mapping.proofs.read.read_mapping.Goals as goal

pub returns-clause-shaped : goal.returns-clause-shaped
returns-clause-shaped c = answered-shaped c.args.arch.now c.args.kernel.now c.args.bytes.now c.answer.result c.answer.ensures

pub returns-clause-named : goal.returns-clause-named
returns-clause-named c = answered-names c.args.arch.now c.args.kernel.now c.args.bytes.now c.answer.result c.answer.ensures

pub returns-clause-within : goal.returns-clause-within
returns-clause-within c = answered-within c.args.arch.now c.args.kernel.now c.args.bytes.now c.answer.result c.answer.ensures
