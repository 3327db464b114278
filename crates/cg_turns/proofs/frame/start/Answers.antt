use Rattle.std.proofs.Common.{rules, arith}
use Rattle.std.proofs.lemmas.Grind.{common_steps}
use Rattle.cg_turns.proofs.Steps.{started}
use Rattle.cg_turns.proofs.frame.start.Goals as goal

pub returns-clause-at : goal.returns-clause-at
returns-clause-at c = started c.args.kernel.now c.args.image.now _ (search rules) (search rules) (search rules) (grind (arith, common_steps))
