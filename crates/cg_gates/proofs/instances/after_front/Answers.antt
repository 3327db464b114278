use Rattle.cg_gates.proofs.Fronts.{after_front-is}
use Rattle.cg_gates.proofs.instances.after_front.Goals as goal

pub returns : goal.returns
returns c = after_front-is c.args.front.now c.args.text.now _ c.strip_prefix.ensures.cases
