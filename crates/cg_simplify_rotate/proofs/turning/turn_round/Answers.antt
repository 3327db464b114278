use Rattle.cg_simplify_rotate.proofs.Rotated.{rotated_none}
use Rattle.cg_simplify_rotate.proofs.turning.turn_round.Goals as goal

pub returns-in_default : goal.returns-in_default
returns-in_default c = rotated_none c.args.nodes.now c.requires.valid
