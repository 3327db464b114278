use Rattle.std.proofs.lemmas.Result.{on_ok_weaker}
use Rattle.cg_simplify_rotate.proofs.Rotated.{mid_turn, mid_valid, rotated_once}
use Rattle.cg_simplify_rotate.proofs.turning.apply_turn.Goals as goal

pub restate-requires-clause-valid : goal.restate-requires-clause-valid
restate-requires-clause-valid c =
    mid_valid c.args.nodes.now c.move_before.new.nodes c.args.turn c.requires.valid c.requires.turn c.move_before.ensures.size c.move_before.ensures.nodes

pub restate-requires-clause-turn : goal.restate-requires-clause-turn
restate-requires-clause-turn c =
    mid_turn c.args.nodes.now c.move_before.new.nodes c.args.turn c.requires.valid c.requires.turn c.move_before.ensures.size c.move_before.ensures.nodes

pub returns : goal.returns
returns c =
    on_ok_weaker c.restate.result
    (rotated_once c.args.nodes.now c.move_before.new.nodes c.args.turn c.requires.valid c.requires.turn c.move_before.ensures.size c.move_before.ensures.nodes c.restate.new.nodes)
    c.restate.ensures
