use Rattle.std.proofs.lemmas.Result.{on_ok_weaker}
use Rattle.cg_c_turn.proofs.Branching.{no_ports}
use Rattle.cg_c_turn.proofs.EdgesGuarded.{arm_formed, arm_guards, same_begins}
use Rattle.cg_c_turn.proofs.draft.Draft.in_arm.Goals as goal

pub stmts-requires-clause-formed : goal.stmts-requires-clause-formed
stmts-requires-clause-formed c = arm_formed c.requires.formed c.in_ok-arms.ensures

pub returns : goal.returns
returns c =
    let b = c.in_ok-arms.ensures in
    let one = c.in_ok-stmts.ensures in
    on_ok_weaker c.end_arm.result (λ e. arm_guards c.requires.formed b (no_ports c.requires.none one.performs) one.sends (same_begins b one.initial) e) c.end_arm.ensures
