use Rattle.std.proofs.lemmas.Result.{on_ok_weaker}
use Rattle.cg_c_turn.specs.Draft.{draft_of}
use Rattle.cg_c_turn.proofs.EdgesGuarded.{arm_formed, arm_guards}
use Rattle.cg_c_turn.proofs.FirstTurn.{arm_first, arm_fits, later_begins}
use Rattle.cg_c_turn.proofs.draft.Draft.in_first_arm.Goals as goal

pub first_stmts-requires-clause-formed : goal.first_stmts-requires-clause-formed
first_stmts-requires-clause-formed c = arm_formed c.requires.formed c.in_ok-arms.ensures

pub first_stmts-requires-clause-first : goal.first_stmts-requires-clause-first
first_stmts-requires-clause-first c = arm_first c.requires.condition c.in_ok-arms.ensures

pub returns : goal.returns
returns c =
    let b = c.in_ok-arms.ensures in
    let one = c.in_ok-first_stmts.ensures in
    on_ok_weaker c.end_arm.result (λ e. arm_guards c.requires.formed b one.performs one.sends (later_begins (draft_of c.args.self.now) (draft_of c.first_stmts.new.self) c.args.condition c.requires.condition (arm_fits b one.performs.grows)) e) c.end_arm.ensures
