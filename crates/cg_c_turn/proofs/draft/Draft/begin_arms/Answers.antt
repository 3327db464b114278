use Rattle.std.proofs.Common.{length}
use Rattle.cg_c_values.specs.Listed.{listed}
use Rattle.cg_c_turn.specs.Draft.{draft_of}
use Rattle.cg_c_turn.proofs.Growing.{formed_with, below_on}
use Rattle.cg_c_turn.proofs.draft.Draft.begin_arms.Goals as goal

pub enter_arm-requires-clause-formed : goal.enter_arm-requires-clause-formed
enter_arm-requires-clause-formed c =
    let d = draft_of c.args.self.now in
    formed_with d (listed c.negation.new.self) d.guard c.requires.formed c.in_ok-negation.ensures.kept (below_on (length d.values) (length (listed c.negation.new.self)) d.guard c.in_ok-negation.ensures.kept.longer c.requires.formed.guard)
