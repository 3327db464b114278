use Rattle.cg_c_values.specs.Listed.{listed}
use Rattle.cg_c_turn.specs.Draft.{draft_of}
use Rattle.cg_c_turn.proofs.Leaves.{enters_other}
use Rattle.cg_c_turn.proofs.draft.Draft.enter_other.Goals as goal

pub returns-clause-enters : goal.returns-clause-enters
returns-clause-enters c = enters_other (draft_of c.args.self.now) (listed c.negation.new.self) (listed c.both.new.self) c.args.condition c.in_ok-other.other c.in_ok-self.field-0
    c.negation.ensures.kept c.both.ensures.kept c.in_ok-other.ensures.means c.in_ok-self.ensures.within c.in_ok-self.ensures.both
