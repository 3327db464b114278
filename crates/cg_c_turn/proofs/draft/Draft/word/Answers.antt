use Rattle.std.proofs.Common.{[], sym}
use Rattle.cg_c_values.specs.Listed.{listed}
use Rattle.cg_c_turn.specs.Draft.{draft_of}
use Rattle.cg_c_turn.proofs.Leaves.{word_is, carried_is}
use Rattle.cg_c_turn.proofs.draft.Draft.word.Goals as goal

pub returns-in-Some : goal.returns-in-Some
returns-in-Some c s = ([], word_is (draft_of c.args.self.now) c.args.number c.in-Some.v s c.args.wanted c.as_wanted.result c.requires.formed (sym c.in-Some.ensures) c.as_wanted.ensures.within c.as_wanted.ensures.agrees)

pub returns-in_ok-v-in-None : goal.returns-in_ok-v-in-None
returns-in_ok-v-in-None c s = ([], carried_is (draft_of c.args.self.now) (listed c.add.new.self) c.args.number c.in_ok-v-in-None.v s c.args.wanted c.as_wanted-in-None.result c.requires.formed (sym c.in-None.ensures) c.add.ensures.kept c.in_ok-v-in-None.ensures.within c.in_ok-v-in-None.ensures.added c.as_wanted-in-None.ensures.within c.as_wanted-in-None.ensures.agrees)
