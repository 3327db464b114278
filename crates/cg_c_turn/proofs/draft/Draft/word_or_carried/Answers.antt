use Rattle.cg_c_turn.proofs.Carrying.{unassigned}
use Rattle.cg_c_turn.proofs.draft.Draft.word_or_carried.Goals as goal

pub returns-in_ok-v-in-None-clause-word : goal.returns-in_ok-v-in-None-clause-word
returns-in_ok-v-in-None-clause-word c = unassigned _ c.in_ok-v-in-None.v c.args.number c.args.assigned c.in-None.is c.in_ok-v-in-None.ensures.within c.in_ok-v-in-None.ensures.added
