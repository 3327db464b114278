use Rattle.std.proofs.Common.{[], sym}
use Rattle.cg_model.proofs.Lookups.{Contains-get}
use Rattle.cg_c_values.specs.Listed.{listed}
use Rattle.cg_c_turn.specs.Draft.{draft_of}
use Rattle.cg_c_turn.proofs.Leaves.{counter_is, counter_none}
use Rattle.cg_c_turn.proofs.draft.Draft.counter.Goals as goal

pub as_wanted-requires : goal.as_wanted-requires
as_wanted-requires c = record { within = c.requires.formed.counters c.in-Some.v (Contains-get c.args.self.now.counters.items c.args.depth c.in-Some.v (sym c.in-Some.ensures)) }

pub returns-in-Some : goal.returns-in-Some
returns-in-Some c = ([], counter_is (draft_of c.args.self.now) c.args.depth c.in-Some.v c.args.wanted c.as_wanted.result c.requires.formed (sym c.in-Some.ensures) c.as_wanted.ensures.within c.as_wanted.ensures.agrees)

pub returns-in_ok-v-in-None : goal.returns-in_ok-v-in-None
returns-in_ok-v-in-None c = ([], counter_none (draft_of c.args.self.now) (listed c.constant.new.self) c.args.depth c.in_ok-v-in-None.v c.args.wanted c.as_wanted-in-None.result c.requires.formed (sym c.in-None.ensures) c.constant.ensures.kept c.in_ok-v-in-None.ensures.means c.as_wanted-in-None.ensures.within c.as_wanted-in-None.ensures.agrees)
