use Rattle.std.proofs.Common.{[]}
use Rattle.cg_c_values.specs.Listed.{listed}
use Rattle.cg_c_turn.specs.Draft.{draft_of}
use Rattle.cg_c_turn.proofs.Leaves.{literal_is}
use Rattle.cg_c_turn.proofs.draft.Draft.literal.Goals as goal

pub returns : goal.returns
returns c = ([], literal_is (draft_of c.args.self.now) (listed c.constant.new.self) c.args.constant c.args.wanted c.in_ok-v.v c.as_wanted.result c.requires.formed c.constant.ensures.kept c.in_ok-v.ensures.means c.as_wanted.ensures.within c.as_wanted.ensures.agrees)
