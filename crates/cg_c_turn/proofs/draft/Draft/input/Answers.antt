use Rattle.std.proofs.Common.{[]}
use Rattle.cg_c_values.specs.Listed.{listed}
use Rattle.cg_c_turn.specs.Draft.{draft_of}
use Rattle.cg_c_turn.proofs.Leaves.{input_is}
use Rattle.cg_c_turn.proofs.draft.Draft.input.Goals as goal

pub returns : goal.returns
returns c = ([], input_is (draft_of c.args.self.now) (listed c.add.new.self) c.args.port c.in_ok-v.v c.args.wanted c.as_wanted.result c.requires.formed c.add.ensures.kept c.in_ok-v.ensures.within c.in_ok-v.ensures.added c.as_wanted.ensures.within c.as_wanted.ensures.agrees)
