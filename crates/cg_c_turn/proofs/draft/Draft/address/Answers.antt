use Rattle.std.proofs.lemmas.Result.{IfOk-weaker}
use Rattle.cg_c_values.specs.Listed.{listed}
use Rattle.cg_c_turn.specs.Draft.{draft_of}
use Rattle.cg_c_turn.proofs.Addressing.{addressed_by}
use Rattle.cg_c_turn.proofs.draft.Draft.address.Goals as goal

pub returns : goal.returns
returns c = IfOk-weaker c.two.result _ _ (λ r h.
    addressed_by (draft_of c.args.self.now) (listed c.place_of.new.values) (listed c.constant.new.self) (listed c.two.new.self) c.args.array c.args.indices.now c.as_slice.result.now c.index-arrays-array.result c.in_ok-place.place c.in_ok-start.start r
    c.requires.formed c.requires.there c.index-arrays-array.is c.as_slice.ensures c.in_ok-place.ensures c.constant.ensures.kept c.in_ok-start.ensures.means c.two.ensures.kept h) c.two.ensures.means
