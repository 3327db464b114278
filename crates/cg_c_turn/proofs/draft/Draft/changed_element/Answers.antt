use Rattle.std.proofs.Common.{[], ◌++◌}
use Rattle.std.proofs.lemmas.Result.{IfOk-weaker}
use Rattle.cg_c_values.specs.Listed.{listed}
use Rattle.cg_c_turn.specs.Draft.{draft_of}
use Rattle.cg_c_turn.proofs.AssignElement.{changes_none, changes_some}
use Rattle.cg_c_turn.proofs.draft.Draft.changed_element.Goals as goal

pub returns-in_default : goal.returns-in_default
returns-in_default c = ([], changes_none (draft_of c.args.self.now) c.args.element.now.array c.args.address c.args.new c.args.change.op c.args.change.target c.args.change.value c.requires.formed c.requires.within c.in_default.is)

pub returns : goal.returns
returns c =
    IfOk-weaker c.joined.result _ _ (λ v j. (
      c.in_ok-old.ensures.0 ++ [],
      changes_some (draft_of c.args.self.now) (draft_of c.load.new.self) (listed c.joined.new.values) c.in_ok-old.ensures.0 c.args.element.now.array c.args.address c.args.new c.in_ok-old.old v c.args.change.op c.in-Some.op c.args.change.target c.args.change.value c.reading_of-reading.result c.in_ok-old.ensures.1 c.in-Some.is c.reading_of-reading.ensures j,
    )) c.joined.ensures
