use Rattle.std.proofs.lemmas.Result.{on_ok_weaker}
use Rattle.cg_c_check.specs.Written.{expr_of}
use Rattle.cg_c_turn.specs.Draft.{draft_of}
use Rattle.cg_c_turn.proofs.AssignWord.{word_assigned}
use Rattle.cg_c_turn.proofs.draft.Draft.assign_word.Goals as goal

pub returns : goal.returns
returns c =
    let n = c.in_ok-new.ensures in
    let w = c.in_ok-word.ensures in
    on_ok_weaker c.set_word.result
    (word_assigned (draft_of c.args.self.now) (draft_of c.expr.new.self) (draft_of c.changed_word.new.self) (draft_of c.set_word.new.self) n.0 (expr_of c.args.value.now) c.args.number c.in_ok-new.new c.in_ok-word.word c.args.change.op c.args.change.target c.args.change.value c.requires.typed c.requires.apart c.requires.read n.1 w.same w.kept w.within w.word c.set_word.ensures.same)
    c.set_word.ensures.words
