use Rattle.std.proofs.lemmas.Result.{on_ok_weaker}
use Rattle.cg_c_check.specs.Written.{expr_of}
use Rattle.cg_c_turn.specs.Draft.{draft_of}
use Rattle.cg_c_turn.proofs.FirstWords.{assigned_is}
use Rattle.cg_c_turn.proofs.draft.Draft.declare_word.Goals as goal

pub returns : goal.returns
returns c = on_ok_weaker c.set_word.result (λ words. assigned_is (draft_of c.set_word.new.self) c.args.number c.in_ok-v.v (expr_of c.args.value.now) c.requires.typed c.requires.none c.in_ok-v.ensures.1 c.set_word.ensures.same words) c.set_word.ensures.words
