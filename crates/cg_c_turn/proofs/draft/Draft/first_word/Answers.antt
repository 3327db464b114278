use Rattle.std.proofs.Common.{ap}
use Rattle.std.proofs.lemmas.Result.{on_ok_weaker}
use Rattle.cg_c_check.specs.Written.{expr_of}
use Rattle.cg_c_turn.specs.Draft.{draft_of}
use Rattle.cg_c_turn.proofs.FirstWords.{begun_is}
use Rattle.cg_c_turn.proofs.draft.Draft.first_word.Goals as goal

pub returns-in-Literal : goal.returns-in-Literal
returns-in-Literal c = on_ok_weaker c.set_initial.result (λ words. begun_is (draft_of c.args.self.now) (draft_of c.set_initial.new.self) c.args.initial.now c.in-Literal.constant c.requires.formed c.requires.first (c.is_unused.ensures c.if-is_unused.true) (ap expr_of c.in-Literal.is) c.set_initial.ensures.same words) c.set_initial.ensures.initial
