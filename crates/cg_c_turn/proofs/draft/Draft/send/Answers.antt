use Rattle.std.proofs.Common.{List, ap}
use Rattle.cg_c_check.specs.Written.{expr_of}
use Rattle.cg_c_turn.specs.Draft.{Effect, draft_of}
use Rattle.cg_c_turn.proofs.Sending.{send_is}
use Rattle.cg_c_turn.proofs.draft.Draft.send.Goals as goal

pub returns : goal.returns
returns c =
    send_is _ c.args.port c.in_ok-word.word (expr_of c.args.value.now) (ap (λ (z : List Effect). record (draft_of c.expr.new.self) { effects = z }) c.in_ok-push.ensures.items) c.requires.typed c.requires.apart c.in_ok-word.ensures.1
