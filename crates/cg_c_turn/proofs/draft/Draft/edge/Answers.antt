use Rattle.std.proofs.lemmas.Result.{on_ok_weaker}
use Rattle.std.proofs.Common.{rules, tests}
use Rattle.cg_c_turn.proofs.EdgesGuarded.{edge_is, formed_more, none_left}
use Rattle.cg_c_turn.proofs.draft.Draft.edge.Goals as goal

pub returns-then-is_empty : goal.returns-then-is_empty
returns-then-is_empty c = none_left c.args.stmts.now (search (rules, tests)) c.requires.formed

pub guarded-requires-clause-formed : goal.guarded-requires-clause-formed
guarded-requires-clause-formed c = formed_more c.requires.formed c.is_at.ensures.same c.is_at.ensures.kept

pub returns : goal.returns
returns c = on_ok_weaker c.guarded.result (λ one. edge_is c.requires.formed c.is_at.ensures.same c.is_at.ensures.kept c.in_ok-condition.ensures.means one) c.guarded.ensures
