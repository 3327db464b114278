use Rattle.std.proofs.Common.{rules, tests}
use Rattle.std.proofs.lemmas.Result.{on_ok_weaker}
use Rattle.cg_c_turn.proofs.EdgesGuarded.{edge_is, formed_more, none_left}
use Rattle.cg_c_turn.proofs.FirstTurn.{turn_test}
use Rattle.cg_c_turn.proofs.draft.Draft.first_edge.Goals as goal

pub returns-then-is_empty : goal.returns-then-is_empty
returns-then-is_empty c = none_left c.args.stmts.now (search (rules, tests)) c.requires.formed

pub first_guarded-requires-clause-formed : goal.first_guarded-requires-clause-formed
first_guarded-requires-clause-formed c = formed_more c.requires.formed c.is_at.ensures.same c.is_at.ensures.kept

pub first_guarded-requires-clause-condition : goal.first_guarded-requires-clause-condition
first_guarded-requires-clause-condition c = turn_test c.requires.index c.is_at.ensures.kept c.in_ok-condition.ensures.means

pub returns : goal.returns
returns c = on_ok_weaker c.first_guarded.result (λ one. edge_is c.requires.formed c.is_at.ensures.same c.is_at.ensures.kept c.in_ok-condition.ensures.means one) c.first_guarded.ensures
