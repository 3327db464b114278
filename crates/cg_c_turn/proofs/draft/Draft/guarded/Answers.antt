use Rattle.std.proofs.Common.{ap, ◌∙◌}
use Rattle.cg_c_values.specs.declared.value.Value.TheVariants.{Const}
use Rattle.std.proofs.lemmas.Result.{on_ok_weaker}
use Rattle.cg_c_check.specs.Written.{stmts_of}
use Rattle.cg_c_meaning.specs.Meaning.{stmts}
use Rattle.cg_c_turn.proofs.EdgesGuarded.{always_guards, never_guards}
use Rattle.cg_c_turn.proofs.draft.Draft.guarded.Goals as goal
use Rattle.cg_c_meaning.specs.Typed.{stmts_outputs}

pub returns-in-Some-eq0 : goal.returns-in-Some-eq0
returns-in-Some-eq0 c = never_guards (λ x. stmts x (stmts_of c.args.stmts.now)) (stmts_outputs (stmts_of c.args.stmts.now)) c.requires.formed c.requires.condition (c.in-Some-eq0.ensures.is ∙ ap Const c.in-Some-eq0.field-0-test)

pub returns-in-Some : goal.returns-in-Some
returns-in-Some c = on_ok_weaker c.stmts.result (λ one. always_guards c.requires.condition c.in-Some.ensures.is c.in-Some.field-0-test.1 c.requires.none one) c.stmts.ensures
