use Rattle.std.proofs.Common.{map, string_bytes, ap, sym, true, refl, ◌≡◌, ◌∙◌}
use Rattle.std.proofs.lemmas.Result.{IfOk-weaker}
use Rattle.clap.specs.Words.{App, fault_of, is_simple, is_simple_and_free, matches_of}
use Rattle.clap.proofs.OnLiterals.{clap_on_literals}
use Rattle.clap.proofs.WalkLemmas.{IfOk-both}
use Rattle.cg_command.specs.Matches.{words_app}
use Rattle.cg_command.proofs.Failures.{FailsBy-ok, FailsBy-err}
use Rattle.cg_command.proofs.arguments.matches_of.Goals as goal

simple : is_simple words_app ≡ true
unfolding words_app clap_on_literals
simple = refl

free : is_simple_and_free words_app ≡ true
unfolding words_app clap_on_literals
free = refl

pub returns-clause-ok : goal.returns-clause-ok
returns-clause-ok c =
    let is = c.in_ok-words_command.ensures in
    let words = map string_bytes c.args.words.now in
    let kinds = c.try_get_matches_from.ensures.kinds (ap is_simple_and_free is ∙ free) in
    IfOk-weaker c.try_get_matches_from.result _ _
    (λ m h. (ap (λ (a : App). fault_of a words) (sym is) ∙ h.0, (h.1 (ap is_simple is ∙ simple)).0 ∙ ap (λ (a : App). matches_of a words) is))
    (IfOk-both c.try_get_matches_from.result _ _ (FailsBy-ok _ _ kinds) c.try_get_matches_from.ensures.matches)

pub returns-clause-err : goal.returns-clause-err
returns-clause-err c =
    let is = c.in_ok-words_command.ensures in
    let words = map string_bytes c.args.words.now in
    let kinds = c.try_get_matches_from.ensures.kinds (ap is_simple_and_free is ∙ free) in
    rw (← ap (λ (a : App). fault_of a words) is) (FailsBy-err _ _ kinds)
