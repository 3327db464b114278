use Rattle.cg_c_values.proofs.Done.{both_done, never_done}
use Rattle.cg_c_values.proofs.Planning.{number_is}
use Rattle.cg_c_values.proofs.values.Values.both.Goals as goal

pub returns-in_ok-constant-in-Some-eq0-number-clause-both : goal.returns-in_ok-constant-in-Some-eq0-number-clause-both
returns-in_ok-constant-in-Some-eq0-number-clause-both c =
    let known = c.in-Some-eq0-number in
    let made = c.in_ok-constant-in-Some-eq0-number in
    never_done c.args.self.now.values.keys c.constant.new.self.values.keys c.args.guard c.args.condition made.field-0 (number_is c.args.self.now.values.keys c.args.condition _ 0 known.ensures.means known.field-0-test) made.ensures.kept made.ensures.means

pub returns-in_ok-two-in-None-clause-both : goal.returns-in_ok-two-in-None-clause-both
returns-in_ok-two-in-None-clause-both c =
    both_done c.truth.new.self.values.keys c.truth-in-None.new.self.values.keys c.two.new.self.values.keys c.args.guard c.in-Some.guard c.args.condition c.in_ok-first-in-None.first c.in_ok-second-in-None.second c.in_ok-two-in-None.field-0 c.in-Some.is
    c.in_ok-first-in-None.ensures.means c.in_ok-second-in-None.ensures.kept c.in_ok-second-in-None.ensures.means c.in_ok-two-in-None.ensures.kept c.in_ok-two-in-None.ensures.means
