use Rattle.std.proofs.Common.{map}
use Rattle.std.proofs.lemmas.Result.{err_from_is_err_and}
use Rattle.cg_c_syntax.specs.Written as written
use Rattle.cg_c_check.specs.Written as made
use Rattle.cg_c_check.specs.States.{state_of}
use Rattle.cg_c_check.proofs.Stated.{words_fails, words_goes}
use Rattle.cg_c_check.proofs.checker.Checker.words_declared.Goals as goal

pub returns-in_err-initials-clause-err : goal.returns-in_err-initials-clause-err
returns-in_err-initials-clause-err c =
    let p = err_from_is_err_and c.from_residual.result c.from_residual.ensures.1 in
    rw (p.1, p.2) (λ other. words_fails c.args.each (state_of c.args.self.now) c.args.signedness (map written.word_of c.args.words.now) c.in_err-initials.field-0.0 (c.in_err-initials.ensures.err other))

pub returns-clause-ok : goal.returns-clause-ok
returns-clause-ok c = words_goes c.args.each (state_of c.args.self.now) c.args.signedness (map written.word_of c.args.words.now) (map made.initial_of c.in_ok-initials.initials.items) (state_of c.declarations.new.self) c.in_ok-initials.ensures.ok
