use Rattle.std.proofs.Common.{◌≡◌, ◌∙◌, None, Err, ap, sym, subst}
use Rattle.cg_grid.specs.Rules.{first_fault}
use Rattle.cg_tiles.specs.Elements.{parts_of}
use Rattle.cg_tiles.specs.Lean.{lean}
use Rattle.cg_tiles.specs.Alike.{AnswersFor}
use Rattle.cg_tiles.specs.Answer.{judged, IsRefused}
use Rattle.cg_tiles.proofs.Leaner.{lean-answers}
use Rattle.cg_tiles.proofs.TooMany.{judged-clean, refused-resources, refused-links}
use Rattle.cg_tiles.proofs.read.judged.Goals as goal

pub returns-then-has_many_resources-clause-refused : goal.returns-then-has_many_resources-clause-refused
returns-then-has_many_resources-clause-refused c =
    λ _.
    let none : first_fault c.args.written ≡ None = cc in
    subst (IsRefused (judged c.args.written)) (sym c.too_large.ensures) (refused-resources c.args.written none (sym c.has_many_resources.ensures ∙ c.if-has_many_resources.true))

pub returns-in-Err-TooManyLinks-clause-refused : goal.returns-in-Err-TooManyLinks-clause-refused
returns-in-Err-TooManyLinks-clause-refused c =
    λ _.
    let none : first_fault c.args.written ≡ None = cc in
    subst (IsRefused (judged c.args.written)) (sym c.too_large-in-Err-TooManyLinks.ensures)
    (refused-links c.args.written c.in_ok-lean.field-0 c.in_ok-lean.ensures none (sym c.has_many_resources.ensures ∙ c.if-has_many_resources.false) (c.in-Err-TooManyLinks.ensures.many (ap Err c.in-Err-TooManyLinks.field-0-is)))

pub returns-in-Ok-clause-judged : goal.returns-in-Ok-clause-judged
returns-in-Ok-clause-judged c =
    let none : first_fault c.args.written ≡ None = cc in
    let is : c.in-Ok.parts ≡ parts_of (lean c.args.written) = c.in-Ok.ensures.parts ∙ ap parts_of c.in_ok-lean.ensures in
    (parts_of c.args.written, judged-clean c.args.written none, subst (λ parts. AnswersFor parts (parts_of c.args.written)) (sym is) (lean-answers c.args.written))
