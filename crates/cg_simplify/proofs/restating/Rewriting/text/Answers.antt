use Rattle.cg_simplify.proofs.Restated.{becomes_word}
use Rattle.cg_simplify.proofs.restating.Rewriting.text.Goals as goal

pub returns-in_ok-constant_text-in-Some : goal.returns-in_ok-constant_text-in-Some
returns-in_ok-constant_text-in-Some c =
    becomes_word c.args.self.now.table c.args.self.now.tops.items c.args.self.now.draft c.args.number c.in-Some.word c.in_ok-constant_text-in-Some.field-0 c.in-Some.ensures
    c.in_ok-constant_text-in-Some.ensures.small c.in_ok-constant_text-in-Some.ensures.text
