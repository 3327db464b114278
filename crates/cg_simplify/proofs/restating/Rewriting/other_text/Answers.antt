use Rattle.std.proofs.Common.{List, ℕ, subst}
use Rattle.std.specs.Prelude.{IfSome}
use Rattle.cg_simplify.specs.Restating.{MayBecome}
use Rattle.cg_simplify.proofs.restating.Rewriting.other_text.Goals as goal

pub returns-in-Some : goal.returns-in-Some
returns-in-Some c = λ K.
    let D = c.args.self.now.draft in
    let v = c.args.number in
    subst (λ (ts : List ℕ). MayBecome K ts D v c.in-Some.text) c.deref.ensures.value
    (subst (λ z. IfSome z (MayBecome K c.deref.result.now D v)) c.in-Some.is (c.in_ok-text.ensures K))
