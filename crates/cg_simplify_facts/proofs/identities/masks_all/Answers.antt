use Rattle.std.proofs.Common.{◌≡◌, sym, subst}
use Rattle.std.specs.Prelude.{bit_and}
use Rattle.std.proofs.lemmas.Bool.{eqb-true}
use Rattle.cg_simplify_facts.proofs.Values.{known, unmasked}
use Rattle.cg_simplify_facts.proofs.identities.masks_all.Goals as goal

pub returns-in-Some : goal.returns-in-Some
returns-in-Some c = λ e x y fits l.
    subst (λ v. bit_and v y ≡ y) (sym (known c.args.mask x c.in-Some.word fits c.in-Some.is))
    (unmasked c.args.top c.cover-all.result c.in-Some.word y c.cover-all.ensures (eqb-true _ _ e) l)
