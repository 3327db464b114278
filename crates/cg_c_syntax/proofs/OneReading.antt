-- The laws of the grammar of sources.
use Rattle.std.proofs.Common.{◌≡◌, List, [], ◌∷◌, ◌++◌, sym, ◌∙◌, ap}
use Rattle.cg_c_syntax.specs.Tokens.{Token}
use Rattle.cg_c_syntax.specs.Symbols.{Value}
use Rattle.cg_c_syntax.specs.Grammar.{step, barred}
use Rattle.cg_c_syntax.specs.Source.{OneSource, NoFault, OneFault, NoneGoesOn}
use Rattle.std.proofs.lemmas.List.{append_cancel_left}
use Rattle.cg_c_syntax.proofs.One.{one_all}
use Rattle.cg_c_syntax.proofs.Failed.{never_all, alike_all}

pub one_source : OneSource
one_source bytes P Q p q = ap (λ v. v.0) (one_all Value step barred p.reads [] q.front q.end (Q, (tt, tt)) [] q.reads (sym p.whole ∙ q.whole)).1

pub none_goes_on : NoneGoesOn
none_goes_on front more t q other P f e p = never_all Value step barred f more p.front p.end (P, (tt, tt)) [] p.reads (sym e ∙ p.whole)

pub no_fault : NoFault
no_fault bytes P t q p f = none_goes_on f.front f.rest t q bytes P f.fails f.whole p

heads : (t t' : Token) (r r' : List Token) → t ∷ r ≡ t' ∷ r' → t ≡ t'
heads t t' r r' e = cc

pub one_fault : OneFault
one_fault bytes t t' q q' f f' =
    let same = sym f.whole ∙ f'.whole in
    let w = alike_all Value step barred f.fails f.rest f'.front t' q' f'.rest f'.fails same in
    let behind : t ∷ f.rest ≡ t' ∷ f'.rest = append_cancel_left f.front (t ∷ f.rest) (t' ∷ f'.rest) (same ∙ ap (λ (x : List Token). x ++ t' ∷ f'.rest) (sym w.0)) in
    (heads t t' f.rest f'.rest behind, w.1)
