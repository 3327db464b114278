-- What declarations begin with.
use Rattle.std.proofs.Common.{◌≡◌, ℕ, suc, Bool, true, false, not, ◌&&◌, [], ◌∷◌, codes, refl, sym, ◌∙◌, ap, subst}
use Rattle.cg_c_syntax.specs.declared.token.Kind.{Kind}
use Rattle.cg_c_syntax.specs.declared.token.Kind.TheVariants.{Word, Number, Mark, Stdint, Cgra, Define, LineEnd, TextEnd, Stray}
use Rattle.cg_c_syntax.specs.Tokens.{is_last}
use Rattle.cg_c_syntax.specs.Tree.{Inner, OneMore}
use Rattle.cg_c_syntax.specs.Symbols.{Braced, MoreRows, Name}
use Rattle.cg_c_syntax.specs.Words.{is_define, is_the_mark}
use Rattle.cg_c_syntax.specs.declared.expression.Named.{Named}
use Rattle.cg_c_reader.specs.declared.fault.Misfit.{Misfit}
use Rattle.cg_c_reader.specs.declared.reader.Reader.{Reader}
use Rattle.cg_c_reader.specs.Left.{Rest, all, left, Leads, ReadsTo, TakesName, MissesMark, Misses}
use Rattle.cg_c_reader.proofs.Single.{if_true, if_false, mark_missed}
use Rattle.cg_c_reader.proofs.Leading.{takes, read_as}

pub both_true : {x y : Bool} → x ≡ true → y ≡ false → (x && not y) ≡ true
both_true {x} {y} h k = ap (λ (z : Bool). z && not y) h ∙ ap not k

pub first_false : {x : Bool} (y : Bool) → x ≡ false → (x && not y) ≡ false
first_false y h = ap (λ (z : Bool). z && not y) h

pub second_false : {y : Bool} (x : Bool) → y ≡ true → (x && not y) ≡ false
second_false {y} true h = ap not h
second_false {y} false h = refl

-- a #define is not the last token
pub define_lasts : (kind : Kind) → is_define kind ≡ true → is_last kind ≡ false
define_lasts Word h = refl
define_lasts Number h = refl
define_lasts Mark h = refl
define_lasts Stdint h = refl
define_lasts Cgra h = refl
define_lasts Define h = refl
define_lasts LineEnd h = refl
define_lasts TextEnd h = cc
define_lasts Stray h = cc

-- rows before the last dimension
braced_takes : (less : ℕ) (old mid : Rest) → is_the_mark (codes "{") old.head ≡ true → old.more ≡ all mid → Leads (Braced (suc less)) (Braced less ∷ MoreRows less ∷ []) (λ v. Inner old.head.place (OneMore v.0 v.1.0)) old mid
braced_takes less old mid is more = takes {s = Braced (suc less)} _ refl (if_true _ _ is) more

pub row_takes : (more less : ℕ) (old mid : Rest) → more ≡ suc less → is_the_mark (codes "{") old.head ≡ true → old.more ≡ all mid → Leads (Braced more) (Braced less ∷ MoreRows less ∷ []) (λ v. Inner old.head.place (OneMore v.0 v.1.0)) old mid
row_takes more less old mid same is taken =
    subst (λ (n : ℕ). Leads (Braced n) (Braced less ∷ MoreRows less ∷ []) (λ v. Inner old.head.place (OneMore v.0 v.1.0)) old mid) (sym same) (braced_takes less old mid is taken)

pub row_missed : (e : Misfit) (more less : ℕ) (old new : Reader) → more ≡ suc less → MissesMark e (codes "{") old new → Misses e (Braced more) old new
row_missed e more less old new same h = subst (λ (n : ℕ). Misses e (Braced n) old new) (sym same) (mark_missed e (Braced (suc less)) (codes "{") old new h refl (λ f. if_false _ _ f))

pub name_read : {name : Named} {old new : Reader} → TakesName name old new → ReadsTo Name name (left old) (left new)
name_read t = read_as (takes {s = Name} _ refl (if_true _ _ t.is) t.taken) (sym t.value)
