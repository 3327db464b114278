-- What statements begin with.
use Rattle.std.proofs.Common.{◌≡◌, ℕ, ◌<◌, ◌≤◌, Bool, true, false, cond, List, Some, None, [], ◌∷◌, codes, refl, sym, ◌∙◌, ap, subst, add-one, ◌+◌}
use Rattle.std.proofs.lemmas.Bool.{le-leb, lt-leb}
use Rattle.cg_c_syntax.specs.declared.token.Kind.{Kind}
use Rattle.cg_c_syntax.specs.declared.token.Kind.TheVariants.{Word, Number, Mark, Stdint, Cgra, Define, LineEnd, TextEnd, Stray}
use Rattle.cg_c_syntax.specs.declared.opening.Beginning.{Beginning}
use Rattle.cg_c_syntax.specs.declared.opening.Beginning.TheVariants as beginnings
use Rattle.cg_c_syntax.specs.declared.statement.Signedness.{Signedness}
use Rattle.cg_c_syntax.specs.Tokens.{Token, is_last}
use Rattle.cg_c_syntax.specs.Symbols.{TheMark, Expression, Statements, Plain, Else, Looped, CounterType, Counter}
use Rattle.cg_c_syntax.specs.Words.{is_word, cast_by, whole, signedness_of, beginning_by, beginning_of, change_by, change_of}
use Rattle.cg_c_syntax.specs.declared.opening.Change.{Change}
use Rattle.cg_c_syntax.specs.Grammar.{step, barred, at_limit, is_counted, plain_step}
use Rattle.cg_c_syntax.specs.Tree.{Block, For}
use Rattle.cg_c_syntax.specs.Words.{is_the_word}
use Rattle.cg_c_syntax.specs.Grammar.{if_of}
use Rattle.cg_c_reader.specs.Left.{Rest, all, Leads}
use Rattle.cg_c_reader.proofs.Single.{if_true}
use Rattle.cg_c_reader.proofs.Leading.{takes}

-- ---- the limit

pub below_limit : (depth place : ℕ) → depth < 60 → at_limit depth place ≡ None
below_limit depth place h = ap (λ (b : Bool). cond b (Some place) None) (lt-leb 60 depth h)

pub above_limit : (depth place : ℕ) → 60 ≤ depth → at_limit depth place ≡ Some place
above_limit depth place h = ap (λ (b : Bool). cond b (Some place) None) (le-leb 60 depth h)

-- ---- statements that are no declarations

goes_on_by : (kind : Kind) (s : List ℕ) (b : Beginning) → beginning_by kind s ≡ b → (b ≡ beginnings.Nothing → ⊥) → is_last kind ≡ false
goes_on_by Word s b h not = refl
goes_on_by Number s b h not = refl
goes_on_by Mark s b h not = refl
goes_on_by Stdint s b h not = refl
goes_on_by Cgra s b h not = refl
goes_on_by Define s b h not = refl
goes_on_by LineEnd s b h not = refl
goes_on_by TextEnd s b h not = absurd (not (sym h))
goes_on_by Stray s b h not = absurd (not (sym h))

pub beginning_goes_on : (t : Token) (b : Beginning) → beginning_of t ≡ b → (b ≡ beginnings.Nothing → ⊥) → is_last t.kind ≡ false
beginning_goes_on t b h not = goes_on_by t.kind t.text b h not

mark_no_name : (b : Bool) → cond b beginnings.Block beginnings.Nothing ≡ beginnings.Name → ⊥
mark_no_name true h = cc
mark_no_name false h = cc

name_word : (kind : Kind) (s : List ℕ) → beginning_by kind s ≡ beginnings.Name → is_word kind ≡ true
name_word Word s h = refl
name_word Number s h = cc
name_word Mark s h = absurd (mark_no_name _ h)
name_word Stdint s h = cc
name_word Cgra s h = cc
name_word Define s h = cc
name_word LineEnd s h = cc
name_word TextEnd s h = cc
name_word Stray s h = cc

pub beginning_word : (t : Token) → beginning_of t ≡ beginnings.Name → is_word t.kind ≡ true
beginning_word t h = name_word t.kind t.text h

pub plain_is : (depth : ℕ) (t : Token) (b : Beginning) → beginning_of t ≡ b → step (Plain depth) t ≡ plain_step depth t b
plain_is depth t b h = ap (plain_step depth t) h

pub plain_free : (depth : ℕ) (t : Token) (b : Beginning) → beginning_of t ≡ b → is_counted b ≡ false → barred (Plain depth) t ≡ None
plain_free depth t b h not = ap (λ (x : Beginning). cond (is_counted x) (at_limit depth t.place) None) h ∙ ap (λ (x : Bool). cond x (at_limit depth t.place) None) not

pub plain_open : (depth : ℕ) (t : Token) (b : Beginning) → beginning_of t ≡ b → is_counted b ≡ true → depth < 60 → barred (Plain depth) t ≡ None
plain_open depth t b h is room = ap (λ (x : Beginning). cond (is_counted x) (at_limit depth t.place) None) h ∙ ap (λ (x : Bool). cond x (at_limit depth t.place) None) is ∙ below_limit depth t.place room

pub plain_full : (depth : ℕ) (t : Token) (b : Beginning) → beginning_of t ≡ b → is_counted b ≡ true → 60 ≤ depth → barred (Plain depth) t ≡ Some t.place
plain_full depth t b h is most = ap (λ (x : Beginning). cond (is_counted x) (at_limit depth t.place) None) h ∙ ap (λ (x : Bool). cond x (at_limit depth t.place) None) is ∙ above_limit depth t.place most

-- ---- declarations

type_goes_on_by : (kind : Kind) (s : List ℕ) (sgn : Signedness) → whole (cast_by kind s) ≡ Some sgn → is_last kind ≡ false
type_goes_on_by Word s sgn h = refl
type_goes_on_by Number s sgn h = refl
type_goes_on_by Mark s sgn h = refl
type_goes_on_by Stdint s sgn h = refl
type_goes_on_by Cgra s sgn h = refl
type_goes_on_by Define s sgn h = refl
type_goes_on_by LineEnd s sgn h = refl
type_goes_on_by TextEnd s sgn h = cc
type_goes_on_by Stray s sgn h = cc

pub type_goes_on : (t : Token) (sgn : Signedness) → signedness_of t ≡ Some sgn → is_last t.kind ≡ false
type_goes_on t sgn h = type_goes_on_by t.kind t.text sgn h

-- ---- assignments

change_goes_on_by : (kind : Kind) (s : List ℕ) (c : Change) → change_by kind s ≡ Some c → is_last kind ≡ false
change_goes_on_by Word s c h = refl
change_goes_on_by Number s c h = refl
change_goes_on_by Mark s c h = refl
change_goes_on_by Stdint s c h = refl
change_goes_on_by Cgra s c h = refl
change_goes_on_by Define s c h = refl
change_goes_on_by LineEnd s c h = refl
change_goes_on_by TextEnd s c h = cc
change_goes_on_by Stray s c h = cc

pub change_goes_on : (t : Token) (c : Change) → change_of t ≡ Some c → is_last t.kind ≡ false
change_goes_on t c h = change_goes_on_by t.kind t.text c h

-- ---- lines that open a construct

pub block_takes : (depth : ℕ) (old mid : Rest) → beginning_of old.head ≡ beginnings.Block → depth < 60 → old.more ≡ all mid → Leads (Plain depth) (Statements (depth + 1) ∷ []) (λ v. Block v.0) old mid
block_takes depth old mid is room more =
    subst (λ (d : ℕ). Leads (Plain depth) (Statements d ∷ []) (λ v. Block v.0) old mid) (sym (add-one depth))
    (takes {s = Plain depth} _ (plain_open depth old.head beginnings.Block is refl room) (plain_is depth old.head beginnings.Block is) more)

pub if_takes : (depth : ℕ) (old mid : Rest) → beginning_of old.head ≡ beginnings.If → depth < 60 → old.more ≡ all mid
    → Leads (Plain depth) (TheMark (codes "(") ∷ Expression (depth + 1) ∷ TheMark (codes ")") ∷ Plain (depth + 1) ∷ Else (depth + 1) ∷ []) (λ v. if_of v.1.0 v.1.1.1.0 v.1.1.1.1.0) old mid
if_takes depth old mid is room more =
    subst (λ (d : ℕ). Leads (Plain depth) (TheMark (codes "(") ∷ Expression d ∷ TheMark (codes ")") ∷ Plain d ∷ Else d ∷ []) (λ v. if_of v.1.0 v.1.1.1.0 v.1.1.1.1.0) old mid) (sym (add-one depth))
    (takes {s = Plain depth} _ (plain_open depth old.head beginnings.If is refl room) (plain_is depth old.head beginnings.If is) more)

pub for_takes : (depth : ℕ) (old mid : Rest) → is_the_word (codes "for") old.head ≡ true → depth < 60 → old.more ≡ all mid
    → Leads (Looped depth) (TheMark (codes "(") ∷ CounterType ∷ Counter (depth + 1) ∷ []) (λ v. For old.head.place v.1.1.0.head v.1.1.0.body) old mid
for_takes depth old mid is room more =
    subst (λ (d : ℕ). Leads (Looped depth) (TheMark (codes "(") ∷ CounterType ∷ Counter d ∷ []) (λ v. For old.head.place v.1.1.0.head v.1.1.0.body) old mid) (sym (add-one depth))
    (takes {s = Looped depth} _ (if_true _ _ is ∙ below_limit depth old.head.place room) (if_true _ _ is) more)
