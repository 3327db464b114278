-- Typed expressions, by the lists and the boxes that the types hold.
use Rattle.std.proofs.Common.{◌≡◌, suc, ◌-◌, ◌<◌, ◌≤◌, List, [], ◌∷◌, ◌++◌, length, get_or, Option, Some, None, refl, sym, ap, ◌∙◌, arith, rules, Vec, Box, Global}
use Rattle.cg_c_syntax.specs.declared.expression.Sign.{Sign}
use Rattle.cg_c_syntax.specs.declared.expression.Cast.{Cast}
use Rattle.cg_c_syntax.specs.declared.expression.Pick.{Pick}
use Rattle.cg_c_syntax.specs.declared.expression.Binary.{Binary}
use Rattle.cg_c_syntax.specs.declared.statement.Signedness.{Signedness}
use Rattle.cg_c_check.specs.declared.program.Element.{Element as MadeElement}
use Rattle.cg_c_check.specs.declared.program.Link.{Link}
use Rattle.cg_c_check.specs.declared.program.Expr.{Expr as MadeExpr, Row_of-Expr, end_of-Expr, more_of-Expr, Row_of-Link, end_of-Link, more_of-Link, items-the_row-Expr, items-the_row-Link, the_lemmas}
use Rattle.cg_c_check.specs.declared.program.Expr as made
use Rattle.cg_c_check.specs.Rules.{value_signedness, reading_of}
use Rattle.cg_c_check.specs.Program.{Expr, Literal, Element, Signed, Converted, Picked, Two, Choice, MoreExprs, signedness_of, Constant}
use Rattle.cg_c_check.specs.Expressions.{literal_of, folded_or, number_of_two, two}
use Rattle.cg_c_check.specs.Written.{expr_of, row_exprs, row_linked, exprs_of, linked}

pub exprs_is : {m : _} (row : Row_of-Expr m) → row_exprs row ≡ exprs_of (items-the_row-Expr m row)
exprs_is end_of-Expr = refl
exprs_is (more_of-Expr e rest) = ap (λ z. MoreExprs (expr_of e) z) (exprs_is rest)

pub linked_is : {m : _} (e : Expr) (row : Row_of-Link m) → row_linked e row ≡ linked e (items-the_row-Link m row)
linked_is e end_of-Link = refl
linked_is e (more_of-Link op reading operand rest) = linked_is (Two op reading e (expr_of operand)) rest

pub element_is : (e : MadeElement) → expr_of (made.Element e) ≡ Element e.array e.place e.signedness (exprs_of e.indices.items)
element_is e = search (rules, exprs_is, the_lemmas)

pub chain_is : (first : Box MadeExpr Global) (rest : Vec Link Global) → expr_of (made.Chain first rest) ≡ linked (expr_of first.value) rest.items
chain_is first rest = search (rules, linked_is, the_lemmas)

pub sign_is : (sign : Sign) (s : Signedness) (operand : Box MadeExpr Global) → expr_of (made.Sign sign s operand) ≡ Signed sign s (expr_of operand.value)
sign_is sign s operand = search (rules, the_lemmas)

pub cast_is : (to : Cast) (operand : Box MadeExpr Global) → expr_of (made.Cast to operand) ≡ Converted to (expr_of operand.value)
cast_is to operand = search (rules, the_lemmas)

pub pick_is : (pick : Pick) (first second : Box MadeExpr Global) → expr_of (made.Pick pick first second) ≡ Picked pick (expr_of first.value) (expr_of second.value)
pick_is pick first second = search (rules, the_lemmas)

pub choice_is : (s : Signedness) (c a b : Box MadeExpr Global) → expr_of (made.Choice s c a b) ≡ Choice s (expr_of c.value) (expr_of a.value) (expr_of b.value)
choice_is s c a b = search (rules, the_lemmas)

-- ---- chains

pub linked_more : (e : Expr) (ls : List Link) (l : Link) → linked e (ls ++ l ∷ []) ≡ Two l.op l.reading (linked e ls) (expr_of l.operand)
linked_more e [] l = refl
linked_more e (m ∷ ls) l = linked_more (Two m.op m.reading e (expr_of m.operand)) ls l

signedness_linked : (e : Expr) (ls : List Link) (d : Link) → 0 < length ls → signedness_of (linked e ls) ≡ value_signedness (get_or ls (length ls - 1) d).op (get_or ls (length ls - 1) d).reading
signedness_linked e [] d h = absurd (omega arith)
signedness_linked e (l ∷ []) d h = refl
signedness_linked e (l ∷ m ∷ ls) d h =
    let last : suc (length (m ∷ ls) - 1) ≡ length (l ∷ m ∷ ls) - 1 = omega arith in
    signedness_linked (Two l.op l.reading e (expr_of l.operand)) (m ∷ ls) d (omega arith) ∙ ap (λ i. value_signedness (get_or (l ∷ m ∷ ls) i d).op (get_or (l ∷ m ∷ ls) i d).reading) last

pub signedness_last : (e : Expr) (ls xs : List Link) (l : Link) → xs ≡ ls → 0 < length xs → l ≡ get_or xs (length xs - 1) l → value_signedness l.op l.reading ≡ signedness_of (linked e ls)
signedness_last e ls xs l same full is =
    ap (λ (z : Link). value_signedness z.op z.reading) is ∙ sym (signedness_linked e xs l full) ∙ ap (λ z. signedness_of (linked e z)) same

pub none_left : (xs : List Link) → length xs ≤ 0 → xs ≡ []
none_left [] h = refl
none_left (x ∷ xs) h = absurd (omega arith)

pub linked_none : (e : Expr) (ls xs : List Link) → xs ≡ ls → length xs ≤ 0 → linked e ls ≡ e
linked_none e ls xs same none = ap (λ z. linked e z) (sym same ∙ none_left xs none)

pub no_literal : (e : Expr) (ls : List Link) → 0 < length ls → literal_of (linked e ls) ≡ None
no_literal e [] h = absurd (omega arith)
no_literal e (l ∷ []) h = refl
no_literal e (l ∷ m ∷ ls) h = no_literal (Two l.op l.reading e (expr_of l.operand)) (m ∷ ls) (omega arith)

pub chain_signedness : (E : MadeExpr) (first : Box MadeExpr Global) (rest : Vec Link Global) (xs : List Link) (l : Link) → E ≡ made.Chain first rest → xs ≡ rest.items → 0 < length xs → l ≡ get_or xs (length xs - 1) l
    → value_signedness l.op l.reading ≡ signedness_of (expr_of E)
chain_signedness E first rest xs l h same full is =
    signedness_last (expr_of first.value) rest.items xs l same full is ∙ sym (ap signedness_of (chain_is first rest)) ∙ sym (ap (λ z. signedness_of (expr_of z)) h)

pub first_signedness : (E : MadeExpr) (first : Box MadeExpr Global) (rest : Vec Link Global) (xs : List Link) → E ≡ made.Chain first rest → xs ≡ rest.items → length xs ≤ 0 → signedness_of (expr_of first.value) ≡ signedness_of (expr_of E)
first_signedness E first rest xs h same none =
    sym (ap signedness_of (linked_none (expr_of first.value) rest.items xs same none)) ∙ sym (ap signedness_of (chain_is first rest)) ∙ sym (ap (λ z. signedness_of (expr_of z)) h)

pub first_literal : (E : MadeExpr) (first : Box MadeExpr Global) (rest : Vec Link Global) → E ≡ made.Chain first rest → length rest.items ≡ 0 → literal_of (expr_of first.value) ≡ literal_of (expr_of E)
first_literal E first rest h none =
    sym (ap literal_of (linked_none (expr_of first.value) rest.items rest.items refl (omega arith))) ∙ sym (ap literal_of (chain_is first rest)) ∙ sym (ap (λ z. literal_of (expr_of z)) h)

pub chain_literal : (E : MadeExpr) (first : Box MadeExpr Global) (rest : Vec Link Global) → E ≡ made.Chain first rest → 0 < length rest.items → None ≡ literal_of (expr_of E)
chain_literal E first rest h full =
    sym (no_literal (expr_of first.value) rest.items full) ∙ sym (ap literal_of (chain_is first rest)) ∙ sym (ap (λ z. literal_of (expr_of z)) h)

pub folded_some : (o : Option Constant) (c : Constant) (e : Expr) → o ≡ Some c → Literal c ≡ folded_or o e
folded_some o c e h = sym (ap (λ z. folded_or z e) h)

pub folded_none : (o : Option Constant) (e : Expr) → o ≡ None → e ≡ folded_or o e
folded_none o e h = sym (ap (λ z. folded_or z e) h)

pub joined_as_two : (op : Binary) (reading : Signedness) (a b : Expr) → reading ≡ reading_of op (signedness_of a) (signedness_of b) → number_of_two op (literal_of a) (literal_of b) ≡ None → Two op reading a b ≡ two op a b
joined_as_two op reading a b is none = ap (λ r. Two op r a b) is ∙ folded_none (number_of_two op (literal_of a) (literal_of b)) (Two op (reading_of op (signedness_of a) (signedness_of b)) a b) none
