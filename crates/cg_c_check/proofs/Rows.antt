-- The trees of expressions, by the lists and the boxes that the types hold.
use Rattle.std.proofs.Common.{◌≡◌, ℕ, suc, ◌-◌, ◌<◌, ◌≤◌, List, [], ◌∷◌, length, get_or, refl, sym, ap, ◌∙◌, arith, rules, Vec, Box, Global}
use Rattle.cg_c_syntax.specs.declared.expression.Element.{Element}
use Rattle.cg_c_syntax.specs.declared.expression.Link.{Link}
use Rattle.cg_c_syntax.specs.declared.expression.Expr.{Expr as WrittenExpr, Row_of-Expr, end_of-Expr, more_of-Expr, Row_of-Link, end_of-Link, more_of-Link, items-the_row-Expr, items-the_row-Link, the_lemmas}
use Rattle.cg_c_syntax.specs.declared.expression.Expr as made
use Rattle.cg_c_syntax.specs.Tree.{Expr, Access, Signed, Converted, Input, Picked, Two, Choice, MoreExprs}
use Rattle.cg_c_syntax.specs.declared.expression.Sign.{Sign}
use Rattle.cg_c_syntax.specs.declared.expression.Cast.{Cast}
use Rattle.cg_c_syntax.specs.declared.expression.Pick.{Pick}
use Rattle.cg_c_syntax.specs.Written.{expr_of, row_exprs, row_linked, exprs_of, linked}
use Rattle.cg_c_check.specs.Constants.{place_of}

pub exprs_is : {m : _} (row : Row_of-Expr m) → row_exprs row ≡ exprs_of (items-the_row-Expr m row)
exprs_is end_of-Expr = refl
exprs_is (more_of-Expr e rest) = ap (λ z. MoreExprs (expr_of e) z) (exprs_is rest)

pub linked_is : {m : _} (e : Expr) (row : Row_of-Link m) → row_linked e row ≡ linked e (items-the_row-Link m row)
linked_is e end_of-Link = refl
linked_is e (more_of-Link op place operand rest) = linked_is (Two op place e (expr_of operand)) rest

pub element_is : (e : Element) → expr_of (made.Element e) ≡ Access e.name (exprs_of e.indices.items)
element_is e = search (rules, exprs_is, the_lemmas)

pub chain_is : (first : Box WrittenExpr Global) (rest : Vec Link Global) → expr_of (made.Chain first rest) ≡ linked (expr_of first.value) rest.items
chain_is first rest = search (rules, linked_is, the_lemmas)

pub sign_is : (sign : Sign) (place : ℕ) (operand : Box WrittenExpr Global) → expr_of (made.Sign sign place operand) ≡ Signed sign place (expr_of operand.value)
sign_is sign place operand = search (rules, the_lemmas)

pub cast_is : (to : Cast) (place : ℕ) (operand : Box WrittenExpr Global) → expr_of (made.Cast to place operand) ≡ Converted to place (expr_of operand.value)
cast_is to place operand = search (rules, the_lemmas)

pub input_is : (place : ℕ) (port : Box WrittenExpr Global) → expr_of (made.Input place port) ≡ Input place (expr_of port.value)
input_is place port = search (rules, the_lemmas)

pub pick_is : (pick : Pick) (place : ℕ) (first second : Box WrittenExpr Global) → expr_of (made.Pick pick place first second) ≡ Picked pick place (expr_of first.value) (expr_of second.value)
pick_is pick place first second = search (rules, the_lemmas)

pub choice_is : (place : ℕ) (c a b : Box WrittenExpr Global) → expr_of (made.Choice place c a b) ≡ Choice place (expr_of c.value) (expr_of a.value) (expr_of b.value)
choice_is place c a b = search (rules, the_lemmas)

-- the place of a chain is that of its last operator
pub place_linked : (e : Expr) (ls : List Link) (d : Link) → 0 < length ls → place_of (linked e ls) ≡ (get_or ls (length ls - 1) d).place
place_linked e [] d h = absurd (omega arith)
place_linked e (l ∷ []) d h = refl
place_linked e (l ∷ m ∷ ls) d h =
    let last : suc (length (m ∷ ls) - 1) ≡ length (l ∷ m ∷ ls) - 1 = omega arith in
    place_linked (Two l.op l.place e (expr_of l.operand)) (m ∷ ls) d (omega arith) ∙ ap (λ i. (get_or (l ∷ m ∷ ls) i d).place) last

pub place_chain : (E : WrittenExpr) (first : Box WrittenExpr Global) (rest : Vec Link Global) (xs : List Link) (l : Link) → E ≡ made.Chain first rest → xs ≡ rest.items → 0 < length xs → l ≡ get_or xs (length xs - 1) l → l.place ≡ place_of (expr_of E)
place_chain E first rest xs l h same full is =
    ap (λ (z : Link). z.place) is ∙ sym (place_linked (expr_of first.value) xs l full) ∙ ap (λ z. place_of (linked (expr_of first.value) z)) same
    ∙ sym (ap place_of (chain_is first rest)) ∙ sym (ap (λ z. place_of (expr_of z)) h)

none_left : (xs : List Link) → length xs ≤ 0 → xs ≡ []
none_left [] h = refl
none_left (x ∷ xs) h = absurd (omega arith)

pub place_first : (E : WrittenExpr) (first : Box WrittenExpr Global) (rest : Vec Link Global) (xs : List Link) → E ≡ made.Chain first rest → xs ≡ rest.items → length xs ≤ 0 → place_of (expr_of first.value) ≡ place_of (expr_of E)
place_first E first rest xs h same none =
    ap (λ z. place_of (linked (expr_of first.value) z)) (sym (none_left xs none) ∙ same) ∙ sym (ap place_of (chain_is first rest)) ∙ sym (ap (λ z. place_of (expr_of z)) h)
