-- Trees that are built of their parts.
use Rattle.std.proofs.Common.{◌≡◌, ℕ, List, [], ◌∷◌, ◌++◌, refl, sym, ap, ap₂, ◌∙◌, rules, Vec, Global}
use Rattle.cg_c_syntax.specs.declared.expression.Expr.{Expr as WrittenExpr, Element as ElementExpr, the_lemmas}
use Rattle.cg_c_syntax.specs.declared.expression.Pick.{Pick}
use Rattle.cg_c_syntax.specs.declared.expression.Named.{Named}
use Rattle.cg_c_syntax.specs.Tree.{Exprs, Access, Picked, Choice, NoExprs, MoreExprs}
use Rattle.cg_c_syntax.specs.Written.{expr_of, exprs_of}
use Rattle.cg_c_syntax.proofs.Listed.{exprs_is}

-- a name with its indices
pub element_value : (name : Named) (v : Vec WrittenExpr Global) → expr_of (ElementExpr (record { name = name; indices = v })) ≡ Access name (exprs_of v.items)
element_value name v = search (rules, exprs_is, the_lemmas)

pub picked_is : (pick : Pick) (place : ℕ) (a b a' b' : WrittenExpr) → a' ≡ a → b' ≡ b → Picked pick place (expr_of a) (expr_of b) ≡ Picked pick place (expr_of a') (expr_of b')
picked_is pick place a b a' b' e f = ap₂ (λ (x y : WrittenExpr). Picked pick place (expr_of x) (expr_of y)) (sym e) (sym f)

pub choice_is : (place : ℕ) (a b c a' b' c' : WrittenExpr) → a' ≡ a → b' ≡ b → c' ≡ c → Choice place (expr_of a) (expr_of b) (expr_of c) ≡ Choice place (expr_of a') (expr_of b') (expr_of c')
choice_is place a b c a' b' c' e f g =
    ap₂ (λ (x y : WrittenExpr). Choice place (expr_of x) (expr_of y) (expr_of c)) (sym e) (sym f) ∙ ap (λ (z : WrittenExpr). Choice place (expr_of a') (expr_of b') (expr_of z)) (sym g)

-- expressions before others
abbrev pub before : List WrittenExpr → Exprs → Exprs
before [] rest = rest
before (e ∷ es) rest = MoreExprs (expr_of e) (before es rest)

pub before_none : (es : List WrittenExpr) → before es NoExprs ≡ exprs_of es
before_none [] = refl
before_none (e ∷ es) = ap (MoreExprs (expr_of e)) (before_none es)

pub before_push : (es : List WrittenExpr) (e : WrittenExpr) (rest : Exprs) → before (es ++ e ∷ []) rest ≡ before es (MoreExprs (expr_of e) rest)
before_push [] e rest = refl
before_push (x ∷ es) e rest = ap (MoreExprs (expr_of x)) (before_push es e rest)
