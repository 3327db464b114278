-- The expressions that values of the program denote, by their parts.
use Rattle.std.proofs.Common.{◌≡◌, ℕ, ◌<◌, ◌++◌, append_assoc, true, false, List, refl, sym, ap, ap₂, Vec, ◌∙◌, rules, subst, Box, Global}
use Rattle.cg_c_syntax.specs.declared.expression.Cast.{Cast}
use Rattle.cg_c_syntax.specs.declared.expression.Pick.{Pick}
use Rattle.cg_c_syntax.specs.declared.expression.Sign.{Sign}
use Rattle.cg_c_syntax.specs.declared.statement.Signedness.{Signedness}
use Rattle.cg_c_check.specs.declared.program.Array.{Array}
use Rattle.cg_c_check.specs.declared.program.Expr.{Expr as MadeExpr, Row_of-Expr, end_of-Expr, more_of-Expr, Row_of-Link, end_of-Link, more_of-Link, items-the_row-Expr, items-the_row-Link, the_lemmas}
use Rattle.cg_c_check.specs.declared.program.Element.{Element as MadeElement}
use Rattle.cg_c_check.specs.declared.program.Link.{Link}
use Rattle.cg_c_check.specs.declared.program.Expr as made
use Rattle.cg_c_check.specs.Program.{Expr, Element, Signed, Converted, Input, Picked, Two, Choice, MoreExprs}
use Rattle.cg_c_check.specs.Written.{expr_of, row_exprs, row_linked, exprs_of, linked}
use Rattle.cg_c_meaning.specs.Typed.{AreApart, IsArray, IsTypedExpr, IsTypedExprs, inputs, inputs_of}
use Rattle.cg_c_turn.proofs.Growing.{apart_first, apart_second}
use Rattle.cg_c_turn.proofs.Composing.{typed_true}

sign_at : (sign : Sign) (s : Signedness) (operand : Box MadeExpr Global) → expr_of (made.Sign sign s operand) ≡ Signed sign s (expr_of operand.value)
sign_at sign s operand = search (rules, the_lemmas)

cast_at : (to : Cast) (operand : Box MadeExpr Global) → expr_of (made.Cast to operand) ≡ Converted to (expr_of operand.value)
cast_at to operand = search (rules, the_lemmas)

pub sign_shape : (E o : MadeExpr) (sign : Sign) (s : Signedness) (operand : Box MadeExpr Global) → E ≡ made.Sign sign s operand → o ≡ operand.value → expr_of E ≡ Signed sign s (expr_of o)
sign_shape E o sign s operand h e = ap expr_of h ∙ sign_at sign s operand ∙ ap (λ (z : MadeExpr). Signed sign s (expr_of z)) (sym e)

pub cast_shape : (E o : MadeExpr) (to : Cast) (operand : Box MadeExpr Global) → E ≡ made.Cast to operand → o ≡ operand.value → expr_of E ≡ Converted to (expr_of o)
cast_shape E o to operand h e = ap expr_of h ∙ cast_at to operand ∙ ap (λ (z : MadeExpr). Converted to (expr_of z)) (sym e)

pub sign_typed : (arrays : List Array) (whole e : Expr) (sign : Sign) (s : Signedness) → whole ≡ Signed sign s e → IsTypedExpr arrays true whole → IsTypedExpr arrays true e
unfolding IsTypedExpr
sign_typed arrays whole e sign s h t = subst (IsTypedExpr arrays true) h t

pub sign_apart : (whole e : Expr) (sign : Sign) (s : Signedness) → whole ≡ Signed sign s e → AreApart (inputs whole) → AreApart (inputs e)
unfolding inputs
sign_apart whole e sign s h t = subst (λ (z : Expr). AreApart (inputs z)) h t

pub cast_typed : (arrays : List Array) (whole e : Expr) (to : Cast) → whole ≡ Converted to e → IsTypedExpr arrays true whole → IsTypedExpr arrays true e
unfolding IsTypedExpr
cast_typed arrays whole e to h t = subst (IsTypedExpr arrays true) h t

pub cast_apart : (whole e : Expr) (to : Cast) → whole ≡ Converted to e → AreApart (inputs whole) → AreApart (inputs e)
unfolding inputs
cast_apart whole e to h t = subst (λ (z : Expr). AreApart (inputs z)) h t

pub input_port : (arrays : List Array) (E : MadeExpr) (port : ℕ) → E ≡ made.Input port → IsTypedExpr arrays true (expr_of E) → port < 16
unfolding IsTypedExpr
input_port arrays E port h t = (let k : IsTypedExpr arrays true (Input port) = subst (λ (z : MadeExpr). IsTypedExpr arrays true (expr_of z)) h t in k.1)

-- ---- chains and elements

exprs_is : {m : _} (row : Row_of-Expr m) → row_exprs row ≡ exprs_of (items-the_row-Expr m row)
exprs_is end_of-Expr = refl
exprs_is (more_of-Expr e rest) = ap (λ z. MoreExprs (expr_of e) z) (exprs_is rest)

linked_is : {m : _} (e : Expr) (row : Row_of-Link m) → row_linked e row ≡ linked e (items-the_row-Link m row)
linked_is e end_of-Link = refl
linked_is e (more_of-Link op s operand rest) = linked_is (Two op s e (expr_of operand)) rest

element_at : (e : MadeElement) → expr_of (made.Element e) ≡ Element e.array e.place e.signedness (exprs_of e.indices.items)
element_at e = search (rules, exprs_is, the_lemmas)

chain_at : (first : Box MadeExpr Global) (rest : Vec Link Global) → expr_of (made.Chain first rest) ≡ linked (expr_of first.value) rest.items
chain_at first rest = search (rules, linked_is, the_lemmas)

pub element_shape : (E : MadeExpr) (e : MadeElement) → E ≡ made.Element e → expr_of E ≡ Element e.array e.place e.signedness (exprs_of e.indices.items)
element_shape E e h = ap expr_of h ∙ element_at e

pub chain_shape : (E o : MadeExpr) (r : List Link) (first : Box MadeExpr Global) (rest : Vec Link Global) → E ≡ made.Chain first rest → o ≡ first.value → r ≡ rest.items → expr_of E ≡ linked (expr_of o) r
chain_shape E o r first rest h e k = ap expr_of h ∙ chain_at first rest ∙ ap₂ (λ (z : MadeExpr) (ls : List Link). linked (expr_of z) ls) (sym e) (sym k)

-- what is known of an element
pub record ElementTyped (arrays : List Array) (e : MadeElement) : Type 0 where
  pub there : IsArray arrays e.array
  pub typed : IsTypedExprs arrays true (exprs_of e.indices.items)
  pub apart : AreApart (inputs_of (exprs_of e.indices.items))

pub element_typed : (arrays : List Array) (whole : Expr) (e : MadeElement) → whole ≡ Element e.array e.place e.signedness (exprs_of e.indices.items) → IsTypedExpr arrays true whole → AreApart (inputs whole) → ElementTyped arrays e
unfolding IsTypedExpr inputs
element_typed arrays whole e h t k =
    let x = subst (IsTypedExpr arrays true) h t in
    record { there = x.0; typed = x.1; apart = subst (λ (z : Expr). AreApart (inputs z)) h k }

-- ---- two operands, and three

pick_at : (pick : Pick) (first second : Box MadeExpr Global) → expr_of (made.Pick pick first second) ≡ Picked pick (expr_of first.value) (expr_of second.value)
pick_at pick first second = search (rules, the_lemmas)

choice_at : (s : Signedness) (k e f : Box MadeExpr Global) → expr_of (made.Choice s k e f) ≡ Choice s (expr_of k.value) (expr_of e.value) (expr_of f.value)
choice_at s k e f = search (rules, the_lemmas)

pub pick_shape : (E : MadeExpr) (pick : Pick) (first second : Box MadeExpr Global) → E ≡ made.Pick pick first second → expr_of E ≡ Picked pick (expr_of first.value) (expr_of second.value)
pick_shape E pick first second h = ap expr_of h ∙ pick_at pick first second

pub choice_shape : (E : MadeExpr) (s : Signedness) (k e f : Box MadeExpr Global) → E ≡ made.Choice s k e f → expr_of E ≡ Choice s (expr_of k.value) (expr_of e.value) (expr_of f.value)
choice_shape E s k e f h = ap expr_of h ∙ choice_at s k e f

pub record PickTyped (arrays : List Array) (e f : Expr) : Type 0 where
  pub first : IsTypedExpr arrays true e
  pub second : IsTypedExpr arrays true f
  pub apart : AreApart (inputs e ++ inputs f)
  pub apart_first : AreApart (inputs e)
  pub apart_second : AreApart (inputs f)

pub pick_typed : (arrays : List Array) (whole e f : Expr) (pick : Pick) → whole ≡ Picked pick e f → IsTypedExpr arrays true whole → AreApart (inputs whole) → PickTyped arrays e f
unfolding IsTypedExpr inputs
pick_typed arrays whole e f pick h t k =
    let x = subst (IsTypedExpr arrays true) h t in
    let a = subst (λ (z : Expr). AreApart (inputs z)) h k in
    record { first = x.0; second = x.1; apart = a; apart_first = apart_first (inputs e) (inputs f) a; apart_second = apart_second (inputs e) (inputs f) a }

pub record ChoiceTyped (arrays : List Array) (k e f : Expr) : Type 0 where
  pub condition : IsTypedExpr arrays true k
  pub chosen : IsTypedExpr arrays true e
  pub other : IsTypedExpr arrays true f
  pub apart : AreApart (inputs k ++ (inputs e ++ inputs f))
  pub apart_condition : AreApart (inputs k)
  pub apart_chosen : AreApart (inputs e)
  pub apart_other : AreApart (inputs f)

pub choice_typed : (arrays : List Array) (whole k e f : Expr) (s : Signedness) → whole ≡ Choice s k e f → IsTypedExpr arrays true whole → AreApart (inputs whole) → ChoiceTyped arrays k e f
unfolding IsTypedExpr inputs
choice_typed arrays whole k e f s h t r =
    let x = subst (IsTypedExpr arrays true) h t in
    let a = subst AreApart (append_assoc (inputs k) (inputs e) (inputs f)) (subst (λ (z : Expr). AreApart (inputs z)) h r) in
    let b = apart_second (inputs k) (inputs e ++ inputs f) a in
    record {
      condition = x.0;
      chosen = typed_true arrays false e x.1;
      other = typed_true arrays false f x.2;
      apart = a;
      apart_condition = apart_first (inputs k) (inputs e ++ inputs f) a;
      apart_chosen = apart_first (inputs e) (inputs f) b;
      apart_other = apart_second (inputs e) (inputs f) b;
    }

pub same_typed : (arrays now : List Array) (e o : Expr) → now ≡ arrays → o ≡ e → IsTypedExpr arrays true e → IsTypedExpr now true o
same_typed arrays now e o h k t = subst (λ (z : List Array). IsTypedExpr z true o) (sym h) (subst (IsTypedExpr arrays true) (sym k) t)

pub same_apart : (e o : Expr) → o ≡ e → AreApart (inputs e) → AreApart (inputs o)
same_apart e o k t = subst (λ (z : Expr). AreApart (inputs z)) (sym k) t
