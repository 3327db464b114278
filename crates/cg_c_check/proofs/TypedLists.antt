-- Lists of typed expressions, and what a name with them is.
use Rattle.std.proofs.Common.{◌≡◌, ℕ, suc, ◌+◌, ◌<◌, ◌≤◌, Bool, true, false, List, [], ◌∷◌, ◌++◌, length, drop, get_or, Ok, Err, refl, sym, ap, ◌∙◌, arith}
use Rattle.std.proofs.Math.ListN.{drop_of_length-le}
use Rattle.cg_c_syntax.specs.declared.expression.Named.{Named}
use Rattle.cg_c_syntax.specs.declared.expression.Expr.{Expr as WrittenExpr}
use Rattle.cg_c_syntax.specs.Tree as trees
use Rattle.cg_c_syntax.specs.Written as written
use Rattle.cg_c_check.specs.declared.fault.CheckFault.TheVariants.{BadPort}
use Rattle.cg_c_check.specs.declared.program.Expr.{Expr as MadeExpr}
use Rattle.cg_c_check.specs.Program.{Expr, Element, Input, Exprs, NoExprs, MoreExprs}
use Rattle.cg_c_check.specs.Faults.{CheckFault, Checked}
use Rattle.cg_c_check.specs.Names.{Meaning, Shape, known, array_named}
use Rattle.cg_c_check.specs.Constants.{count}
use Rattle.cg_c_check.specs.Ports.{port_of}
use Rattle.cg_c_check.specs.Walk.{State, Walk, onward, give, with_state}
use Rattle.cg_c_check.specs.Expressions.{expr, exprs, value_named}
use Rattle.cg_c_check.specs.Written.{expr_of, exprs_of}
use Rattle.cg_c_check.proofs.Steps.{count_is}
use Rattle.cg_c_check.proofs.TypedSteps.{front, behind, before_more, before_all, access_alone, access_misused}

-- ---- lists that are gone through

pub behind_none : (r : Checked (Exprs × State)) → behind [] r ≡ r
behind_none (Ok r) = refl
behind_none (Err f) = refl

behind_more : (xs : List MadeExpr) (x : MadeExpr) (r : Checked (Exprs × State)) → behind xs (onward (λ more. give (MoreExprs (expr_of x) more)) r) ≡ behind (xs ++ x ∷ []) r
behind_more xs x (Ok r) = ap (λ z. Ok (z, r.1)) (before_more xs x r.0)
behind_more xs x (Err f) = refl

more_fails : (each : Bool) (s : State) (e : trees.Expr) (es : trees.Exprs) (f : CheckFault) → expr each e s ≡ Err f → exprs each (trees.MoreExprs e es) s ≡ Err f
unfolding exprs
more_fails each s e es f h = rw h refl

more_goes : (each : Bool) (s : State) (e : trees.Expr) (es : trees.Exprs) (a : Expr) (s0 : State) → expr each e s ≡ Ok (a, s0) → exprs each (trees.MoreExprs e es) s ≡ onward (λ more. give (MoreExprs a more)) (exprs each es s0)
unfolding exprs
more_goes each s e es a s0 h = rw h refl

none_go : (each : Bool) (s : State) → exprs each trees.NoExprs s ≡ Ok (NoExprs, s)
unfolding exprs
none_go each s = refl

pub list_fails : (each : Bool) (s : State) (xs : List MadeExpr) (ts : List WrittenExpr) (i : ℕ) (t : WrittenExpr) (f : CheckFault) → i < length ts → t ≡ get_or ts i t → expr each (written.expr_of t) s ≡ Err f
    → behind xs (exprs each (written.exprs_of (drop i ts)) s) ≡ Err f
list_fails each s xs ts i t f lt is h =
    ap (λ z. behind xs (exprs each (written.exprs_of z) s)) (front ts i t lt is) ∙ ap (behind xs) (more_fails each s (written.expr_of t) (written.exprs_of (drop (i + 1) ts)) f h)

pub list_goes : (each : Bool) (s : State) (xs : List MadeExpr) (ts : List WrittenExpr) (i : ℕ) (t : WrittenExpr) (x : MadeExpr) (s0 : State) → i < length ts → t ≡ get_or ts i t → expr each (written.expr_of t) s ≡ Ok (expr_of x, s0)
    → behind xs (exprs each (written.exprs_of (drop i ts)) s) ≡ behind (xs ++ x ∷ []) (exprs each (written.exprs_of (drop (i + 1) ts)) s0)
list_goes each s xs ts i t x s0 lt is h =
    ap (λ z. behind xs (exprs each (written.exprs_of z) s)) (front ts i t lt is) ∙ ap (behind xs) (more_goes each s (written.expr_of t) (written.exprs_of (drop (i + 1) ts)) (expr_of x) s0 h)
    ∙ behind_more xs x (exprs each (written.exprs_of (drop (i + 1) ts)) s0)

pub list_ends : (each : Bool) (s : State) (xs : List MadeExpr) (ts : List WrittenExpr) (i : ℕ) → length ts ≤ i → behind xs (exprs each (written.exprs_of (drop i ts)) s) ≡ Ok (exprs_of xs, s)
list_ends each s xs ts i le =
    ap (λ z. behind xs (exprs each (written.exprs_of z) s)) (drop_of_length-le ts le) ∙ ap (behind xs) (none_go each s) ∙ ap (λ z. Ok (z, s)) (before_all xs)

-- ---- names, with as many indices as a list has

pub name_alone : (each : Bool) (s : State) (name : Named) (es : List WrittenExpr) (m : Meaning) (r : Checked Expr) → length es ≡ 0 → known s.names name ≡ Ok m → value_named name.place m ≡ r
    → expr each (trees.Access name (written.exprs_of es)) s ≡ with_state s r
name_alone each s name [] m r none h g = access_alone each s name m h ∙ ap (with_state s) g
name_alone each s name (e ∷ es) m r none h g = absurd (omega arith)

counted : (name : Named) (e : WrittenExpr) (es : List WrittenExpr) (m : Meaning) (n : ℕ) (r : Checked Shape) → n ≡ length (e ∷ es) → array_named name.place n m ≡ r → array_named name.place (suc (count (written.exprs_of es))) m ≡ r
counted name e es m n r len h = ap (λ k. array_named name.place (suc k) m) (count_is es) ∙ ap (λ k. array_named name.place k m) (sym len) ∙ h

pub name_misused : (each : Bool) (s : State) (name : Named) (es : List WrittenExpr) (m : Meaning) (n : ℕ) (f : CheckFault) → 0 < length es → n ≡ length es → known s.names name ≡ Ok m → array_named name.place n m ≡ Err f
    → expr each (trees.Access name (written.exprs_of es)) s ≡ Err f
name_misused each s name [] m n f some len h g = absurd (omega arith)
name_misused each s name (e ∷ es) m n f some len h g = access_misused each s name (written.expr_of e) (written.exprs_of es) m f h (counted name e es m n (Err f) len g)

-- the element of an array, by the indices
element_at : (place : ℕ) → Shape → Exprs → Walk Expr
element_at place shape es = give (Element shape.number place shape.signedness es)

indexed_more : (place : ℕ) (shape : Shape) (a : Expr) (r : Checked (Exprs × State)) → onward (λ more. give (Element shape.number place shape.signedness (MoreExprs a more))) r ≡ onward (element_at place shape) (onward (λ more. give (MoreExprs a more)) r)
unfolding element_at
indexed_more place shape a (Ok r) = refl
indexed_more place shape a (Err f) = refl

indexed : (place : ℕ) (shape : Shape) (next : State → Checked (Exprs × State)) (r : Checked (Expr × State))
    → onward (λ a. λ s. onward (λ more. give (Element shape.number place shape.signedness (MoreExprs a more))) (next s)) r ≡ onward (element_at place shape) (onward (λ a. λ s. onward (λ more. give (MoreExprs a more)) (next s)) r)
indexed place shape next (Ok r) = indexed_more place shape r.0 (next r.1)
indexed place shape next (Err f) = refl

access_indexed : (each : Bool) (s : State) (name : Named) (e : trees.Expr) (es : trees.Exprs) (m : Meaning) (shape : Shape) → known s.names name ≡ Ok m → array_named name.place (suc (count es)) m ≡ Ok shape
    → expr each (trees.Access name (trees.MoreExprs e es)) s ≡ onward (element_at name.place shape) (exprs each (trees.MoreExprs e es) s)
unfolding expr exprs
access_indexed each s name e es m shape h g = rw (h, g) (indexed name.place shape (exprs each es) (expr each e s))

name_indexed : (each : Bool) (s : State) (name : Named) (es : List WrittenExpr) (m : Meaning) (n : ℕ) (shape : Shape) → 0 < length es → n ≡ length es → known s.names name ≡ Ok m → array_named name.place n m ≡ Ok shape
    → expr each (trees.Access name (written.exprs_of es)) s ≡ onward (element_at name.place shape) (exprs each (written.exprs_of es) s)
name_indexed each s name [] m n shape some len h g = absurd (omega arith)
name_indexed each s name (e ∷ es) m n shape some len h g = access_indexed each s name (written.expr_of e) (written.exprs_of es) m shape h (counted name e es m n (Ok shape) len g)

pub index_fails : (each : Bool) (s : State) (name : Named) (es : List WrittenExpr) (m : Meaning) (n : ℕ) (shape : Shape) (f : CheckFault) → 0 < length es → n ≡ length es → known s.names name ≡ Ok m → array_named name.place n m ≡ Ok shape
    → exprs each (written.exprs_of es) s ≡ Err f → expr each (trees.Access name (written.exprs_of es)) s ≡ Err f
index_fails each s name es m n shape f some len h g k = name_indexed each s name es m n shape some len h g ∙ ap (onward (element_at name.place shape)) k

pub index_goes : (each : Bool) (s : State) (name : Named) (es : List WrittenExpr) (m : Meaning) (n : ℕ) (shape : Shape) (indices : Exprs) (s0 : State) → 0 < length es → n ≡ length es → known s.names name ≡ Ok m
    → array_named name.place n m ≡ Ok shape → exprs each (written.exprs_of es) s ≡ Ok (indices, s0) → expr each (trees.Access name (written.exprs_of es)) s ≡ Ok (Element shape.number name.place shape.signedness indices, s0)
unfolding element_at
index_goes each s name es m n shape indices s0 some len h g k = name_indexed each s name es m n shape some len h g ∙ ap (onward (element_at name.place shape)) k

-- ---- inputs

pub input_fails : (each : Bool) (s : State) (place : ℕ) (port : trees.Expr) (f : CheckFault) → port_of s.inputs s.names port ≡ Err f → expr each (trees.Input place port) s ≡ Err f
unfolding expr
input_fails each s place port f h = rw h refl

pub input_barred : (each : Bool) (s : State) (place : ℕ) (port : trees.Expr) (p : ℕ) → port_of s.inputs s.names port ≡ Ok p → each ≡ false → expr each (trees.Input place port) s ≡ Err (BadPort place)
unfolding expr
input_barred each s place port p h not_each = rw (h, not_each) refl

pub input_goes : (each : Bool) (s : State) (place : ℕ) (port : trees.Expr) (p : ℕ) (inputs : List ℕ) → port_of s.inputs s.names port ≡ Ok p → inputs ≡ s.inputs ++ p ∷ [] → each ≡ true
    → expr each (trees.Input place port) s ≡ Ok (Input p, record s { inputs = inputs })
unfolding expr
input_goes each s place port p inputs h taken is_each = rw (h, is_each, taken) refl
