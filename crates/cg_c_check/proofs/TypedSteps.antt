-- Typed expressions, by their parts.
use Rattle.std.proofs.Common.{◌≡◌, ℕ, suc, ◌+◌, ◌<◌, Bool, false, List, [], ◌∷◌, ◌++◌, length, drop, drop-cons, get_or, Ok, Err, refl, sym, ap, ◌∙◌, add-one, Box, Vec, Global}
use Rattle.cg_c_syntax.specs.declared.expression.Link.{Link}
use Rattle.cg_c_syntax.specs.declared.expression.Number.{Number}
use Rattle.cg_c_syntax.specs.declared.expression.Named.{Named}
use Rattle.cg_c_syntax.specs.declared.expression.Element.{Element}
use Rattle.cg_c_syntax.specs.declared.expression.Sign.{Sign}
use Rattle.cg_c_syntax.specs.declared.expression.Cast.{Cast}
use Rattle.cg_c_syntax.specs.declared.expression.Pick.{Pick}
use Rattle.cg_c_syntax.specs.declared.expression.Expr.{Expr as WrittenExpr}
use Rattle.cg_c_syntax.specs.declared.expression.Expr as tree
use Rattle.cg_c_syntax.specs.Tree as trees
use Rattle.cg_c_syntax.specs.Written as written
use Rattle.cg_c_check.specs.declared.program.Expr.{Expr as MadeExpr}
use Rattle.cg_c_check.specs.Program.{Expr, Literal, Picked, Exprs, NoExprs, MoreExprs}
use Rattle.cg_c_check.specs.Faults.{CheckFault, Checked}
use Rattle.cg_c_check.specs.Names.{Meaning, known, array_named}
use Rattle.cg_c_check.specs.Constants.{Constant, number, count}
use Rattle.cg_c_check.specs.Walk.{State, with_state}
use Rattle.cg_c_check.specs.Expressions.{expr, signed, converted, choice, value_named}
use Rattle.cg_c_check.specs.TypedChains.{joined, chained}
use Rattle.cg_c_check.specs.Written.{expr_of, exprs_of}
use Rattle.cg_c_check.proofs.Rows as rows

-- ---- chains

chained_is : (each : Bool) (s : State) (e : trees.Expr) (ls : List Link) → expr each (written.linked e ls) s ≡ chained each (expr each e s) ls
unfolding expr
chained_is each s e [] = refl
chained_is each s e (l ∷ ls) = chained_is each s (trees.Two l.op l.place e (written.expr_of l.operand)) ls

pub chained_fault : (each : Bool) (f : CheckFault) (ls : List Link) → chained each (Err f) ls ≡ Err f
chained_fault each f [] = refl
chained_fault each f (l ∷ ls) = chained_fault each f ls

pub chain_is : (each : Bool) (s : State) (E : WrittenExpr) (first : Box WrittenExpr Global) (rest : Vec Link Global) → E ≡ tree.Chain first rest → expr each (written.expr_of E) s ≡ chained each (expr each (written.expr_of first.value) s) rest.items
chain_is each s E first rest h = ap (λ z. expr each (written.expr_of z) s) h ∙ ap (λ z. expr each z s) (rows.chain_is first rest) ∙ chained_is each s (written.expr_of first.value) rest.items

pub front : {X : Type 0} (xs : List X) (i : ℕ) (x : X) → i < length xs → x ≡ get_or xs i x → drop i xs ≡ x ∷ drop (i + 1) xs
front xs i x lt is = drop-cons xs i x lt ∙ ap (λ z. z ∷ drop (suc i) xs) (sym is) ∙ ap (λ n. x ∷ drop n xs) (sym (add-one i))

-- one more operator of a chain that is gone through
pub chained_step : (each : Bool) (a : Expr) (s : State) (ls : List Link) (i : ℕ) (l : Link) → i < length ls → l ≡ get_or ls i l → chained each (Ok (a, s)) (drop i ls) ≡ chained each (joined each a l s) (drop (i + 1) ls)
chained_step each a s ls i l lt is = ap (chained each (Ok (a, s))) (front ls i l lt is)

-- ---- lists of expressions

-- these expressions, and then those
abbrev pub before : List MadeExpr → Exprs → Exprs
before [] more = more
before (e ∷ es) more = MoreExprs (expr_of e) (before es more)

abbrev pub behind : List MadeExpr → Checked (Exprs × State) → Checked (Exprs × State)
behind es (Ok r) = Ok (before es r.0, r.1)
behind es (Err fault) = Err fault

pub before_more : (es : List MadeExpr) (e : MadeExpr) (more : Exprs) → before es (MoreExprs (expr_of e) more) ≡ before (es ++ e ∷ []) more
before_more [] e more = refl
before_more (x ∷ es) e more = ap (MoreExprs (expr_of x)) (before_more es e more)

pub before_all : (es : List MadeExpr) → before es NoExprs ≡ exprs_of es
before_all [] = refl
before_all (e ∷ es) = ap (MoreExprs (expr_of e)) (before_all es)

-- ---- the program's trees: at a fault of a part, and at the value of each

pub number_fails : (each : Bool) (s : State) (E : WrittenExpr) (n : Number) (f : CheckFault) → E ≡ tree.Number n → number n ≡ Err f → expr each (written.expr_of E) s ≡ Err f
unfolding expr
number_fails each s E n f is h = ap (λ z. expr each (written.expr_of z) s) is ∙ (rw h refl)

pub number_goes : (each : Bool) (s : State) (E : WrittenExpr) (n : Number) (c : Constant) → E ≡ tree.Number n → number n ≡ Ok c → expr each (written.expr_of E) s ≡ Ok (Literal c, s)
unfolding expr
number_goes each s E n c is h = ap (λ z. expr each (written.expr_of z) s) is ∙ (rw h refl)

pub element_same : (each : Bool) (s : State) (E : WrittenExpr) (e : Element) → E ≡ tree.Element e → expr each (written.expr_of E) s ≡ expr each (trees.Access e.name (written.exprs_of e.indices.items)) s
element_same each s E e is = ap (λ z. expr each (written.expr_of z) s) is ∙ ap (λ z. expr each z s) (rows.element_is e)

pub input_same : (each : Bool) (s : State) (E : WrittenExpr) (place : ℕ) (b : Box WrittenExpr Global) (p : WrittenExpr) → E ≡ tree.Input place b → p ≡ b.value → expr each (written.expr_of E) s ≡ expr each (trees.Input place (written.expr_of p)) s
input_same each s E place b p is same = ap (λ z. expr each (written.expr_of z) s) is ∙ ap (λ z. expr each z s) (rows.input_is place b) ∙ ap (λ z. expr each (trees.Input place (written.expr_of z)) s) (sym same)

sign_fails_1_at : (each : Bool) (s : State) (sign : Sign) (place : ℕ) (t0 : trees.Expr) (f : CheckFault) → expr each t0 s ≡ Err f → expr each (trees.Signed sign place t0) s ≡ Err f
unfolding expr
sign_fails_1_at each s sign place t0 f h0 = rw (h0) refl

pub sign_fails_1 : (each : Bool) (s : State) (E : WrittenExpr) (sign : Sign) (place : ℕ) (b : Box WrittenExpr Global) (f : CheckFault) → E ≡ tree.Sign sign place b → expr each (written.expr_of b.value) s ≡ Err f → expr each (written.expr_of E) s ≡ Err f
sign_fails_1 each s E sign place b f is h0 =
    ap (λ z. expr each (written.expr_of z) s) is ∙ ap (λ z. expr each z s) (rows.sign_is sign place b) ∙ sign_fails_1_at each s sign place (written.expr_of b.value) f h0

sign_goes_at : (each : Bool) (s : State) (sign : Sign) (place : ℕ) (t0 : trees.Expr) (a0 : Expr) (s0 : State) → expr each t0 s ≡ Ok (a0, s0) → expr each (trees.Signed sign place t0) s ≡ Ok (signed sign a0, s0)
unfolding expr
sign_goes_at each s sign place t0 a0 s0 h0 = rw (h0) refl

pub sign_goes : (each : Bool) (s : State) (E : WrittenExpr) (sign : Sign) (place : ℕ) (b : Box WrittenExpr Global) (a0 : Expr) (s0 : State) → E ≡ tree.Sign sign place b → expr each (written.expr_of b.value) s ≡ Ok (a0, s0) → expr each (written.expr_of E) s ≡ Ok (signed sign a0, s0)
sign_goes each s E sign place b a0 s0 is h0 =
    ap (λ z. expr each (written.expr_of z) s) is ∙ ap (λ z. expr each z s) (rows.sign_is sign place b) ∙ sign_goes_at each s sign place (written.expr_of b.value) a0 s0 h0

cast_fails_1_at : (each : Bool) (s : State) (to : Cast) (place : ℕ) (t0 : trees.Expr) (f : CheckFault) → expr each t0 s ≡ Err f → expr each (trees.Converted to place t0) s ≡ Err f
unfolding expr
cast_fails_1_at each s to place t0 f h0 = rw (h0) refl

pub cast_fails_1 : (each : Bool) (s : State) (E : WrittenExpr) (to : Cast) (place : ℕ) (b : Box WrittenExpr Global) (f : CheckFault) → E ≡ tree.Cast to place b → expr each (written.expr_of b.value) s ≡ Err f → expr each (written.expr_of E) s ≡ Err f
cast_fails_1 each s E to place b f is h0 =
    ap (λ z. expr each (written.expr_of z) s) is ∙ ap (λ z. expr each z s) (rows.cast_is to place b) ∙ cast_fails_1_at each s to place (written.expr_of b.value) f h0

cast_goes_at : (each : Bool) (s : State) (to : Cast) (place : ℕ) (t0 : trees.Expr) (a0 : Expr) (s0 : State) → expr each t0 s ≡ Ok (a0, s0) → expr each (trees.Converted to place t0) s ≡ Ok (converted to a0, s0)
unfolding expr
cast_goes_at each s to place t0 a0 s0 h0 = rw (h0) refl

pub cast_goes : (each : Bool) (s : State) (E : WrittenExpr) (to : Cast) (place : ℕ) (b : Box WrittenExpr Global) (a0 : Expr) (s0 : State) → E ≡ tree.Cast to place b → expr each (written.expr_of b.value) s ≡ Ok (a0, s0) → expr each (written.expr_of E) s ≡ Ok (converted to a0, s0)
cast_goes each s E to place b a0 s0 is h0 =
    ap (λ z. expr each (written.expr_of z) s) is ∙ ap (λ z. expr each z s) (rows.cast_is to place b) ∙ cast_goes_at each s to place (written.expr_of b.value) a0 s0 h0

pick_fails_1_at : (each : Bool) (s : State) (pick : Pick) (place : ℕ) (t0 t1 : trees.Expr) (f : CheckFault) → expr each t0 s ≡ Err f → expr each (trees.Picked pick place t0 t1) s ≡ Err f
unfolding expr
pick_fails_1_at each s pick place t0 t1 f h0 = rw (h0) refl

pub pick_fails_1 : (each : Bool) (s : State) (E : WrittenExpr) (pick : Pick) (place : ℕ) (b c : Box WrittenExpr Global) (f : CheckFault) → E ≡ tree.Pick pick place b c → expr each (written.expr_of b.value) s ≡ Err f → expr each (written.expr_of E) s ≡ Err f
pick_fails_1 each s E pick place b c f is h0 =
    ap (λ z. expr each (written.expr_of z) s) is ∙ ap (λ z. expr each z s) (rows.pick_is pick place b c) ∙ pick_fails_1_at each s pick place (written.expr_of b.value) (written.expr_of c.value) f h0

pick_fails_2_at : (each : Bool) (s : State) (pick : Pick) (place : ℕ) (t0 t1 : trees.Expr) (a0 : Expr) (s0 : State) (f : CheckFault) → expr each t0 s ≡ Ok (a0, s0) → expr each t1 s0 ≡ Err f → expr each (trees.Picked pick place t0 t1) s ≡ Err f
unfolding expr
pick_fails_2_at each s pick place t0 t1 a0 s0 f h0 h1 = rw (h0, h1) refl

pub pick_fails_2 : (each : Bool) (s : State) (E : WrittenExpr) (pick : Pick) (place : ℕ) (b c : Box WrittenExpr Global) (a0 : Expr) (s0 : State) (f : CheckFault) → E ≡ tree.Pick pick place b c → expr each (written.expr_of b.value) s ≡ Ok (a0, s0) → expr each (written.expr_of c.value) s0 ≡ Err f → expr each (written.expr_of E) s ≡ Err f
pick_fails_2 each s E pick place b c a0 s0 f is h0 h1 =
    ap (λ z. expr each (written.expr_of z) s) is ∙ ap (λ z. expr each z s) (rows.pick_is pick place b c) ∙ pick_fails_2_at each s pick place (written.expr_of b.value) (written.expr_of c.value) a0 s0 f h0 h1

pick_goes_at : (each : Bool) (s : State) (pick : Pick) (place : ℕ) (t0 t1 : trees.Expr) (a0 : Expr) (s0 : State) (a1 : Expr) (s1 : State) → expr each t0 s ≡ Ok (a0, s0) → expr each t1 s0 ≡ Ok (a1, s1) → expr each (trees.Picked pick place t0 t1) s ≡ Ok (Picked pick a0 a1, s1)
unfolding expr
pick_goes_at each s pick place t0 t1 a0 s0 a1 s1 h0 h1 = rw (h0, h1) refl

pub pick_goes : (each : Bool) (s : State) (E : WrittenExpr) (pick : Pick) (place : ℕ) (b c : Box WrittenExpr Global) (a0 : Expr) (s0 : State) (a1 : Expr) (s1 : State) → E ≡ tree.Pick pick place b c → expr each (written.expr_of b.value) s ≡ Ok (a0, s0) → expr each (written.expr_of c.value) s0 ≡ Ok (a1, s1) → expr each (written.expr_of E) s ≡ Ok (Picked pick a0 a1, s1)
pick_goes each s E pick place b c a0 s0 a1 s1 is h0 h1 =
    ap (λ z. expr each (written.expr_of z) s) is ∙ ap (λ z. expr each z s) (rows.pick_is pick place b c) ∙ pick_goes_at each s pick place (written.expr_of b.value) (written.expr_of c.value) a0 s0 a1 s1 h0 h1

choice_fails_1_at : (each : Bool) (s : State) (place : ℕ) (t0 t1 t2 : trees.Expr) (f : CheckFault) → expr each t0 s ≡ Err f → expr each (trees.Choice place t0 t1 t2) s ≡ Err f
unfolding expr
choice_fails_1_at each s place t0 t1 t2 f h0 = rw (h0) refl

pub choice_fails_1 : (each : Bool) (s : State) (E : WrittenExpr) (place : ℕ) (b c d : Box WrittenExpr Global) (f : CheckFault) → E ≡ tree.Choice place b c d → expr each (written.expr_of b.value) s ≡ Err f → expr each (written.expr_of E) s ≡ Err f
choice_fails_1 each s E place b c d f is h0 =
    ap (λ z. expr each (written.expr_of z) s) is ∙ ap (λ z. expr each z s) (rows.choice_is place b c d) ∙ choice_fails_1_at each s place (written.expr_of b.value) (written.expr_of c.value) (written.expr_of d.value) f h0

choice_fails_2_at : (each : Bool) (s : State) (place : ℕ) (t0 t1 t2 : trees.Expr) (a0 : Expr) (s0 : State) (f : CheckFault) → expr each t0 s ≡ Ok (a0, s0) → expr false t1 s0 ≡ Err f → expr each (trees.Choice place t0 t1 t2) s ≡ Err f
unfolding expr
choice_fails_2_at each s place t0 t1 t2 a0 s0 f h0 h1 = rw (h0, h1) refl

pub choice_fails_2 : (each : Bool) (s : State) (E : WrittenExpr) (place : ℕ) (b c d : Box WrittenExpr Global) (a0 : Expr) (s0 : State) (f : CheckFault) → E ≡ tree.Choice place b c d → expr each (written.expr_of b.value) s ≡ Ok (a0, s0) → expr false (written.expr_of c.value) s0 ≡ Err f → expr each (written.expr_of E) s ≡ Err f
choice_fails_2 each s E place b c d a0 s0 f is h0 h1 =
    ap (λ z. expr each (written.expr_of z) s) is ∙ ap (λ z. expr each z s) (rows.choice_is place b c d) ∙ choice_fails_2_at each s place (written.expr_of b.value) (written.expr_of c.value) (written.expr_of d.value) a0 s0 f h0 h1

choice_fails_3_at : (each : Bool) (s : State) (place : ℕ) (t0 t1 t2 : trees.Expr) (a0 : Expr) (s0 : State) (a1 : Expr) (s1 : State) (f : CheckFault) → expr each t0 s ≡ Ok (a0, s0) → expr false t1 s0 ≡ Ok (a1, s1) → expr false t2 s1 ≡ Err f → expr each (trees.Choice place t0 t1 t2) s ≡ Err f
unfolding expr
choice_fails_3_at each s place t0 t1 t2 a0 s0 a1 s1 f h0 h1 h2 = rw (h0, h1, h2) refl

pub choice_fails_3 : (each : Bool) (s : State) (E : WrittenExpr) (place : ℕ) (b c d : Box WrittenExpr Global) (a0 : Expr) (s0 : State) (a1 : Expr) (s1 : State) (f : CheckFault) → E ≡ tree.Choice place b c d → expr each (written.expr_of b.value) s ≡ Ok (a0, s0) → expr false (written.expr_of c.value) s0 ≡ Ok (a1, s1) → expr false (written.expr_of d.value) s1 ≡ Err f → expr each (written.expr_of E) s ≡ Err f
choice_fails_3 each s E place b c d a0 s0 a1 s1 f is h0 h1 h2 =
    ap (λ z. expr each (written.expr_of z) s) is ∙ ap (λ z. expr each z s) (rows.choice_is place b c d) ∙ choice_fails_3_at each s place (written.expr_of b.value) (written.expr_of c.value) (written.expr_of d.value) a0 s0 a1 s1 f h0 h1 h2

choice_goes_at : (each : Bool) (s : State) (place : ℕ) (t0 t1 t2 : trees.Expr) (a0 : Expr) (s0 : State) (a1 : Expr) (s1 : State) (a2 : Expr) (s2 : State) → expr each t0 s ≡ Ok (a0, s0) → expr false t1 s0 ≡ Ok (a1, s1) → expr false t2 s1 ≡ Ok (a2, s2) → expr each (trees.Choice place t0 t1 t2) s ≡ Ok (choice a0 a1 a2, s2)
unfolding expr
choice_goes_at each s place t0 t1 t2 a0 s0 a1 s1 a2 s2 h0 h1 h2 = rw (h0, h1, h2) refl

pub choice_goes : (each : Bool) (s : State) (E : WrittenExpr) (place : ℕ) (b c d : Box WrittenExpr Global) (a0 : Expr) (s0 : State) (a1 : Expr) (s1 : State) (a2 : Expr) (s2 : State) → E ≡ tree.Choice place b c d → expr each (written.expr_of b.value) s ≡ Ok (a0, s0) → expr false (written.expr_of c.value) s0 ≡ Ok (a1, s1) → expr false (written.expr_of d.value) s1 ≡ Ok (a2, s2) → expr each (written.expr_of E) s ≡ Ok (choice a0 a1 a2, s2)
choice_goes each s E place b c d a0 s0 a1 s1 a2 s2 is h0 h1 h2 =
    ap (λ z. expr each (written.expr_of z) s) is ∙ ap (λ z. expr each z s) (rows.choice_is place b c d) ∙ choice_goes_at each s place (written.expr_of b.value) (written.expr_of c.value) (written.expr_of d.value) a0 s0 a1 s1 a2 s2 h0 h1 h2

pub chain_fails : (each : Bool) (s : State) (E : WrittenExpr) (first : Box WrittenExpr Global) (rest : Vec Link Global) (f : CheckFault) → E ≡ tree.Chain first rest → expr each (written.expr_of first.value) s ≡ Err f → expr each (written.expr_of E) s ≡ Err f
chain_fails each s E first rest f is h = chain_is each s E first rest is ∙ ap (λ r. chained each r rest.items) h ∙ chained_fault each f rest.items

pub chain_goes : (each : Bool) (s : State) (E : WrittenExpr) (first : Box WrittenExpr Global) (rest : Vec Link Global) (a : Expr) (s0 : State) → E ≡ tree.Chain first rest → expr each (written.expr_of first.value) s ≡ Ok (a, s0)
    → expr each (written.expr_of E) s ≡ chained each (Ok (a, s0)) rest.items
chain_goes each s E first rest a s0 is h = chain_is each s E first rest is ∙ ap (λ r. chained each r rest.items) h

-- ---- names

pub access_unknown : (each : Bool) (s : State) (name : Named) (es : trees.Exprs) (f : CheckFault) → known s.names name ≡ Err f → expr each (trees.Access name es) s ≡ Err f
unfolding expr
access_unknown each s name es f h = rw h refl

pub access_alone : (each : Bool) (s : State) (name : Named) (m : Meaning) → known s.names name ≡ Ok m → expr each (trees.Access name trees.NoExprs) s ≡ with_state s (value_named name.place m)
unfolding expr
access_alone each s name m h = rw h refl

pub access_misused : (each : Bool) (s : State) (name : Named) (e : trees.Expr) (es : trees.Exprs) (m : Meaning) (f : CheckFault) → known s.names name ≡ Ok m → array_named name.place (suc (count es)) m ≡ Err f
    → expr each (trees.Access name (trees.MoreExprs e es)) s ≡ Err f
unfolding expr
access_misused each s name e es m f h g = rw (h, g) refl
