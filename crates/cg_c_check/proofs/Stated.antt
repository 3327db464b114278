-- Typed statements and declarations, by their parts.
use Rattle.std.proofs.Common.{◌≡◌, ℕ, suc, ◌+◌, ◌-◌, ◌<◌, ◌≤◌, ◌==◌, Bool, true, false, List, [], ◌∷◌, ◌++◌, map, length, drop, drop-cons, get_or, Option, Some, None, Ok, Err, refl, sym, ap, ◌∙◌, add-one, arith, rules, Vec, Box, Global}
use Rattle.std.proofs.lemmas.Bool.Decides.{nat_tests}
use Rattle.std.proofs.Math.ListN.{drop_of_length-le}
use Rattle.cg_c_syntax.specs.declared.statement.Signedness.{Signedness}
use Rattle.cg_c_syntax.specs.declared.statement.Word.{Word as WrittenWord}
use Rattle.cg_c_syntax.specs.declared.expression.Named.{Named}
use Rattle.cg_c_syntax.specs.declared.expression.Expr.{Expr as WrittenExpr}
use Rattle.cg_c_syntax.specs.declared.expression.Element.{Element}
use Rattle.cg_c_syntax.specs.declared.statement.Stmt.{Stmt as WrittenStmt, the_lemmas}
use Rattle.cg_c_syntax.specs.declared.statement.Stmt as made
use Rattle.cg_c_syntax.proofs.StmtRows.{braces}
use Rattle.cg_c_syntax.specs.Tree as trees
use Rattle.cg_c_syntax.specs.Written as written
use Rattle.cg_c_check.specs.declared.program.Stmt.{Stmt as MadeStmt, Row_of-Stmt, end_of-Stmt, more_of-Stmt, items-the_row-Stmt}
use Rattle.cg_c_check.specs.declared.program.Stmt as typed
use Rattle.cg_c_check.specs.declared.program.Initial.{Initial as MadeInitial}
use Rattle.cg_c_check.specs.declared.fault.CheckFault.TheVariants.{BadShift}
use Rattle.cg_c_check.specs.Program.{Binary, Expr, Exprs, MoreExprs, Target, TheElement, Initial, Stmt, Words, Block, If, IfElse, Output, Assign, Stmts, NoStmts, MoreStmts}
use Rattle.cg_c_check.specs.Faults.{CheckFault, Checked}
use Rattle.cg_c_check.specs.Names.{Names, Meaning, Shape, known, writable_named}
use Rattle.cg_c_check.specs.Constants.{count}
use Rattle.cg_c_check.specs.Walk.{State, Walk, ◌>>=◌, ◌>>◌, give, onward, restored, with_state, declares_word}
use Rattle.cg_c_check.specs.Ports.{port_of}
use Rattle.cg_c_check.specs.Expressions.{expr, exprs}
use Rattle.cg_c_check.specs.Statements.{target, declarations, stmt, stmts, word_named, is_wide_change}
use Rattle.cg_c_check.proofs.Kept.{stmts_kept}
use Rattle.cg_c_check.proofs.Steps.{count_is}
use Rattle.cg_c_check.specs.Written.{expr_of, initial_of, stmt_of, stmts_of, row_stmts}

pub front : {X : Type 0} (xs : List X) (i : ℕ) (x : X) → i < length xs → x ≡ get_or xs i x → drop i xs ≡ x ∷ drop (i + 1) xs
front xs i x lt is = drop-cons xs i x lt ∙ ap (λ z. z ∷ drop (suc i) xs) (sym is) ∙ ap (λ n. x ∷ drop n xs) (sym (add-one i))

-- ---- walks through lists of which nothing but the state is kept

-- a walk of all items is that of the first, and then that of the others
abbrev pub Follows : {T : Type 0} → (T → Walk (Unit {0})) → (List T → Walk (Unit {0})) → Type 0
Follows {T} one all = (t : T) (ts : List T) (s : State) → all (t ∷ ts) s ≡ (one t >> all ts) s

pub all_stop : {T X : Type 0} (of : X → T) (one : T → Walk (Unit {0})) (all : List T → Walk (Unit {0})) → Follows one all → (xs : List X) (i : ℕ) (x : X) (s : State) (f : CheckFault) → i < length xs → x ≡ get_or xs i x
    → one (of x) s ≡ Err f → all (map of (drop i xs)) s ≡ Err f
all_stop of one all follows xs i x s f lt is e =
    ap (λ z. all (map of z) s) (front xs i x lt is) ∙ follows (of x) (map of (drop (i + 1) xs)) s ∙ ap (onward (λ _. all (map of (drop (i + 1) xs)))) e

pub all_go : {T X : Type 0} (of : X → T) (one : T → Walk (Unit {0})) (all : List T → Walk (Unit {0})) → Follows one all → (xs : List X) (i : ℕ) (x : X) (s s0 : State) → i < length xs → x ≡ get_or xs i x
    → one (of x) s ≡ Ok (tt, s0) → all (map of (drop i xs)) s ≡ all (map of (drop (i + 1) xs)) s0
all_go of one all follows xs i x s s0 lt is e =
    ap (λ z. all (map of z) s) (front xs i x lt is) ∙ follows (of x) (map of (drop (i + 1) xs)) s ∙ ap (onward (λ _. all (map of (drop (i + 1) xs)))) e

pub all_end : {T X : Type 0} (of : X → T) (all : List T → Walk (Unit {0})) → ((s : State) → all [] s ≡ Ok (tt, s)) → (xs : List X) (i : ℕ) (s : State) → length xs ≤ i → all (map of (drop i xs)) s ≡ Ok (tt, s)
all_end of all none xs i s le = ap (λ z. all (map of z) s) (drop_of_length-le xs le) ∙ none s

-- ---- declarations of words

-- these declarations, and then those
abbrev pub in_front : List MadeInitial → List Initial → List Initial
in_front [] more = more
in_front (i ∷ is) more = initial_of i ∷ in_front is more

abbrev pub ahead : List MadeInitial → Checked (List Initial × State) → Checked (List Initial × State)
ahead is (Ok r) = Ok (in_front is r.0, r.1)
ahead is (Err fault) = Err fault

in_front_more : (is : List MadeInitial) (i : MadeInitial) (more : List Initial) → in_front is (initial_of i ∷ more) ≡ in_front (is ++ i ∷ []) more
in_front_more [] i more = refl
in_front_more (x ∷ is) i more = ap (λ z. initial_of x ∷ z) (in_front_more is i more)

in_front_all : (is : List MadeInitial) → in_front is [] ≡ map initial_of is
in_front_all [] = refl
in_front_all (i ∷ is) = ap (λ z. initial_of i ∷ z) (in_front_all is)

pub ahead_none : (r : Checked (List Initial × State)) → r ≡ ahead [] r
ahead_none (Ok r) = refl
ahead_none (Err fault) = refl

ahead_more : (is : List MadeInitial) (i : MadeInitial) (r : Checked (List Initial × State)) → ahead is (onward (λ further. give (initial_of i ∷ further)) r) ≡ ahead (is ++ i ∷ []) r
ahead_more is i (Ok r) = ap (λ z. Ok (z, r.1)) (in_front_more is i r.0)
ahead_more is i (Err fault) = refl

pub words_stop_1 : (each : Bool) (signedness : Signedness) (xs : List WrittenWord) (i : ℕ) (x : WrittenWord) (s : State) (f : CheckFault) → i < length xs → x ≡ get_or xs i x → expr each (written.expr_of x.value) s ≡ Err f
    → declarations each signedness (map written.word_of (drop i xs)) s ≡ Err f
unfolding declarations
words_stop_1 each signedness xs i x s f lt is h = ap (λ z. declarations each signedness (map written.word_of z) s) (front xs i x lt is) ∙ (rw h refl)

pub words_stop_2 : (each : Bool) (signedness : Signedness) (xs : List WrittenWord) (i : ℕ) (x : WrittenWord) (s : State) (a : Expr) (s0 : State) (f : CheckFault) → i < length xs → x ≡ get_or xs i x → expr each (written.expr_of x.value) s ≡ Ok (a, s0)
    → declares_word x.name signedness s0 ≡ Err f → declarations each signedness (map written.word_of (drop i xs)) s ≡ Err f
unfolding declarations
words_stop_2 each signedness xs i x s a s0 f lt is h g =
    ap (λ z. declarations each signedness (map written.word_of z) s) (front xs i x lt is)
    ∙ ap (onward (λ value. declares_word x.name signedness >>= λ number. declarations each signedness (map written.word_of (drop (i + 1) xs)) >>= λ further. give (record { number = number; value = value } ∷ further))) h
    ∙ ap (onward (λ number. declarations each signedness (map written.word_of (drop (i + 1) xs)) >>= λ further. give (record { number = number; value = a } ∷ further))) g

pub words_go : (each : Bool) (signedness : Signedness) (so_far : List MadeInitial) (xs : List WrittenWord) (i : ℕ) (x : WrittenWord) (s : State) (m : MadeInitial) (s0 s1 : State) → i < length xs → x ≡ get_or xs i x
    → expr each (written.expr_of x.value) s ≡ Ok (expr_of m.value, s0) → declares_word x.name signedness s0 ≡ Ok (m.number, s1)
    → ahead so_far (declarations each signedness (map written.word_of (drop i xs)) s) ≡ ahead (so_far ++ m ∷ []) (declarations each signedness (map written.word_of (drop (i + 1) xs)) s1)
unfolding declarations
words_go each signedness so_far xs i x s m s0 s1 lt is h g =
    ap (λ z. ahead so_far (declarations each signedness (map written.word_of z) s)) (front xs i x lt is)
    ∙ ap (λ r. ahead so_far (onward (λ value. declares_word x.name signedness >>= λ number. declarations each signedness (map written.word_of (drop (i + 1) xs)) >>= λ further. give (record { number = number; value = value } ∷ further)) r)) h
    ∙ ap (λ r. ahead so_far (onward (λ number. declarations each signedness (map written.word_of (drop (i + 1) xs)) >>= λ further. give (record { number = number; value = expr_of m.value } ∷ further)) r)) g
    ∙ ahead_more so_far m (declarations each signedness (map written.word_of (drop (i + 1) xs)) s1)

pub words_end : (each : Bool) (signedness : Signedness) (so_far : List MadeInitial) (xs : List WrittenWord) (i : ℕ) (s : State) → length xs ≤ i → ahead so_far (declarations each signedness (map written.word_of (drop i xs)) s) ≡ Ok (map initial_of so_far, s)
unfolding declarations
words_end each signedness so_far xs i s le = ap (λ z. ahead so_far (declarations each signedness (map written.word_of z) s)) (drop_of_length-le xs le) ∙ ap (λ z. Ok (z, s)) (in_front_all so_far)

-- ---- targets

pub target_unknown : (each : Bool) (s : State) (t : trees.Target) (f : CheckFault) → known s.names t.name ≡ Err f → target each t s ≡ Err f
unfolding target
target_unknown each s t f h = rw h refl

-- a name with these indices
abbrev pub left : Named → List WrittenExpr → trees.Target
left name es = record { name = name; indices = written.exprs_of es }

-- the indices of an element, of which there is at least one
indexed_1 : (of : Exprs → Target) (a : Expr) (r : Checked (Exprs × State)) → onward (λ further. give (of (MoreExprs a further))) r ≡ onward (λ xs. give (of xs)) (onward (λ further. give (MoreExprs a further)) r)
indexed_1 of a (Ok r) = refl
indexed_1 of a (Err fault) = refl

indexed_2 : (of : Exprs → Target) (each : Bool) (es : trees.Exprs) (r : Checked (Expr × State))
    → onward (λ a. exprs each es >>= λ further. give (of (MoreExprs a further))) r ≡ onward (λ xs. give (of xs)) (onward (λ a. exprs each es >>= λ further. give (MoreExprs a further)) r)
indexed_2 of each es (Ok r) = indexed_1 of r.0 (exprs each es r.1)
indexed_2 of each es (Err fault) = refl

indexed : (of : Exprs → Target) (each : Bool) (e : trees.Expr) (es : trees.Exprs) (s : State) → (expr each e >>= λ a. exprs each es >>= λ further. give (of (MoreExprs a further))) s ≡ (exprs each (trees.MoreExprs e es) >>= λ xs. give (of xs)) s
unfolding exprs
indexed of each e es s = indexed_2 of each es (expr each e s)

pub target_alone : (each : Bool) (s : State) (name : Named) (es : List WrittenExpr) (m : Meaning) → known s.names name ≡ Ok m → true ≡ (length es == 0) → target each (left name es) s ≡ with_state s (word_named name.place m)
unfolding target
target_alone each s name [] m h none = rw h refl
target_alone each s name (e ∷ es) m h none = absurd (grind (arith, nat_tests))

pub target_misused : (each : Bool) (s : State) (name : Named) (es : List WrittenExpr) (m : Meaning) (f : CheckFault) → known s.names name ≡ Ok m → false ≡ (length es == 0) → writable_named name.place (length es) m ≡ Err f
    → target each (left name es) s ≡ Err f
unfolding target
target_misused each s name [] m f h some g = cc
target_misused each s name (e ∷ es) m f h some g = rw (h, count_is es, g) refl

pub target_fails : (each : Bool) (s : State) (name : Named) (es : List WrittenExpr) (m : Meaning) (shape : Shape) (f : CheckFault) → known s.names name ≡ Ok m → false ≡ (length es == 0) → writable_named name.place (length es) m ≡ Ok shape
    → exprs each (written.exprs_of es) s ≡ Err f → target each (left name es) s ≡ Err f
unfolding target
target_fails each s name [] m shape f h some g d = cc
target_fails each s name (e ∷ es) m shape f h some g d =
    rw (h, count_is es, g) (indexed (TheElement shape.number name.place shape.signedness) each (written.expr_of e) (written.exprs_of es) s ∙ ap (onward (λ xs. give (TheElement shape.number name.place shape.signedness xs))) d)

pub target_goes : (each : Bool) (s : State) (name : Named) (es : List WrittenExpr) (m : Meaning) (shape : Shape) (xs : Exprs) (s0 : State) → known s.names name ≡ Ok m → false ≡ (length es == 0) → writable_named name.place (length es) m ≡ Ok shape
    → exprs each (written.exprs_of es) s ≡ Ok (xs, s0) → target each (left name es) s ≡ Ok (TheElement shape.number name.place shape.signedness xs, s0)
unfolding target
target_goes each s name [] m shape xs s0 h some g d = cc
target_goes each s name (e ∷ es) m shape xs s0 h some g d =
    rw (h, count_is es, g) (indexed (TheElement shape.number name.place shape.signedness) each (written.expr_of e) (written.exprs_of es) s ∙ ap (onward (λ xs. give (TheElement shape.number name.place shape.signedness xs))) d)

-- ---- statements

row_stmts_is : {m : _} (row : Row_of-Stmt m) → row_stmts row ≡ stmts_of (items-the_row-Stmt m row)
row_stmts_is end_of-Stmt = refl
row_stmts_is (more_of-Stmt s rest) = ap (MoreStmts (stmt_of s)) (row_stmts_is rest)

typed_block : (v : Vec MadeStmt Global) → stmt_of (typed.Block v) ≡ Block (stmts_of v.items)
typed_block v = search (rules, row_stmts_is, typed.the_lemmas)

pub output_fails_1 : (each : Bool) (s : State) (p e : trees.Expr) (f : CheckFault) → port_of s.outputs s.names p ≡ Err f → stmt each (trees.Output p e) s ≡ Err f
unfolding stmt
output_fails_1 each s p e f h = rw h refl

pub output_fails_2 : (each : Bool) (s : State) (p e : trees.Expr) (port : ℕ) (o : List ℕ) (f : CheckFault) → port_of s.outputs s.names p ≡ Ok port → o ≡ s.outputs ++ port ∷ [] → expr each e (record s { outputs = o }) ≡ Err f → stmt each (trees.Output p e) s ≡ Err f
unfolding stmt
output_fails_2 each s p e port o f h is g = rw (h, ← is, g) refl

pub output_goes : (each : Bool) (s : State) (p e : trees.Expr) (port : ℕ) (o : List ℕ) (a : Expr) (s0 : State) → port_of s.outputs s.names p ≡ Ok port → o ≡ s.outputs ++ port ∷ [] → expr each e (record s { outputs = o }) ≡ Ok (a, s0) → stmt each (trees.Output p e) s ≡ Ok (Output port a, s0)
unfolding stmt
output_goes each s p e port o a s0 h is g = rw (h, ← is, g) refl

pub assign_fails_1 : (each : Bool) (s : State) (t : trees.Target) (op : Option Binary) (e : trees.Expr) (f : CheckFault) → target each t s ≡ Err f → stmt each (trees.Assign t op e) s ≡ Err f
unfolding stmt
assign_fails_1 each s t op e f h = rw h refl

pub assign_fails_2 : (each : Bool) (s : State) (t : trees.Target) (op : Option Binary) (e : trees.Expr) (x : Target) (s0 : State) (f : CheckFault) → target each t s ≡ Ok (x, s0) → expr each e s0 ≡ Err f → stmt each (trees.Assign t op e) s ≡ Err f
unfolding stmt
assign_fails_2 each s t op e x s0 f h g = rw (h, g) refl

pub assign_fails_3 : (each : Bool) (s : State) (t : trees.Target) (op : Option Binary) (e : trees.Expr) (x : Target) (s0 : State) (a : Expr) (s1 : State) → target each t s ≡ Ok (x, s0) → expr each e s0 ≡ Ok (a, s1) → is_wide_change op a ≡ true
    → stmt each (trees.Assign t op e) s ≡ Err (BadShift t.name.place)
unfolding stmt
assign_fails_3 each s t op e x s0 a s1 h g wide = rw (h, g, wide) refl

pub assign_goes : (each : Bool) (s : State) (t : trees.Target) (op : Option Binary) (e : trees.Expr) (x : Target) (s0 : State) (a : Expr) (s1 : State) → target each t s ≡ Ok (x, s0) → expr each e s0 ≡ Ok (a, s1) → is_wide_change op a ≡ false
    → stmt each (trees.Assign t op e) s ≡ Ok (Assign x op a, s1)
unfolding stmt
assign_goes each s t op e x s0 a s1 h g narrow = rw (h, g, narrow) refl

pub words_fails : (each : Bool) (s : State) (signedness : Signedness) (ws : List trees.Word) (f : CheckFault) → declarations each signedness ws s ≡ Err f → stmt each (trees.Words signedness ws) s ≡ Err f
unfolding stmt
words_fails each s signedness ws f h = rw h refl

pub words_goes : (each : Bool) (s : State) (signedness : Signedness) (ws : List trees.Word) (is : List Initial) (s0 : State) → declarations each signedness ws s ≡ Ok (is, s0) → stmt each (trees.Words signedness ws) s ≡ Ok (Words is, s0)
unfolding stmt
words_goes each s signedness ws is s0 h = rw h refl

pub block_fails : (each : Bool) (s : State) (ts : trees.Stmts) (f : CheckFault) → stmts each ts s ≡ Err f → stmt each (trees.Block ts) s ≡ Err f
unfolding stmt
block_fails each s ts f h = rw h refl

pub block_goes : (each : Bool) (s : State) (ts : trees.Stmts) (v : Vec MadeStmt Global) (s0 : State) (n : ℕ) (names : Names) → stmts each ts s ≡ Ok (stmts_of v.items, s0) → n ≡ length s.names → names ≡ drop (length s0.names - n) s0.names
    → stmt each (trees.Block ts) s ≡ Ok (stmt_of (typed.Block v), record s0 { names = names })
unfolding stmt
block_goes each s ts v s0 n names h count is =
    let kept : s.names ≡ names = stmts_kept each ts s (stmts_of v.items) s0 h ∙ ap (λ n. drop (length s0.names - n) s0.names) (sym count) ∙ sym is in
    ap (λ r. onward (λ inner. give (Block inner)) (restored s.names r)) h ∙ ap (λ (z : Names). Ok (Block (stmts_of v.items), record s0 { names = z })) kept ∙ ap (λ z. Ok (z, record s0 { names = names })) (sym (typed_block v))

pub if_fails_1 : (each : Bool) (s : State) (e : trees.Expr) (t : trees.Stmt) (f : CheckFault) → expr each e s ≡ Err f → stmt each (trees.If e t) s ≡ Err f
unfolding stmt
if_fails_1 each s e t f h = rw h refl

pub if_fails_2 : (each : Bool) (s : State) (e : trees.Expr) (t : trees.Stmt) (a : Expr) (s0 : State) (f : CheckFault) → expr each e s ≡ Ok (a, s0) → stmt false t s0 ≡ Err f → stmt each (trees.If e t) s ≡ Err f
unfolding stmt
if_fails_2 each s e t a s0 f h g = rw (h, g) refl

pub if_goes : (each : Bool) (s : State) (e : trees.Expr) (t : trees.Stmt) (a : Expr) (s0 : State) (x : Stmt) (s1 : State) → expr each e s ≡ Ok (a, s0) → stmt false t s0 ≡ Ok (x, s1) → stmt each (trees.If e t) s ≡ Ok (If a x, s1)
unfolding stmt
if_goes each s e t a s0 x s1 h g = rw (h, g) refl

pub else_fails_1 : (each : Bool) (s : State) (e : trees.Expr) (t u : trees.Stmt) (f : CheckFault) → expr each e s ≡ Err f → stmt each (trees.IfElse e t u) s ≡ Err f
unfolding stmt
else_fails_1 each s e t u f h = rw h refl

pub else_fails_2 : (each : Bool) (s : State) (e : trees.Expr) (t u : trees.Stmt) (a : Expr) (s0 : State) (f : CheckFault) → expr each e s ≡ Ok (a, s0) → stmt false t s0 ≡ Err f → stmt each (trees.IfElse e t u) s ≡ Err f
unfolding stmt
else_fails_2 each s e t u a s0 f h g = rw (h, g) refl

pub else_fails_3 : (each : Bool) (s : State) (e : trees.Expr) (t u : trees.Stmt) (a : Expr) (s0 : State) (x : Stmt) (s1 : State) (f : CheckFault) → expr each e s ≡ Ok (a, s0) → stmt false t s0 ≡ Ok (x, s1) → stmt false u s1 ≡ Err f
    → stmt each (trees.IfElse e t u) s ≡ Err f
unfolding stmt
else_fails_3 each s e t u a s0 x s1 f h g d = rw (h, g, d) refl

pub else_goes : (each : Bool) (s : State) (e : trees.Expr) (t u : trees.Stmt) (a : Expr) (s0 : State) (x : Stmt) (s1 : State) (y : Stmt) (s2 : State) → expr each e s ≡ Ok (a, s0) → stmt false t s0 ≡ Ok (x, s1) → stmt false u s1 ≡ Ok (y, s2)
    → stmt each (trees.IfElse e t u) s ≡ Ok (IfElse a x y, s2)
unfolding stmt
else_goes each s e t u a s0 x s1 y s2 h g d = rw (h, g, d) refl

-- ---- the program's statements

pub words_is : (T : WrittenStmt) (signedness : Signedness) (v : Vec WrittenWord Global) (xs : List WrittenWord) → T ≡ made.Words signedness v → xs ≡ v.items → written.stmt_of T ≡ trees.Words signedness (map written.word_of xs)
words_is T signedness v xs is same = ap written.stmt_of is ∙ ap (λ z. trees.Words signedness (map written.word_of z)) (sym same)

pub block_is : (T : WrittenStmt) (v : Vec WrittenStmt Global) (xs : List WrittenStmt) → T ≡ made.Block v → xs ≡ v.items → written.stmt_of T ≡ trees.Block (written.stmts_of xs)
block_is T v xs is same = ap written.stmt_of is ∙ braces v ∙ ap (λ z. trees.Block (written.stmts_of z)) (sym same)

if_tree : (e : WrittenExpr) (b : Box WrittenStmt Global) → written.stmt_of (made.If e b None) ≡ trees.If (written.expr_of e) (written.stmt_of b.value)
if_tree e b = search (rules, the_lemmas)

pub if_is : (T : WrittenStmt) (e : WrittenExpr) (b : Box WrittenStmt Global) (o : Option (Box WrittenStmt Global)) (p : WrittenStmt) → T ≡ made.If e b o → o ≡ None → p ≡ b.value → written.stmt_of T ≡ trees.If (written.expr_of e) (written.stmt_of p)
if_is T e b o p is none same = ap written.stmt_of (is ∙ ap (λ z. made.If e b z) none) ∙ if_tree e b ∙ ap (λ z. trees.If (written.expr_of e) (written.stmt_of z)) (sym same)

else_tree : (e : WrittenExpr) (b d : Box WrittenStmt Global) → written.stmt_of (made.If e b (Some d)) ≡ trees.IfElse (written.expr_of e) (written.stmt_of b.value) (written.stmt_of d.value)
else_tree e b d = search (rules, the_lemmas)

pub else_is : (T : WrittenStmt) (e : WrittenExpr) (b d : Box WrittenStmt Global) (o : Option (Box WrittenStmt Global)) (p q : WrittenStmt) → T ≡ made.If e b o → o ≡ Some d → p ≡ b.value → q ≡ d.value
    → written.stmt_of T ≡ trees.IfElse (written.expr_of e) (written.stmt_of p) (written.stmt_of q)
else_is T e b d o p q is some first second =
    ap written.stmt_of (is ∙ ap (λ z. made.If e b z) some) ∙ else_tree e b d ∙ ap (λ z. trees.IfElse (written.expr_of e) (written.stmt_of z) (written.stmt_of d.value)) (sym first)
    ∙ ap (λ z. trees.IfElse (written.expr_of e) (written.stmt_of p) (written.stmt_of z)) (sym second)

-- an `if`, whose `else` need not be known yet
pub if_stops_1 : (each : Bool) (s : State) (T : WrittenStmt) (e : WrittenExpr) (b : Box WrittenStmt Global) (o : Option (Box WrittenStmt Global)) (f : CheckFault) → T ≡ made.If e b o → expr each (written.expr_of e) s ≡ Err f → stmt each (written.stmt_of T) s ≡ Err f
if_stops_1 each s T e b None f is h = ap (λ z. stmt each z s) (if_is T e b None b.value is refl refl) ∙ if_fails_1 each s (written.expr_of e) (written.stmt_of b.value) f h
if_stops_1 each s T e b (Some d) f is h = ap (λ z. stmt each z s) (else_is T e b d (Some d) b.value d.value is refl refl refl) ∙ else_fails_1 each s (written.expr_of e) (written.stmt_of b.value) (written.stmt_of d.value) f h

pub if_stops_2 : (each : Bool) (s : State) (T : WrittenStmt) (e : WrittenExpr) (b : Box WrittenStmt Global) (o : Option (Box WrittenStmt Global)) (p : WrittenStmt) (a : Expr) (s0 : State) (f : CheckFault) → T ≡ made.If e b o → p ≡ b.value
    → expr each (written.expr_of e) s ≡ Ok (a, s0) → stmt false (written.stmt_of p) s0 ≡ Err f → stmt each (written.stmt_of T) s ≡ Err f
if_stops_2 each s T e b None p a s0 f is same h g = ap (λ z. stmt each z s) (if_is T e b None p is refl same) ∙ if_fails_2 each s (written.expr_of e) (written.stmt_of p) a s0 f h g
if_stops_2 each s T e b (Some d) p a s0 f is same h g =
    ap (λ z. stmt each z s) (else_is T e b d (Some d) p d.value is refl same refl) ∙ else_fails_2 each s (written.expr_of e) (written.stmt_of p) (written.stmt_of d.value) a s0 f h g

pub output_is : (T : WrittenStmt) (port value : WrittenExpr) → T ≡ made.Output port value → written.stmt_of T ≡ trees.Output (written.expr_of port) (written.expr_of value)
output_is T port value is = ap written.stmt_of is

pub assign_is : (T : WrittenStmt) (left : Element) (op : Option Binary) (value : WrittenExpr) → T ≡ made.Assign left op value → written.stmt_of T ≡ trees.Assign (written.target_of left) op (written.expr_of value)
assign_is T left op value is = ap written.stmt_of is

-- ---- lists of statements

-- these statements, and then those
abbrev pub stmts_in_front : List MadeStmt → Stmts → Stmts
stmts_in_front [] more = more
stmts_in_front (x ∷ xs) more = MoreStmts (stmt_of x) (stmts_in_front xs more)

abbrev pub stmts_ahead : List MadeStmt → Checked (Stmts × State) → Checked (Stmts × State)
stmts_ahead xs (Ok r) = Ok (stmts_in_front xs r.0, r.1)
stmts_ahead xs (Err fault) = Err fault

stmts_in_front_more : (xs : List MadeStmt) (x : MadeStmt) (more : Stmts) → stmts_in_front xs (MoreStmts (stmt_of x) more) ≡ stmts_in_front (xs ++ x ∷ []) more
stmts_in_front_more [] x more = refl
stmts_in_front_more (y ∷ xs) x more = ap (MoreStmts (stmt_of y)) (stmts_in_front_more xs x more)

stmts_in_front_all : (xs : List MadeStmt) → stmts_in_front xs NoStmts ≡ stmts_of xs
stmts_in_front_all [] = refl
stmts_in_front_all (x ∷ xs) = ap (MoreStmts (stmt_of x)) (stmts_in_front_all xs)

pub stmts_ahead_none : (r : Checked (Stmts × State)) → r ≡ stmts_ahead [] r
stmts_ahead_none (Ok r) = refl
stmts_ahead_none (Err fault) = refl

stmts_ahead_more : (xs : List MadeStmt) (x : MadeStmt) (r : Checked (Stmts × State)) → stmts_ahead xs (onward (λ more. give (MoreStmts (stmt_of x) more)) r) ≡ stmts_ahead (xs ++ x ∷ []) r
stmts_ahead_more xs x (Ok r) = ap (λ z. Ok (z, r.1)) (stmts_in_front_more xs x r.0)
stmts_ahead_more xs x (Err fault) = refl

pub stmts_stop : (each : Bool) (ts : List WrittenStmt) (i : ℕ) (t : WrittenStmt) (s : State) (f : CheckFault) → i < length ts → t ≡ get_or ts i t → stmt each (written.stmt_of t) s ≡ Err f → stmts each (written.stmts_of (drop i ts)) s ≡ Err f
unfolding stmts
stmts_stop each ts i t s f lt is h =
    ap (λ z. stmts each (written.stmts_of z) s) (front ts i t lt is) ∙ ap (onward (λ a. stmts each (written.stmts_of (drop (i + 1) ts)) >>= λ more. give (MoreStmts a more))) h

pub stmts_go : (each : Bool) (so_far : List MadeStmt) (ts : List WrittenStmt) (i : ℕ) (t : WrittenStmt) (s : State) (x : MadeStmt) (s0 : State) → i < length ts → t ≡ get_or ts i t → stmt each (written.stmt_of t) s ≡ Ok (stmt_of x, s0)
    → stmts_ahead so_far (stmts each (written.stmts_of (drop i ts)) s) ≡ stmts_ahead (so_far ++ x ∷ []) (stmts each (written.stmts_of (drop (i + 1) ts)) s0)
unfolding stmts
stmts_go each so_far ts i t s x s0 lt is h =
    ap (λ z. stmts_ahead so_far (stmts each (written.stmts_of z) s)) (front ts i t lt is)
    ∙ ap (λ r. stmts_ahead so_far (onward (λ a. stmts each (written.stmts_of (drop (i + 1) ts)) >>= λ more. give (MoreStmts a more)) r)) h
    ∙ stmts_ahead_more so_far x (stmts each (written.stmts_of (drop (i + 1) ts)) s0)

pub stmts_end : (each : Bool) (so_far : List MadeStmt) (ts : List WrittenStmt) (i : ℕ) (s : State) → length ts ≤ i → stmts_ahead so_far (stmts each (written.stmts_of (drop i ts)) s) ≡ Ok (stmts_of so_far, s)
unfolding stmts
stmts_end each so_far ts i s le = ap (λ z. stmts_ahead so_far (stmts each (written.stmts_of z) s)) (drop_of_length-le ts le) ∙ ap (λ z. Ok (z, s)) (stmts_in_front_all so_far)
