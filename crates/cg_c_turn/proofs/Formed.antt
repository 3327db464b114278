-- The statements that values of the program denote, by their parts.
use Rattle.std.proofs.Common.{◌≡◌, ◌++◌, true, List, [], ◌∷◌, Option, Some, None, refl, sym, ap, Vec, ◌∙◌, rules, subst, Box, Global, map, ℕ, length, slice_index_or, nat_lt, arith}
use Rattle.std.proofs.lemmas.Bool.{lt-ltb}
use Rattle.cg_c_syntax.specs.declared.expression.Binary.{Binary}
use Rattle.cg_c_check.specs.declared.program.Array.{Array}
use Rattle.cg_c_check.specs.declared.program.Expr.{Expr as MadeExpr}
use Rattle.cg_c_check.specs.declared.program.Initial.{Initial as MadeInitial}
use Rattle.cg_c_check.specs.declared.program.Target.{Target as MadeTarget}
use Rattle.cg_c_check.specs.declared.program.Stmt.{Stmt as MadeStmt, Row_of-Stmt, end_of-Stmt, more_of-Stmt, items-the_row-Stmt, the_lemmas}
use Rattle.cg_c_check.specs.declared.program.Stmt as made
use Rattle.cg_c_check.specs.Program.{Expr, Initial, Stmt, Stmts, MoreStmts, Words, Block, If, IfElse, Output, Assign, Target}
use Rattle.cg_c_check.specs.Written.{expr_of, initial_of, stmt_of, stmts_of, row_stmts, target_of}
use Rattle.cg_c_meaning.specs.Meaning.{declared, stmt, stmts}
use Rattle.cg_c_meaning.specs.Typed.{AreApart, IsTypedExpr, IsTypedStmt, AreTypedStmts, AreTypedInitials, inputs, initial_inputs, stmt_inputs, stmt_outputs, stmts_inputs, stmts_outputs}
use Rattle.cg_c_meaning.proofs.Taking.{none_stmt}
use Rattle.cg_c_values.specs.declared.value.Value.{Value}
use Rattle.cg_c_values.specs.declared.value.Value.TheVariants.{Const}
use Rattle.cg_c_values.specs.Values.{IsBelow}
use Rattle.cg_c_turn.specs.Draft.{Draft, Effect, assigned_in}
use Rattle.cg_c_turn.specs.Stands.{ACondition, IsFormed, Translates}
use Rattle.cg_c_turn.specs.Conditions.{EntersArm, with_point}
use Rattle.cg_c_turn.specs.Branched.{Begins, Switches}
use Rattle.cg_c_turn.specs.Translated.{IsTranslated, IsBranched}
use Rattle.cg_c_turn.proofs.Growing.{below_on}
use Rattle.cg_c_turn.proofs.Doing.{apart_first}
use Rattle.cg_c_turn.proofs.Arms.{formed_elsewhere}
use Rattle.cg_c_turn.proofs.Branching.{if_stmt, if_is, HasNoInputs}
use Rattle.cg_c_turn.proofs.Everywhere.{stmt_everywhere}

stmts_is : {m : _} (row : Row_of-Stmt m) → row_stmts row ≡ stmts_of (items-the_row-Stmt m row)
stmts_is end_of-Stmt = refl
stmts_is (more_of-Stmt s rest) = ap (λ z. MoreStmts (stmt_of s) z) (stmts_is rest)

block_at : (stmts : Vec MadeStmt Global) → stmt_of (made.Block stmts) ≡ Block (stmts_of stmts.items)
block_at stmts = search (rules, stmts_is, the_lemmas)

if_at : (c : MadeExpr) (chosen : Box MadeStmt Global) → stmt_of (made.If c chosen None) ≡ If (expr_of c) (stmt_of chosen.value)
if_at c chosen = search (rules, the_lemmas)

if_else_at : (c : MadeExpr) (chosen other : Box MadeStmt Global) → stmt_of (made.If c chosen (Some other)) ≡ IfElse (expr_of c) (stmt_of chosen.value) (stmt_of other.value)
if_else_at c chosen other = search (rules, the_lemmas)

-- ---- shapes

pub words_shape : (S : MadeStmt) (xs : List MadeInitial) (is : Vec MadeInitial Global) → S ≡ made.Words is → xs ≡ is.items → stmt_of S ≡ Words (map initial_of xs)
words_shape S xs is h e = ap stmt_of h ∙ ap (λ (z : List MadeInitial). Words (map initial_of z)) (sym e)

pub block_shape : (S : MadeStmt) (ss : List MadeStmt) (stmts : Vec MadeStmt Global) → S ≡ made.Block stmts → ss ≡ stmts.items → stmt_of S ≡ Block (stmts_of ss)
block_shape S ss stmts h e = ap stmt_of h ∙ block_at stmts ∙ ap (λ (z : List MadeStmt). Block (stmts_of z)) (sym e)

pub output_shape : (S : MadeStmt) (port : ℕ) (e : MadeExpr) → S ≡ made.Output port e → stmt_of S ≡ Output port (expr_of e)
output_shape S port e h = ap stmt_of h

pub assign_shape : (S : MadeStmt) (target : MadeTarget) (op : Option Binary) (e : MadeExpr) → S ≡ made.Assign target op e → stmt_of S ≡ Assign (target_of target) op (expr_of e)
assign_shape S target op e h = ap stmt_of h

-- the other branch, if there is one
abbrev pub held : Option (Box MadeStmt Global) → Option Stmt
held None = None
held (Some s) = Some (stmt_of s.value)

if_shape_at : (c : MadeExpr) (chosen : Box MadeStmt Global) (o : Option (Box MadeStmt Global)) → stmt_of (made.If c chosen o) ≡ if_stmt (expr_of c) (stmt_of chosen.value) (held o)
if_shape_at c chosen None = if_at c chosen
if_shape_at c chosen (Some other) = if_else_at c chosen other

pub lone_shape : (S : MadeStmt) (c : MadeExpr) (chosen : Box MadeStmt Global) (o : Option (Box MadeStmt Global)) → S ≡ made.If c chosen o → o ≡ None → stmt_of S ≡ if_stmt (expr_of c) (stmt_of chosen.value) None
lone_shape S c chosen o h e = ap stmt_of h ∙ if_shape_at c chosen o ∙ ap (λ (z : Option (Box MadeStmt Global)). if_stmt (expr_of c) (stmt_of chosen.value) (held z)) e

pub else_shape : (S : MadeStmt) (c : MadeExpr) (chosen other : Box MadeStmt Global) (o : Option (Box MadeStmt Global)) → S ≡ made.If c chosen o → o ≡ Some other → stmt_of S ≡ if_stmt (expr_of c) (stmt_of chosen.value) (Some (stmt_of other.value))
else_shape S c chosen other o h e = ap stmt_of h ∙ if_shape_at c chosen o ∙ ap (λ (z : Option (Box MadeStmt Global)). if_stmt (expr_of c) (stmt_of chosen.value) (held z)) e

pub if_shape : (S : MadeStmt) (c : MadeExpr) (chosen : Box MadeStmt Global) (o : Option (Box MadeStmt Global)) → S ≡ made.If c chosen o → stmt_of S ≡ if_stmt (expr_of c) (stmt_of chosen.value) (held o)
if_shape S c chosen o h = ap stmt_of h ∙ if_shape_at c chosen o

-- ---- what is known of the parts

pub words_typed : (arrays : List Array) (whole : Stmt) (is : List Initial) → whole ≡ Words is → IsTypedStmt arrays true whole → AreTypedInitials arrays true is
unfolding IsTypedStmt
words_typed arrays whole is h t = subst (IsTypedStmt arrays true) h t

pub words_apart : (whole : Stmt) (is : List Initial) → whole ≡ Words is → AreApart (stmt_inputs whole) → AreApart (initial_inputs is)
unfolding stmt_inputs
words_apart whole is h t = subst (λ (z : Stmt). AreApart (stmt_inputs z)) h t

pub block_typed : (arrays : List Array) (whole : Stmt) (ss : Stmts) → whole ≡ Block ss → IsTypedStmt arrays true whole → AreTypedStmts arrays true ss
unfolding IsTypedStmt
block_typed arrays whole ss h t = subst (IsTypedStmt arrays true) h t

pub block_apart : (whole : Stmt) (ss : Stmts) → whole ≡ Block ss → AreApart (stmt_inputs whole) → AreApart (stmts_inputs ss)
unfolding stmt_inputs
block_apart whole ss h t = subst (λ (z : Stmt). AreApart (stmt_inputs z)) h t

pub output_typed : (arrays : List Array) (whole : Stmt) (port : ℕ) (e : Expr) → whole ≡ Output port e → IsTypedStmt arrays true whole → IsTypedExpr arrays true e
unfolding IsTypedStmt
output_typed arrays whole port e h t = (let k : IsTypedStmt arrays true (Output port e) = subst (IsTypedStmt arrays true) h t in k.1)

pub output_apart : (whole : Stmt) (port : ℕ) (e : Expr) → whole ≡ Output port e → AreApart (stmt_inputs whole) → AreApart (inputs e)
unfolding stmt_inputs
output_apart whole port e h t = subst (λ (z : Stmt). AreApart (stmt_inputs z)) h t

abbrev pub IsTypedOther : List Array → Option Stmt → Type 0
IsTypedOther arrays None = Unit {0}
IsTypedOther arrays (Some s) = IsTypedStmt arrays true s

pub record IfTyped (arrays : List Array) (c : Expr) (chosen : Stmt) (other : Option Stmt) : Type 0 where
  pub condition : IsTypedExpr arrays true c
  pub chosen_is : IsTypedStmt arrays true chosen
  pub other_is : IsTypedOther arrays other
  pub apart : AreApart (inputs c)
  pub none : HasNoInputs chosen other

if_typed_at : (arrays : List Array) (c : Expr) (chosen : Stmt) (other : Option Stmt) → IsTypedStmt arrays true (if_stmt c chosen other) → AreApart (stmt_inputs (if_stmt c chosen other)) → IfTyped arrays c chosen other
unfolding IsTypedStmt stmt_inputs
if_typed_at arrays c chosen None t a =
    record { condition = t.0; chosen_is = stmt_everywhere arrays chosen t.1; other_is = tt; apart = apart_first (inputs c) (stmt_inputs chosen) a; none = none_stmt arrays chosen t.1 }
if_typed_at arrays c chosen (Some other) t a =
    record {
      condition = t.0;
      chosen_is = stmt_everywhere arrays chosen t.1;
      other_is = stmt_everywhere arrays other t.2;
      apart = apart_first (inputs c) (stmt_inputs chosen) (apart_first (inputs c ++ stmt_inputs chosen) (stmt_inputs other) a);
      none = (none_stmt arrays chosen t.1, none_stmt arrays other t.2);
    }

pub if_typed : (arrays : List Array) (whole : Stmt) (c : Expr) (chosen : Stmt) (other : Option Stmt) → whole ≡ if_stmt c chosen other → IsTypedStmt arrays true whole → AreApart (stmt_inputs whole) → IfTyped arrays c chosen other
if_typed arrays whole c chosen other h t a = if_typed_at arrays c chosen other (subst (IsTypedStmt arrays true) h t) (subst (λ (z : Stmt). AreApart (stmt_inputs z)) h a)

-- a branch, at a later point
pub branch_typed : (arrays now : List Array) (s o : MadeStmt) → now ≡ arrays → o ≡ s → IsTypedStmt arrays true (stmt_of s) → IsTypedStmt now true (stmt_of o)
branch_typed arrays now s o h k t = subst (λ (z : List Array). IsTypedStmt z true (stmt_of o)) (sym h) (subst (λ (z : MadeStmt). IsTypedStmt arrays true (stmt_of z)) (sym k) t)

pub branch_apart : (s o : MadeStmt) → o ≡ s → stmt_inputs (stmt_of s) ≡ [] → AreApart (stmt_inputs (stmt_of o))
branch_apart s o k none = subst (λ (z : List ℕ). AreApart z) (sym (ap (λ (z : MadeStmt). stmt_inputs (stmt_of z)) k ∙ none)) tt

-- ---- the statement

abbrev pub Stands : Draft → Draft → Stmt → Type 0
Stands a d s = IsTranslated a d (λ x. stmt x s) (stmt_inputs s) (stmt_outputs s)

pub same_stands : {a d : Draft} (s t : Stmt) → s ≡ t → Stands a d t → Stands a d s
same_stands {a = a} {d = d} s t h one = subst (λ (z : Stmt). Stands a d z) (sym h) one

pub words_stand : {a d : Draft} (whole : Stmt) (is : List Initial) → whole ≡ Words is → IsTranslated a d (λ x. declared x is) (initial_inputs is) [] → Stands a d whole
unfolding stmt stmt_inputs stmt_outputs
words_stand whole is h one = same_stands whole (Words is) h one

pub block_stands : {a d : Draft} (whole : Stmt) (ss : Stmts) → whole ≡ Block ss → IsTranslated a d (λ x. stmts x ss) (stmts_inputs ss) (stmts_outputs ss) → Stands a d whole
unfolding stmt stmt_inputs stmt_outputs
block_stands whole ss h one = same_stands whole (Block ss) h one

pub output_stands : {a d : Draft} (whole : Stmt) (port : ℕ) (e : Expr) → whole ≡ Output port e → IsTranslated a d (λ x. stmt x (Output port e)) (inputs e) (port ∷ []) → Stands a d whole
unfolding stmt_inputs stmt_outputs
output_stands whole port e h one = same_stands whole (Output port e) h one

pub assign_stands : {a d : Draft} (whole : Stmt) (target : Target) (op : Option Binary) (e : Expr) → whole ≡ Assign target op e → IsTranslated a d (λ x. stmt x (Assign target op e)) (stmt_inputs (Assign target op e)) [] → Stands a d whole
unfolding stmt_outputs
assign_stands whole target op e h one = same_stands whole (Assign target op e) h one

pub if_stands : {a b e : Draft} {es : List Effect} {v : ℕ} (whole : Stmt) (c : Expr) (chosen : Stmt) (other : Option Stmt) → whole ≡ if_stmt c chosen other → IfTyped a.arrays c chosen other → Translates a b es c ACondition v → IsBranched b e v chosen other → Stands a e whole
if_stands whole c chosen other h k one two = same_stands whole (if_stmt c chosen other) h (if_is c chosen other k.condition k.none k.apart one two)

-- ---- the branches of an `if`

pub else_known : (arrays : List Array) (S : MadeStmt) (c : MadeExpr) (chosen other : Box MadeStmt Global) (o : Option (Box MadeStmt Global)) → S ≡ made.If c chosen o → o ≡ Some other → IsTypedStmt arrays true (stmt_of S) → AreApart (stmt_inputs (stmt_of S)) → IfTyped arrays (expr_of c) (stmt_of chosen.value) (Some (stmt_of other.value))
else_known arrays S c chosen other o h e = if_typed arrays (stmt_of S) (expr_of c) (stmt_of chosen.value) (Some (stmt_of other.value)) (else_shape S c chosen other o h e)

pub lone_known : (arrays : List Array) (S : MadeStmt) (c : MadeExpr) (chosen : Box MadeStmt Global) (o : Option (Box MadeStmt Global)) → S ≡ made.If c chosen o → o ≡ None → IsTypedStmt arrays true (stmt_of S) → AreApart (stmt_inputs (stmt_of S)) → IfTyped arrays (expr_of c) (stmt_of chosen.value) None
lone_known arrays S c chosen o h e = if_typed arrays (stmt_of S) (expr_of c) (stmt_of chosen.value) None (lone_shape S c chosen o h e)

pub held_known : (arrays : List Array) (S : MadeStmt) (c : MadeExpr) (chosen : Box MadeStmt Global) (o : Option (Box MadeStmt Global)) → S ≡ made.If c chosen o → IsTypedStmt arrays true (stmt_of S) → AreApart (stmt_inputs (stmt_of S)) → IfTyped arrays (expr_of c) (stmt_of chosen.value) (held o)
held_known arrays S c chosen o h = if_typed arrays (stmt_of S) (expr_of c) (stmt_of chosen.value) (held o) (if_shape S c chosen o h)

pub first_none : (a : Stmt) (o : Option Stmt) → HasNoInputs a o → stmt_inputs a ≡ []
first_none a None h = h
first_none a (Some b) h = h.0

entered_formed : (a b : Draft) (c : ℕ) → IsFormed a → EntersArm a b c → IsFormed b
entered_formed a b c formed h =
    formed_elsewhere a b formed h.same h.below
    (λ n. subst (λ (z : List (Option ℕ)). IsBelow (length b.values) (slice_index_or z n None)) (sym h.words) (below_on (length a.values) (length b.values) (assigned_in a n) h.same.values.longer (formed.words n)))

-- at the first branch
pub first_formed : (d d1 : Draft) (c n : ℕ) (g : Option ℕ) (ws : List (Option ℕ)) → IsFormed d → Begins d d1 c n g ws → IsFormed d1
first_formed d d1 c n g ws formed b =
    entered_formed b.first d1 c
    (formed_elsewhere d b.first formed b.same
    (subst (λ (z : Option ℕ). IsBelow (length b.first.values) z) (sym b.guard) (below_on (length d.values) (length b.first.values) d.guard b.same.values.longer formed.guard))
    (λ k. subst (λ (z : List (Option ℕ)). IsBelow (length b.first.values) (slice_index_or z k None)) (sym b.words) (below_on (length d.values) (length b.first.values) (assigned_in d k) b.same.values.longer (formed.words k))))
    b.enters

pub first_arrays : (d d1 : Draft) (c n : ℕ) (g : Option ℕ) (ws : List (Option ℕ)) → Begins d d1 c n g ws → d1.arrays ≡ d.arrays
first_arrays d d1 c n g ws b = b.enters.same.arrays ∙ b.same.arrays

-- at the second branch
pub second_formed : (d2 d4 : Draft) (n : ℕ) (g h : Option ℕ) (ws us : List (Option ℕ)) → IsFormed (with_point d2 g ws) → Switches d2 d4 n g ws h us → IsFormed d4
second_formed d2 d4 n g h ws us formed s = entered_formed s.between d4 n (subst (λ (z : Draft). IsFormed z) (sym s.is) formed) s.enters

pub second_arrays : (d2 d4 : Draft) (n : ℕ) (g h : Option ℕ) (ws us : List (Option ℕ)) → Switches d2 d4 n g ws h us → d4.arrays ≡ d2.arrays
second_arrays d2 d4 n g h ws us s = s.enters.same.arrays ∙ ap (λ (z : Draft). z.arrays) s.is

pub is_positive : (k : ℕ) → (k ≡ 0 → ⊥) → nat_lt 0 k ≡ true
is_positive k h = lt-ltb 0 k (omega (arith, h))

pub zero_is : (v : Value) (k : ℕ) → v ≡ Const k → k ≡ 0 → v ≡ Const 0
zero_is v k h e = h ∙ ap Const e
