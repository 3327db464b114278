-- The typed statements of a source.
use Rattle.std.specs.Prelude.{ℕ, suc, Bool, false, not, List, [], ◌∷◌, Option, Some, None, Ok, Err}
use Rattle.cg_c_syntax.specs.Tree as tree
use Rattle.cg_c_syntax.specs.declared.statement.Signedness.{Signedness}
use Rattle.cg_c_check.specs.declared.fault.CheckFault.TheVariants.{WrongUse, BadShift}
use Rattle.cg_c_check.specs.declared.names.Meaning.TheVariants as meanings
use Rattle.cg_c_check.specs.Program.{Binary, Expr, MoreExprs, Target, TheWord, TheElement, Initial, Stmt, Words, Block, If, IfElse, Output, Assign, Stmts, NoStmts, MoreStmts}
use Rattle.cg_c_check.specs.Faults.{Checked}
use Rattle.cg_c_check.specs.Names.{Meaning, known, writable_named}
use Rattle.cg_c_check.specs.Constants.{count}
use Rattle.cg_c_check.specs.Walk.{Walk, ◌>>=◌, ◌>>◌, give, by_names, need, declares_word, scoped, output_port}
use Rattle.cg_c_check.specs.Expressions.{expr, exprs, is_wide_by}

-- F6: what is assigned without indices is a word
abbrev pub word_named : (place : ℕ) → Meaning → Checked Target
word_named place (meanings.Word number signedness) = Ok (TheWord number signedness)
word_named place _ = Err (WrongUse place)

abbrev pub assigned : (each : Bool) → (place : ℕ) → Meaning → tree.Exprs → Walk Target
assigned each place meaning tree.NoExprs = by_names (λ names. word_named place meaning)
assigned each place meaning (tree.MoreExprs e es) = do
  shape ← by_names (λ names. writable_named place (suc (count es)) meaning)
  a ← expr each e
  further ← exprs each es
  give (TheElement shape.number place shape.signedness (MoreExprs a further))

unfoldable pub target : (each : Bool) → tree.Target → Walk Target
target each t = do
  meaning ← by_names (λ names. known names t.name)
  assigned each t.name.place meaning t.indices

-- F9: the count of a shift by assignment
abbrev pub is_wide_change : Option Binary → Expr → Bool
is_wide_change None e = false
is_wide_change (Some op) e = is_wide_by op e

-- words are visible from the end of their first values on
unfoldable pub declarations : (each : Bool) → Signedness → List tree.Word → Walk (List Initial)
declarations each signedness [] = give []
declarations each signedness (w ∷ ws) = do
  value ← expr each w.value
  number ← declares_word w.name signedness
  further ← declarations each signedness ws
  give (record { number = number; value = value } ∷ further)

-- statements. `each` says that each turn passes this place
unfoldable mutual
  pub stmt : (each : Bool) → tree.Stmt → Walk Stmt
  stmt each (tree.Words signedness words) = do
    initials ← declarations each signedness words
    give (Words initials)
  stmt each (tree.Block body) = do
    inner ← scoped (stmts each body)
    give (Block inner)
  stmt each (tree.If condition chosen) = do
    c ← expr each condition
    a ← stmt false chosen
    give (If c a)
  stmt each (tree.IfElse condition chosen other) = do
    c ← expr each condition
    a ← stmt false chosen
    b ← stmt false other
    give (IfElse c a b)
  stmt each (tree.Output port value) = do
    p ← output_port port
    a ← expr each value
    give (Output p a)
  stmt each (tree.Assign left op value) = do
    t ← target each left
    a ← expr each value
    need (not (is_wide_change op a)) (BadShift left.name.place)
    give (Assign t op a)

  pub stmts : (each : Bool) → tree.Stmts → Walk Stmts
  stmts each tree.NoStmts = give NoStmts
  stmts each (tree.MoreStmts s ss) = do
    a ← stmt each s
    further ← stmts each ss
    give (MoreStmts a further)
