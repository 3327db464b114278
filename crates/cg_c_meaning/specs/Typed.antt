-- What is known of each program that a source has: what it refers to is there, tables are never stored to, each input is
-- taken once in each turn, and each output is sent to from one place.
use Rattle.std.specs.Prelude.{◌≡◌, ℕ, zero, suc, ◌+◌, ◌<◌, ◌≤◌, Bool, true, false, not, ◌&&◌, List, [], ◌∷◌, ◌++◌, length, Contains, Option, Some, None, Ok}
use Rattle.cg_c_syntax.specs.Tree.{Source}
use Rattle.cg_c_syntax.specs.Source.{IsSource}
use Rattle.cg_c_check.specs.declared.program.Array.{Array}
use Rattle.cg_c_check.specs.Rules.{is_conditional}
use Rattle.cg_c_check.specs.Arrays.{most_memory, size_of}
use Rattle.cg_c_check.specs.Loops.{most_turns}
use Rattle.cg_c_check.specs.Ports.{ports}
use Rattle.cg_c_check.specs.Check.{checked}
use Rattle.cg_c_check.specs.Program.{Expr, Literal, Word, Counter, Element, Signed, Converted, Input, Picked, Two, Choice, Exprs, NoExprs, MoreExprs, Target, TheWord, TheElement, Initial, Stmt, Words, Block, If, IfElse, Output, Assign, Stmts, NoStmts, MoreStmts, Level, Program}
use Rattle.cg_c_meaning.specs.Turns.{turns_of, all_turn}

-- ---- what expressions and statements refer to

-- an array of this number is there
abbrev pub IsArray : List Array → ℕ → Type 0
IsArray arrays number = number < length arrays

abbrev pub table_in : List Array → ℕ → Option (List ℕ)
table_in [] number = None
table_in (a ∷ further) zero = a.table
table_in (a ∷ further) (suc number) = table_in further number

-- an expression among these arrays: elements are of arrays that are there; and inputs stand only where each turn passes
unfoldable mutual
  pub IsTypedExpr : List Array → (each : Bool) → Expr → Type 0
  IsTypedExpr arrays each (Literal c) = Unit {0}
  IsTypedExpr arrays each (Word number s) = Unit {0}
  IsTypedExpr arrays each (Counter depth) = Unit {0}
  IsTypedExpr arrays each (Element array place s indices) = IsArray arrays array × IsTypedExprs arrays each indices
  IsTypedExpr arrays each (Signed sign s e) = IsTypedExpr arrays each e
  IsTypedExpr arrays each (Converted to e) = IsTypedExpr arrays each e
  IsTypedExpr arrays each (Input port) = (each ≡ true) × (port < ports)
  IsTypedExpr arrays each (Picked pick a b) = IsTypedExpr arrays each a × IsTypedExpr arrays each b
  IsTypedExpr arrays each (Two op reading a b) =
      IsTypedExpr arrays each a × IsTypedExpr arrays (each && not (is_conditional op)) b
  IsTypedExpr arrays each (Choice s c a b) =
      IsTypedExpr arrays each c × IsTypedExpr arrays false a × IsTypedExpr arrays false b

  pub IsTypedExprs : List Array → (each : Bool) → Exprs → Type 0
  IsTypedExprs arrays each NoExprs = Unit {0}
  IsTypedExprs arrays each (MoreExprs e es) = IsTypedExpr arrays each e × IsTypedExprs arrays each es

-- what is stored to is an array and no table
abbrev pub IsTypedTarget : List Array → (each : Bool) → Target → Type 0
IsTypedTarget arrays each (TheWord number s) = Unit {0}
IsTypedTarget arrays each (TheElement array place s indices) =
    IsArray arrays array × (table_in arrays array ≡ None) × IsTypedExprs arrays each indices

abbrev pub AreTypedInitials : List Array → (each : Bool) → List Initial → Type 0
AreTypedInitials arrays each [] = Unit {0}
AreTypedInitials arrays each (i ∷ is) = IsTypedExpr arrays each i.value × AreTypedInitials arrays each is

unfoldable mutual
  pub IsTypedStmt : List Array → (each : Bool) → Stmt → Type 0
  IsTypedStmt arrays each (Words initials) = AreTypedInitials arrays each initials
  IsTypedStmt arrays each (Block body) = AreTypedStmts arrays each body
  IsTypedStmt arrays each (If c a) = IsTypedExpr arrays each c × IsTypedStmt arrays false a
  IsTypedStmt arrays each (IfElse c a b) =
      IsTypedExpr arrays each c × IsTypedStmt arrays false a × IsTypedStmt arrays false b
  IsTypedStmt arrays each (Output port e) = (port < ports) × IsTypedExpr arrays each e
  IsTypedStmt arrays each (Assign target op e) = IsTypedTarget arrays each target × IsTypedExpr arrays each e

  pub AreTypedStmts : List Array → (each : Bool) → Stmts → Type 0
  AreTypedStmts arrays each NoStmts = Unit {0}
  AreTypedStmts arrays each (MoreStmts s ss) = IsTypedStmt arrays each s × AreTypedStmts arrays each ss

-- ---- the ports of inputs and outputs, in the order of the text

unfoldable mutual
  pub inputs : Expr → List ℕ
  inputs (Input port) = port ∷ []
  inputs (Element array place s indices) = inputs_of indices
  inputs (Signed sign s e) = inputs e
  inputs (Converted to e) = inputs e
  inputs (Picked pick a b) = inputs a ++ inputs b
  inputs (Two op reading a b) = inputs a ++ inputs b
  inputs (Choice s c a b) = inputs c ++ inputs a ++ inputs b
  inputs (Literal c) = []
  inputs (Word number s) = []
  inputs (Counter depth) = []

  pub inputs_of : Exprs → List ℕ
  inputs_of NoExprs = []
  inputs_of (MoreExprs e es) = inputs e ++ inputs_of es

abbrev pub target_inputs : Target → List ℕ
target_inputs (TheWord number s) = []
target_inputs (TheElement array place s indices) = inputs_of indices

abbrev pub initial_inputs : List Initial → List ℕ
initial_inputs [] = []
initial_inputs (i ∷ is) = inputs i.value ++ initial_inputs is

unfoldable mutual
  pub stmt_inputs : Stmt → List ℕ
  stmt_inputs (Words initials) = initial_inputs initials
  stmt_inputs (Block body) = stmts_inputs body
  stmt_inputs (If c a) = inputs c ++ stmt_inputs a
  stmt_inputs (IfElse c a b) = inputs c ++ stmt_inputs a ++ stmt_inputs b
  stmt_inputs (Output port e) = inputs e
  stmt_inputs (Assign target op e) = target_inputs target ++ inputs e

  pub stmts_inputs : Stmts → List ℕ
  stmts_inputs NoStmts = []
  stmts_inputs (MoreStmts s ss) = stmt_inputs s ++ stmts_inputs ss

unfoldable mutual
  pub stmt_outputs : Stmt → List ℕ
  stmt_outputs (Block body) = stmts_outputs body
  stmt_outputs (If c a) = stmt_outputs a
  stmt_outputs (IfElse c a b) = stmt_outputs a ++ stmt_outputs b
  stmt_outputs (Output port e) = port ∷ []
  stmt_outputs (Words initials) = []
  stmt_outputs (Assign target op e) = []

  pub stmts_outputs : Stmts → List ℕ
  stmts_outputs NoStmts = []
  stmts_outputs (MoreStmts s ss) = stmt_outputs s ++ stmts_outputs ss

-- the outputs of loops with their innermost statements, in the order of the text
abbrev pub nest_outputs : List Level → Stmts → List ℕ
nest_outputs [] body = stmts_outputs body
nest_outputs (l ∷ ls) body = stmts_outputs l.before ++ nest_outputs ls body ++ stmts_outputs l.after

-- no number stands twice
abbrev pub AreApart : List ℕ → Type 0
AreApart [] = Unit {0}
AreApart (n ∷ ns) = (¬ Contains ns n) × AreApart ns

-- ---- arrays

-- a table has a word for each element
abbrev pub HasTableWords : Array → Option (List ℕ) → Type 0
HasTableWords a None = Unit {0}
HasTableWords a (Some table) = length table ≡ size_of a.dimensions

-- from this address on they lie one after another, each of one word or more
abbrev pub AreArranged : (start : ℕ) → List Array → Type 0
AreArranged start [] = start ≤ most_memory
AreArranged start (a ∷ further) = (a.start ≡ start) × (0 < size_of a.dimensions) × HasTableWords a a.table × AreArranged (start + size_of a.dimensions) further

-- ---- programs

-- no input stands outside the innermost loop
abbrev pub AreTypedLevels : List Array → List Level → Type 0
AreTypedLevels arrays [] = Unit {0}
AreTypedLevels arrays (l ∷ ls) =
    AreTypedStmts arrays false l.before × AreTypedStmts arrays false l.after × AreTypedLevels arrays ls

pub record IsTyped (p : Program) : Type 0 where
  pub arranged : AreArranged 0 p.arrays
  pub levels : AreTypedLevels p.arrays p.levels
  pub body : AreTypedStmts p.arrays true p.body
  pub iterates : all_turn p.levels ≡ true
  pub turns : turns_of p.levels ≤ most_turns
  pub taken_once : AreApart (stmts_inputs p.body)
  pub sent_once : AreApart (nest_outputs p.levels p.body)

-- each program that the source of a text has is typed. Of trees that no text has it isn't: an array without dimensions
-- would lie where the next one does, and the items of a table could stand where its rows have to
abbrev pub SourcesAreTyped : Type 0
SourcesAreTyped = (bytes : List ℕ) (source : Source) (p : Program) → IsSource bytes source → checked source ≡ Ok p → IsTyped p
