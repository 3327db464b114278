-- What the parts of a source denote that the reader has before they are whole.
use Rattle.std.specs.Prelude.{◌≡◌, ℕ, List, [], ◌∷◌, map, codes, Option, Some, None}
use Rattle.cg_c_syntax.specs.declared.statement.Stmt.{Stmt as WrittenStmt}
use Rattle.cg_c_syntax.specs.Tree.{Stmt, Head, Loop, For, Nest, Source}
use Rattle.cg_c_syntax.specs.Symbols.{Symbol, TheWord, TheMark, Name, File, Declarations, Around, Operators, Relation, Stepped, Inside, Counter, Body as BodySymbol, Assignment, HeadAndBody, Value}
use Rattle.cg_c_syntax.specs.Reading.{Values}
use Rattle.cg_c_syntax.specs.Grammar.{preceded, with_global}
use Rattle.cg_c_syntax.specs.Written.{expr_of, stmt_of, stmts_of, step_of, loop_of, global_of}
use Rattle.cg_c_reader.specs.declared.statements.Assignment.{Assignment as WrittenAssignment}
use Rattle.cg_c_syntax.specs.declared.expression.Named.{Named}
use Rattle.cg_c_syntax.specs.declared.source.Global.{Global as WrittenGlobal}
use Rattle.cg_c_reader.specs.declared.read.Body.{Body}
use Rattle.cg_c_reader.specs.declared.loops.Start.{Start}
use Rattle.cg_c_reader.specs.declared.loops.Range.{Range}
use Rattle.cg_c_reader.specs.declared.reader.Reader.{Reader}
use Rattle.cg_c_reader.specs.declared.fault.Misfit.{Misfit}
use Rattle.cg_c_reader.specs.Left.{Rest, Leads, MissesFrom, Finds}

abbrev pub assignment_of : WrittenAssignment → Assignment
assignment_of a = record { op = a.op; value = expr_of a.value }

abbrev pub other_of : Option WrittenStmt → Option Stmt
other_of None = None
other_of (Some s) = Some (stmt_of s)

-- statements before others, and a loop if there is one
abbrev pub preceding : List WrittenStmt → Nest → Nest
preceding [] n = n
preceding (s ∷ ss) n = preceded (stmt_of s) (preceding ss n)

-- ---- the head of a loop

-- what follows the first value of a counter of the name
abbrev pub ranging : (depth : ℕ) → List ℕ → List Symbol
ranging depth name = TheWord name ∷ Relation ∷ Operators 3 depth ∷ TheMark (codes ";") ∷ TheWord name ∷ Stepped depth ∷ TheMark (codes ")") ∷ Inside depth ∷ []

-- the head of a loop
abbrev pub head_of : Start → Range → Head
head_of s range = record { counter = s.counter; start = expr_of s.start; inclusive = range.inclusive; bound = expr_of range.bound; step = step_of range.step }

-- the head and the body of a loop, by what follows its first value
abbrev pub started : (depth : ℕ) (name : List ℕ) → Start → Values Value (ranging depth name) → HeadAndBody
started depth name s v = record {
  head = record { counter = s.counter; start = expr_of s.start; inclusive = v.1.0; bound = v.1.1.0; step = v.1.1.1.1.1.0 };
  body = v.1.1.1.1.1.1.1.0;
}

-- and by what the loop repeats
abbrev pub ranged : (depth : ℕ) (name : List ℕ) (range : Range) → Values Value (Inside depth ∷ []) → Values Value (ranging depth name)
ranged depth name range v = (tt, (range.inclusive, (expr_of range.bound, (tt, (tt, (step_of range.step, (tt, v)))))))

-- where the bound and the step come next, they are read
abbrev pub FindsRange : (depth : ℕ) (name : List ℕ) → Range → Rest → Rest → Type 0
FindsRange depth name range old new =
    (s : Symbol) (f : Values Value (ranging depth name) → Value s) (r : Rest) → Leads s (ranging depth name) f r old → Leads s (Inside depth ∷ []) (λ v. f (ranged depth name range v)) r new

abbrev pub MissesRange : (depth : ℕ) (name : List ℕ) → Misfit → Rest → Rest → Type 0
MissesRange depth name e old new = (s : Symbol) (f : Values Value (ranging depth name) → Value s) (r : Rest) → Leads s (ranging depth name) f r old → MissesFrom e s r new

-- the loop of a `for` at the place, from the name of its counter on
pub record FindsLoop (depth place : ℕ) (loop : Loop) (old new : Reader) : Type 0 where
  pub parts : HeadAndBody
  pub value : For place parts.head parts.body ≡ loop
  pub reads : Finds (Counter depth) parts old new

-- ---- the function

abbrev pub around_of : Body → Around
around_of b = record { before = stmts_of b.before.items; outer = loop_of b.outer; after = stmts_of b.after.items }

abbrev pub with_globals : List WrittenGlobal → Source → Source
with_globals [] s = s
with_globals (g ∷ gs) s = with_global (global_of g) (with_globals gs s)

abbrev pub function_of : Named → Body → Source
function_of name b = record { globals = []; name = name; before = stmts_of b.before.items; outer = loop_of b.outer; after = stmts_of b.after.items }

abbrev pub whole_of : List WrittenGlobal → Named → Body → Source
whole_of gs name b = record { globals = map global_of gs; name = name; before = stmts_of b.before.items; outer = loop_of b.outer; after = stmts_of b.after.items }

-- the includes are read
abbrev pub Included : Rest → Rest → Type 0
Included old new = Leads File (Declarations ∷ []) (λ v. v.0) old new

-- the name of the function and what stands before its body
abbrev pub header : List Symbol
header = Name ∷ TheMark (codes "(") ∷ TheWord (codes "void") ∷ TheMark (codes ")") ∷ TheMark (codes "{") ∷ BodySymbol ∷ []

abbrev pub FindsHeader : Named → Rest → Rest → Type 0
FindsHeader name old new = (s : Symbol) (f : Values Value header → Value s) (r : Rest) → Leads s header f r old → Leads s (BodySymbol ∷ []) (λ v. f (name, (tt, (tt, (tt, (tt, v)))))) r new

abbrev pub MissesHeader : Misfit → Rest → Rest → Type 0
MissesHeader e old new = (s : Symbol) (f : Values Value header → Value s) (r : Rest) → Leads s header f r old → MissesFrom e s r new
