-- The typed program of a source, or its first fault.
use Rattle.std.specs.Prelude.{ℕ, suc, ◌*◌, nat_lt, Bool, true, false, List, length, [], ◌∷◌, ◌++◌, Option, Some, None, Ok, Err}
use Rattle.cg_c_syntax.specs.Tree as tree
use Rattle.cg_c_syntax.specs.declared.statement.Signedness.{Signedness}
use Rattle.cg_c_syntax.specs.declared.statement.Signedness.TheVariants.{Signed}
use Rattle.cg_c_check.specs.declared.fault.CheckFault.TheVariants.{BadNumber, BadLoop}
use Rattle.cg_c_check.specs.declared.names.Meaning.TheVariants as meanings
use Rattle.cg_c_check.specs.Rules.{fits_enumerator}
use Rattle.cg_c_check.specs.Program.{Stmts, Level, Program}
use Rattle.cg_c_check.specs.Faults.{Checked}
use Rattle.cg_c_check.specs.Names.{predeclared}
use Rattle.cg_c_check.specs.Constants.{constant_of}
use Rattle.cg_c_check.specs.Arrays.{end_of, dimensions_of, table_of}
use Rattle.cg_c_check.specs.Loops.{most_loops, Range, range_of}
use Rattle.cg_c_check.specs.Walk.{State, Walk, ◌>>=◌, ◌>>◌, give, by_names, need, declares, scoped}
use Rattle.cg_c_check.specs.Statements.{stmts}

-- ---- declarations before the function

abbrev pub define : tree.Constant → Walk (Unit {0})
define c = do
  value ← by_names (λ names. constant_of names c.value)
  declares c.name (meanings.Constant value)

-- an enumerator is signed
abbrev pub enumerator : tree.Constant → Walk (Unit {0})
enumerator c = do
  value ← by_names (λ names. constant_of names c.value)
  need (fits_enumerator value) (BadNumber c.name.place)
  declares c.name (meanings.Constant (record { word = value.word; signedness = Signed }))

unfoldable pub enumerators : List tree.Constant → Walk (Unit {0})
enumerators [] = give tt
enumerators (c ∷ cs) = do
  enumerator c
  enumerators cs

-- the dimensions of an array at the next address, whose name is declared behind them
abbrev pub dimensioned : (table : Bool) → Signedness → tree.Array → Walk (List ℕ)
dimensioned table signedness a = λ s. (do
  dimensions ← by_names (λ names. dimensions_of names s.free 1 a.dimensions)
  declares a.name (meanings.Array (record { number = length s.arrays; dimensions = length dimensions; table = table; signedness = signedness }))
  give dimensions) s

-- an array at the next address
abbrev pub placed : tree.Array → List ℕ → Option (List ℕ) → Walk (Unit {0})
placed a dimensions table = λ s.
    Ok (tt, record s { arrays = s.arrays ++ record { name = a.name.name; dimensions = dimensions; start = s.free; table = table } ∷ []; free = end_of s.free dimensions })

abbrev pub array : Signedness → tree.Array → Walk (Unit {0})
array signedness a = do
  dimensions ← dimensioned false signedness a
  placed a dimensions None

unfoldable pub arrays : Signedness → List tree.Array → Walk (Unit {0})
arrays signedness [] = give tt
arrays signedness (a ∷ further) = do
  array signedness a
  arrays signedness further

abbrev pub table : tree.Table → Walk (Unit {0})
table t = do
  dimensions ← dimensioned true t.signedness t.array
  words ← by_names (λ names. table_of names dimensions t.rows)
  placed t.array dimensions (Some words)

abbrev pub global : tree.Global → Walk (Unit {0})
global (tree.Define c) = define c
global (tree.Enumeration cs) = enumerators cs
global (tree.Arrays signedness declared) = arrays signedness declared
global (tree.Constants t) = table t

unfoldable pub globals : List tree.Global → Walk (Unit {0})
globals [] = give tt
globals (g ∷ gs) = do
  global g
  globals gs

-- ---- loops

-- the levels from the outermost on, and the statements of the innermost loop
pub record Nested : Type 0 where
  pub levels : List Level
  pub body : Stmts

-- inside `depth` loops, which have `turns` turns. What is in the innermost loop, each turn passes
unfoldable mutual
  pub nest : (depth turns : ℕ) → tree.Nest → Walk Nested
  nest depth turns (tree.Bare body) = do
    a ← stmts true body
    give (record { levels = []; body = a })
  nest depth turns (tree.Holds before inner after) = do
    a ← stmts false before
    within ← scoped (looped depth turns inner)
    b ← stmts false after
    give (record { levels = record { before = a; range = within.0; after = b } ∷ within.1.levels; body = within.1.body })

  pub looped : (depth turns : ℕ) → tree.Loop → Walk (Range × Nested)
  looped depth turns (tree.For place head body) = do
    need (nat_lt depth most_loops) (BadLoop place)
    range ← by_names (λ names. range_of names turns place head)
    declares head.counter (meanings.Counter depth)
    inner ← nest (suc depth) (turns * range.trips) body
    give (range, inner)

-- ---- sources

abbrev pub beginning : State
beginning = record { names = predeclared; arrays = []; free = 0; words = []; inputs = []; outputs = [] }

-- the declarations of a source, its function's name, and its loops
unfoldable pub walked : tree.Source → Walk Nested
walked s = do
  globals s.globals
  declares s.name meanings.Function
  nest 0 1 (tree.Holds s.before s.outer s.after)

abbrev pub source : tree.Source → Walk Program
source s = do
  nested ← walked s
  λ end. Ok (record { name = s.name.name; arrays = end.arrays; words = end.words; levels = nested.levels; body = nested.body }, end)

abbrev pub without_state : {A : Type 0} → Checked (A × State) → Checked A
without_state (Ok r) = Ok r.0
without_state (Err fault) = Err fault

-- the typed program of a source, or the first of the faults F3 to F12 in the order of the text
unfoldable pub checked : tree.Source → Checked Program
checked s = without_state (source s beginning)
