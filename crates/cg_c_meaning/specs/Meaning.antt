-- The meaning of a program in C: what its function does, statement by statement, when it is called once. It knows of no
-- turns, nodes or arrays of units.
use Rattle.std.specs.Prelude.{◌≡◌, ℕ, zero, suc, ◌+◌, ◌*◌, ◌%◌, ◌≤◌, nat_lt, Bool, false, not, ◌==◌, if◌then◌else◌, List, [], ◌∷◌, ◌++◌, length, map, take, drop, Contains, Option, Some, None, option_map, slice_index, slice_index_or, slice_set}
use Rattle.std.specs.List.{range_with_len}
use Rattle.cg_word.specs.Word.{words, one_if, apply_of}
use Rattle.cg_word.specs.declared.op.Op.{Op}
use Rattle.cg_word.specs.declared.op.Op.TheVariants.{Mins, Maxs}
use Rattle.cg_model.specs.Limits.{port_count}
use Rattle.cg_model.specs.Work.{Image}
use Rattle.cg_c_syntax.specs.declared.expression.Pick.{Pick}
use Rattle.cg_c_syntax.specs.declared.expression.Pick.TheVariants.{Min, Max}
use Rattle.cg_c_syntax.specs.declared.expression.Binary.{Binary}
use Rattle.cg_c_syntax.specs.declared.expression.Binary.TheVariants.{OrElse, AndThen}
use Rattle.cg_c_syntax.specs.declared.statement.Signedness.{Signedness}
use Rattle.cg_c_check.specs.declared.program.Array.{Array}
use Rattle.cg_c_check.specs.declared.program.Range.{Range}
use Rattle.cg_c_check.specs.Rules.{is_true, reading_of, two_words, signed_word, cast_word}
use Rattle.cg_c_check.specs.Program.{Expr, Literal, Word, Counter, Element, Signed, Converted, Input, Picked, Two, Choice, Exprs, NoExprs, MoreExprs, signedness_of, Target, TheWord, TheElement, Initial, Stmt, Words, Block, If, IfElse, Output, Assign, Stmts, NoStmts, MoreStmts, Level, Program}

-- ---- runs

-- a point of a run: the words that are declared, by their numbers; the memory; the number of words that were taken from
-- each input stream; the output streams
pub record State : Type 0 where
  pub words : ℕ → ℕ
  pub memory : List ℕ
  pub taken : ℕ → ℕ
  pub outputs : ℕ → List ℕ

-- a part of a run: its value and the state after it; none where C says nothing
abbrev pub Run : Type 0 → Type 0
Run A = State → Option (A × State)

abbrev pub onward : {A B : Type 0} → (A → Run B) → Option (A × State) → Option (B × State)
onward next None = None
onward next (Some r) = next r.0 r.1

infixl 10 ◌>>=◌
abbrev pub ◌>>=◌ : {A B : Type 0} → Run A → (A → Run B) → Run B
run >>= next = λ s. onward next (run s)

infixl 10 ◌>>◌
abbrev pub ◌>>◌ : {A B : Type 0} → Run A → Run B → Run B
run >> next = λ s. onward (λ _. next) (run s)

abbrev pub give : {A : Type 0} → A → Run A
give a = λ s. Some (a, s)

abbrev pub with_state : {A : Type 0} → State → Option A → Option (A × State)
with_state s None = None
with_state s (Some a) = Some (a, s)

-- what is there, or else C says nothing
abbrev pub defined : {A : Type 0} → Option A → Run A
defined o = λ s. with_state s o

-- a word in the place of that under a number
abbrev pub updated : {A : Type 0} → (ℕ → A) → ℕ → A → ℕ → A
updated f n a m = if m == n then a else f m

-- ---- where a run is

-- the arrays, the input streams, and the counters of the loops around, the outermost first
pub record Context : Type 0 where
  pub arrays : List Array
  pub streams : List (List ℕ)
  pub counters : List ℕ

-- in one more loop, whose counter has this word
abbrev pub inside : Context → ℕ → Context
inside x word = record x { counters = x.counters ++ word ∷ [] }

-- the array of a number
abbrev pub array_at : Context → ℕ → Array
array_at x number = slice_index_or x.arrays number (record { name = []; dimensions = []; start = 0; table = None })

-- the place of an element among those of an array with these dimensions, row by row, where it is number `row` before
-- them; none where an index is not below its dimension
abbrev pub place_in : (dimensions : List ℕ) → (row : ℕ) → (indices : List ℕ) → Option ℕ
place_in [] row [] = Some row
place_in (d ∷ ds) row (i ∷ is) = if nat_lt i d then place_in ds (row * d + i) is else None
place_in _ _ _ = None

-- the address of an element
abbrev pub address_in : Array → (indices : List ℕ) → Option ℕ
address_in a indices = option_map (λ place. a.start + place) (place_in a.dimensions 0 indices)

-- ---- expressions

abbrev pub pick_op : Pick → Op
pick_op Min = Mins
pick_op Max = Maxs

-- the left operand settles the value: || is 1 where it isn't 0, && is 0 where it is
abbrev pub is_settled : Binary → (left : ℕ) → Bool
is_settled OrElse left = is_true left
is_settled AndThen left = not (is_true left)
is_settled _ left = false

abbrev pub word_of : (number : ℕ) → Run ℕ
word_of number = λ s. Some (s.words number, s)

abbrev pub loaded : (address : ℕ) → Run ℕ
loaded address = λ s. Some (slice_index s.memory address, s)

-- the next word of a stream, 0 past its end
abbrev pub next_input : Context → (port : ℕ) → Run ℕ
next_input x port = λ s. Some (slice_index (slice_index_or x.streams port []) (s.taken port), record s { taken = updated s.taken port (suc (s.taken port)) })

unfoldable mutual
  pub value : Context → Expr → Run ℕ
  value x (Literal c) = give c.word
  value x (Word number s) = word_of number
  value x (Counter depth) = give (slice_index x.counters depth)
  value x (Element array place s indices) = do
    is ← values x indices
    address ← defined (address_in (array_at x array) is)
    loaded address
  value x (Signed sign s e) = do
    w ← value x e
    give (signed_word sign w)
  value x (Converted to e) = do
    w ← value x e
    give (cast_word to w)
  value x (Input port) = next_input x port
  value x (Picked pick a b) = do
    v ← value x a
    w ← value x b
    give (apply_of (pick_op pick) v w 0)
  value x (Two op reading a b) = do
    v ← value x a
    if is_settled op v then give (one_if (is_true v)) else (value x b >>= (λ w. give (two_words op reading v w)))
  value x (Choice s c a b) = do
    v ← value x c
    if is_true v then value x a else value x b

  -- the words of indices
  pub values : Context → Exprs → Run (List ℕ)
  values x NoExprs = give []
  values x (MoreExprs e es) = do
    w ← value x e
    ws ← values x es
    give (w ∷ ws)

-- ---- statements

abbrev pub set_word : (number word : ℕ) → Run (Unit {0})
set_word number word = λ s. Some (tt, record s { words = updated s.words number word })

abbrev pub stored : (address word : ℕ) → Run (Unit {0})
stored address word = λ s. Some (tt, record s { memory = slice_set s.memory address word })

abbrev pub sent : (port word : ℕ) → Run (Unit {0})
sent port word = λ s. Some (tt, record s { outputs = updated s.outputs port (s.outputs port ++ word ∷ []) })

-- what is assigned: the value, or what an operator makes of the old word and the value
abbrev pub changed : Option Binary → (old_is value_is : Signedness) → (old new : ℕ) → ℕ
changed None s t old new = new
changed (Some op) s t old new = two_words op (reading_of op s t) old new

abbrev pub assign : Context → Target → Option Binary → Expr → Run (Unit {0})
assign x (TheWord number s) op e = do
  new ← value x e
  old ← word_of number
  set_word number (changed op s (signedness_of e) old new)
assign x (TheElement array place s indices) op e = do
  is ← values x indices
  address ← defined (address_in (array_at x array) is)
  new ← value x e
  old ← loaded address
  stored address (changed op s (signedness_of e) old new)

-- one word after another gets its first value
abbrev pub declared : Context → List Initial → Run (Unit {0})
declared x [] = give tt
declared x (i ∷ is) = do
  word ← value x i.value
  set_word i.number word
  declared x is

unfoldable mutual
  pub stmt : Context → Stmt → Run (Unit {0})
  stmt x (Words initials) = declared x initials
  stmt x (Block body) = stmts x body
  stmt x (If c a) = do
    v ← value x c
    if is_true v then stmt x a else give tt
  stmt x (IfElse c a b) = do
    v ← value x c
    if is_true v then stmt x a else stmt x b
  stmt x (Output port e) = do
    word ← value x e
    sent port word
  stmt x (Assign target op e) = assign x target op e

  pub stmts : Context → Stmts → Run (Unit {0})
  stmts x NoStmts = give tt
  stmts x (MoreStmts s ss) = do
    stmt x s
    stmts x ss

-- ---- loops

-- the word of a counter in iteration n
abbrev pub counter : Range → (n : ℕ) → ℕ
counter r n = (r.first + r.step * n) % words

-- the iterations 0 to n - 1
unfoldable pub repeated : (n : ℕ) → (ℕ → Run (Unit {0})) → Run (Unit {0})
repeated zero run = give tt
repeated (suc n) run = repeated n run >> run n

-- loops in one another, the outermost first, with the statements before and after each, and those in the innermost
unfoldable pub nested : Context → List Level → Stmts → Run (Unit {0})
nested x [] body = stmts x body
nested x (l ∷ ls) body = do
  stmts x l.before
  repeated l.range.trips (λ n. nested (inside x (counter l.range n)) ls body)
  stmts x l.after

-- ---- programs

-- where and how a call on an image begins
abbrev pub context_of : Program → Image → Context
context_of p image = record { arrays = p.arrays; streams = image.streams; counters = [] }

abbrev pub beginning : Image → State
beginning image = record { words = λ number. 0; memory = image.memory; taken = λ port. 0; outputs = λ port. [] }

-- the memory and the output streams
abbrev pub left_by : Option (Unit {0} × State) → Option Image
left_by None = None
left_by (Some r) = Some (record { memory = r.1.memory; streams = map r.1.outputs (range_with_len 0 port_count) })

-- what a call leaves; none where C says nothing of it
unfoldable pub c_left : Program → Image → Option Image
c_left p image = left_by (nested (context_of p image) p.levels p.body (beginning image))

-- the number of elements of an array
abbrev pub size_of : List ℕ → ℕ
size_of [] = 1
size_of (d ∷ ds) = d * size_of ds

abbrev pub HasTable : Image → Array → Option (List ℕ) → Type 0
HasTable image a None = Unit {0}
HasTable image a (Some table) = take (length table) (drop a.start image.memory) ≡ table

-- the memory of the image has each array, and tables have their words
pub record Holds (p : Program) (image : Image) : Type 0 where
  pub room : (a : Array) → Contains p.arrays a → a.start + size_of a.dimensions ≤ length image.memory
  pub tables : (a : Array) → Contains p.arrays a → HasTable image a a.table
