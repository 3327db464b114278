-- What the parts of a translation of expressions have to show.
use Rattle.std.specs.Prelude.{◌≡◌, ℕ, ◌<◌, if◌then◌else◌, Bool, not, true, false, List, [], ◌∷◌, length, map, Some, Contains, slice_index}
use Rattle.cg_c_syntax.specs.declared.expression.Binary.{Binary}
use Rattle.cg_c_syntax.specs.declared.expression.Sign.{Sign}
use Rattle.cg_c_syntax.specs.declared.expression.Sign.TheVariants as marks
use Rattle.cg_c_syntax.specs.declared.statement.Signedness.{Signedness}
use Rattle.cg_c_syntax.specs.declared.statement.Signedness.TheVariants.{Signed, Unsigned}
use Rattle.cg_c_syntax.specs.declared.expression.Binary.TheVariants.{Or, Xor, And, Equal, Unequal, Less, AtMost, Greater, AtLeast, ShiftLeft, ShiftRight, Sub, Mul}
use Rattle.cg_word.specs.declared.op.Op.{Op}
use Rattle.cg_word.specs.declared.op.Op.TheVariants as ops
use Rattle.cg_c_check.specs.Rules.{is_conditional, is_true, right_shift, two_words}
use Rattle.cg_c_check.specs.declared.program.Link.{Link}
use Rattle.cg_c_check.specs.Program.{Expr, Exprs}
use Rattle.cg_c_check.specs.Written.{linked}
use Rattle.cg_word.specs.Word.{words, one_if}
use Rattle.cg_c_values.specs.declared.value.Value.{Value}
use Rattle.cg_c_values.specs.Values.{Moment, Words, Fits, Extends, IsBelow, holds}
use Rattle.cg_c_meaning.specs.Meaning.{State, Context, Run, ◌>>=◌, give, loaded, place_in, address_in, is_settled, value, values}
use Rattle.cg_c_meaning.specs.Typed.{AreApart, IsTypedExpr, inputs, inputs_of}
use Rattle.cg_c_turn.specs.Draft.{Draft, Effect}
use Rattle.cg_c_turn.specs.Leads.{Outcome, Leads, IsInside, array_of}
use Rattle.cg_c_turn.specs.Stands.{Wanted, TheWord, ACondition, Agrees, AreBelow, AreReady, Grows, IsFormed, IsSound, Matches, Runs, Translates, sent_ports}

-- ---- operations on values

-- a value that was wanted for what f makes of a word, of which v is the value that was wanted
pub record Maps (old new : List Value) (inner : Wanted) (v : ℕ) (outer : Wanted) (r : ℕ) (f : ℕ → ℕ) : Type 0 where
  pub kept : Extends old new
  pub within : r < length new
  pub is : (x : Moment) (E : Words) (w : ℕ) → Fits new x E → Agrees inner (E v) w → Agrees outer (E r) (f w)

-- what an operator wants of its operands
abbrev pub side_of : Binary → Wanted
side_of op = if is_conditional op then ACondition else TheWord

-- what a sign wants of its operand
abbrev pub under : Sign → Wanted
under marks.Not = ACondition
under _ = TheWord

-- a value that was wanted for what an operator makes of two words; the second value is one only where the first word
-- doesn't settle it
pub record Joins (old new : List Value) (op : Binary) (reading : Signedness) (v u : ℕ) (outer : Wanted) (r : ℕ) : Type 0 where
  pub kept : Extends old new
  pub within : r < length new
  pub is : (x : Moment) (E : Words) (a b : ℕ) → Fits new x E → Agrees (side_of op) (E v) a →
      (is_settled op a ≡ false → Agrees (side_of op) (E u) b) → Agrees outer (E r) (two_words op reading a b)

-- the left word of the operator settles it, and this is the word that it gives
pub record Settles (values : List Value) (op : Binary) (first word : ℕ) : Type 0 where
  pub settled : (x : Moment) (E : Words) (a : ℕ) → Fits values x E → Agrees (side_of op) (E first) a → is_settled op a ≡ true
  pub is : (x : Moment) (E : Words) (a : ℕ) → Fits values x E → Agrees (side_of op) (E first) a → word ≡ one_if (is_true a)

-- the operation on two words that an operator is
abbrev pub is_direct : Binary → Bool
is_direct Greater = false
is_direct AtMost = false
is_direct AtLeast = false
is_direct op = not (is_conditional op)

abbrev pub less_op : Signedness → Op
less_op Signed = ops.Lts
less_op Unsigned = ops.Ltu

abbrev pub direct_op : Binary → Signedness → Op
direct_op Or s = ops.Or
direct_op Xor s = ops.Xor
direct_op And s = ops.And
direct_op Equal s = ops.Eq
direct_op Unequal s = ops.Ne
direct_op Less s = less_op s
direct_op ShiftLeft s = ops.Shl
direct_op ShiftRight s = right_shift s
direct_op Sub s = ops.Sub
direct_op Mul s = ops.Mul
direct_op _ s = ops.Add

-- ---- parts of a run

-- values and effects were added that send nothing, and nothing else changed
pub record Steps (before after : Draft) (added : List Effect) : Type 0 where
  pub grows : Grows before after added
  pub formed : IsFormed after
  pub words : after.words ≡ before.words
  pub initial : after.initial ≡ before.initial
  pub latest : after.latest ≡ before.latest
  pub silent : sent_ports added ≡ []

-- a part of a run changed nothing but the streams of these ports
pub record Leaves (before after : State) (ports : List ℕ) : Type 0 where
  pub words : (number : ℕ) → after.words number ≡ before.words number
  pub memory : after.memory ≡ before.memory
  pub outputs : (port : ℕ) → after.outputs port ≡ before.outputs port
  pub others : (port : ℕ) → ¬ Contains ports port → after.taken port ≡ before.taken port

-- a run is at the point, and does this next, with the result a
pub record Goes {A : Type 0} (d : Draft) (x : Moment) (E : Words) (m : Outcome) (run : Context → Run A) (ports : List ℕ) (a : A) : Type 0 where
  pub context : Context
  pub before : State
  pub after : State
  pub matches : Matches d x E m context before
  pub ready : AreReady x before ports
  pub runs : run context before ≡ Some (a, after)

-- the memory and the streams are as they were, and where the guard of the point holds, so does Q
pub record IsLeft (d : Draft) (E : Words) (m : Outcome) (Q : Type 0) (n : Outcome) : Type 0 where
  pub same : n ≡ m
  pub sound : IsSound d E n
  pub agrees : holds E d.guard ≡ true → Q

-- where H holds, the effects of a part of a run with the result a lead to Q of it
pub record Yields {A : Type 0} (before after : Draft) (added : List Effect) (H : Words → Type 0) (run : Context → Run A) (ports : List ℕ) (Q : Words → A → Type 0) : Type 0 where
  pub leads : (x : Moment) (E : Words) (m : Outcome) (a : A) → Runs after x E → IsSound before E m →
      (holds E before.guard ≡ true → H E × Goes before x E m run ports a) →
      Leads before.arrays E added m (IsLeft after E m (Q E a))

-- ---- contracts of the parts

-- an expression is evaluated only where it goes on
abbrev pub only_if : Bool → Run ℕ → Run ℕ
only_if go run = if go then run else give 0

-- more values, and a guard that holds where that of the point does and a word, of which H holds, says to go on
pub record Enters (before after : Draft) (H : Words → ℕ → Type 0) (go : ℕ → Bool) : Type 0 where
  pub rest : after ≡ record before { values = after.values; guard = after.guard }
  pub kept : Extends before.values after.values
  pub below : IsBelow (length after.values) after.guard
  pub implies : (x : Moment) (E : Words) → Fits after.values x E → holds E after.guard ≡ true → holds E before.guard ≡ true
  pub is : (x : Moment) (E : Words) (w : ℕ) → Fits after.values x E → holds E before.guard ≡ true → H E w → holds E after.guard ≡ go w

-- v is the value that was wanted of an expression that is evaluated where such a word says to go on
pub record Guards (before after : Draft) (added : List Effect) (H : Words → ℕ → Type 0) (go : ℕ → Bool) (e : Expr) (wanted : Wanted) (v : ℕ) : Type 0 where
  pub steps : Steps before after added
  pub within : v < length after.values
  pub yields : (w : ℕ) → Yields before after added (λ E. H E w) (λ c. only_if (go w) (value c e)) (inputs e) (λ E r. go w ≡ true → Agrees wanted (E v) r)

-- what is left to be done of an operation once its left word is there
abbrev pub rest_of_two : Context → Binary → Signedness → Expr → (left : ℕ) → Run ℕ
rest_of_two c op reading b left =
    if is_settled op left then give (one_if (is_true left)) else (value c b >>= (λ w. give (two_words op reading left w)))

-- v is the value that was wanted of an operation, of whose left word `first` is the value
pub record Links (before after : Draft) (added : List Effect) (op : Binary) (reading : Signedness) (first : ℕ) (b : Expr) (wanted : Wanted) (v : ℕ) : Type 0 where
  pub steps : Steps before after added
  pub within : v < length after.values
  pub yields : (left : ℕ) → Yields before after added (λ E. Agrees (side_of op) (E first) left) (λ c. rest_of_two c op reading b left) (inputs b) (λ E w. Agrees wanted (E v) w)

-- what is wanted of the value before these operators
abbrev pub wanted_of : Wanted → List Link → Wanted
wanted_of wanted [] = wanted
wanted_of wanted (l ∷ ls) = side_of l.op

-- from the draft `start` on a chain is translated but for these operators and operands; `first` is the value that was
-- wanted of what is translated
pub record IsLed (start : Draft) (whole : Expr) (d : Draft) (rest : List Link) (wanted : Wanted) (first : ℕ) : Type 0 where
  pub arrays : d.arrays ≡ start.arrays
  pub typed : IsTypedExpr start.arrays true whole
  pub apart : AreApart (inputs whole)
  pub part : Expr
  pub same : linked part rest ≡ whole
  pub added : List Effect
  pub is : Translates start d added part wanted first

-- a chain is
pub record IsBegun (d : Draft) (rest : List Link) (wanted : Wanted) (first : ℕ) : Type 0 where
  pub start : Draft
  pub whole : Expr
  pub led : IsLed start whole d rest wanted first

-- each chain that was so is translated, and v is its value
pub record Chains (before after : Draft) (rest : List Link) (inner : Wanted) (first : ℕ) (wanted : Wanted) (v : ℕ) : Type 0 where
  pub ends : (start : Draft) (whole : Expr) → IsLed start whole before rest inner first → (added : List Effect) × Translates start after added whole wanted v

-- these are the values of expressions
pub record AreTranslated (before after : Draft) (added : List Effect) (es : Exprs) (vs : List ℕ) : Type 0 where
  pub steps : Steps before after added
  pub within : AreBelow (length after.values) vs
  pub yields : Yields before after added (λ E. Unit {0}) (λ c. values c es) (inputs_of es) (λ E ws. map E vs ≡ ws)

-- r is the value of the place of an element among those of an array with these dimensions
pub record Places (old new : List Value) (dimensions indices : List ℕ) (r : ℕ) : Type 0 where
  pub kept : Extends old new
  pub within : r < length new
  pub is : (x : Moment) (E : Words) (place : ℕ) → Fits new x E → place_in dimensions 0 (map E indices) ≡ Some place → place < words → E r ≡ place

-- v is the value of the address of an element of an array, where these are the values of the indices
pub record Addresses (before after : Draft) (array : ℕ) (indices : List ℕ) (v : ℕ) : Type 0 where
  pub steps : Steps before after []
  pub within : v < length after.values
  pub is : (x : Moment) (E : Words) (address : ℕ) → Fits after.values x E → address_in (array_of before.arrays array) (map E indices) ≡ Some address →
      (E v ≡ address) × IsInside before.arrays array address

-- where the guard of the point holds, this is the word that is in memory at the address
pub record IsFound (d : Draft) (address : ℕ) (word : Words → ℕ) : Type 0 where
  pub is : (x : Moment) (E : Words) (m : Outcome) → Fits d.values x E → IsSound d E m → holds E d.guard ≡ true → word E ≡ slice_index m.memory (E address)

-- v is the value of the word that is at an address in an array
pub record Loads (before after : Draft) (added : List Effect) (array address : ℕ) (v : ℕ) : Type 0 where
  pub steps : Steps before after added
  pub within : v < length after.values
  pub yields : (at : ℕ) → Yields before after added (λ E. (E address ≡ at) × IsInside before.arrays array at) (λ c. loaded at) [] (λ E w. E v ≡ w)
