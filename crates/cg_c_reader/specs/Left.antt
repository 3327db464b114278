-- What is left of a text, and what is read of it.
use Rattle.std.specs.Prelude.{◌≡◌, ℕ, List, ◌∷◌, ◌++◌, true, false, Option, Some, None}
use Rattle.cg_c_syntax.specs.Tokens.{Token, tokens_at}
use Rattle.cg_c_syntax.specs.declared.expression.Named.{Named}
use Rattle.cg_c_syntax.specs.Tree.{Expr}
use Rattle.cg_c_syntax.specs.Words.{is_name, named, is_the_mark}
use Rattle.cg_c_syntax.specs.Symbols.{Symbol, Further, Chosen, Value}
use Rattle.cg_c_syntax.specs.Grammar.{step, barred}
use Rattle.cg_c_syntax.specs.Reading.{Values, Reads, ReadsAll, Fails, FailsAll}
use Rattle.cg_c_reader.specs.declared.reader.Reader.{Reader}
use Rattle.cg_c_reader.specs.declared.fault.Misfit.{Misfit}
use Rattle.cg_c_reader.specs.declared.fault.Misfit.TheVariants.{Memory, Text, Depth}
use Rattle.cg_c_reader.specs.Seen.{seen, rest_after}

-- the next token, and those after it
pub record Rest : Type 0 where
  pub head : Token
  pub more : List Token

abbrev pub all : Rest → List Token
all r = r.head ∷ r.more

abbrev pub left : Reader → Rest
left r = record { head = seen r.token; more = rest_after r.token.kind (tokens_at r.bytes.now r.next.line r.next.place) }

-- the symbol is read up to new
pub record ReadsTo (s : Symbol) (v : Value s) (old new : Rest) : Type 0 where
  pub front : List Token
  pub spelled : all old ≡ front ++ all new
  pub reads : Reads Value step barred s front new.head v

-- the symbols are read up to new
pub record ReadsAllTo (ss : List Symbol) (vs : Values Value ss) (old new : Rest) : Type 0 where
  pub front : List Token
  pub spelled : all old ≡ front ++ all new
  pub reads : ReadsAll Value step barred ss front new.head vs

-- the symbol does not go on at new, or is barred there for a place
pub record FailsTo (s : Symbol) (q : Option ℕ) (old new : Rest) : Type 0 where
  pub front : List Token
  pub spelled : all old ≡ front ++ all new
  pub fails : Fails Value step barred s front new.head q

pub record FailsAllTo (ss : List Symbol) (q : Option ℕ) (old new : Rest) : Type 0 where
  pub front : List Token
  pub spelled : all old ≡ front ++ all new
  pub fails : FailsAll Value step barred ss front new.head q

-- from old on a symbol is read, or missed, as these symbols are from mid on, whose values give its value
pub record Leads (s : Symbol) (ss : List Symbol) (f : Values Value ss → Value s) (old mid : Rest) : Type 0 where
  pub reads : (new : Rest) (vs : Values Value ss) → ReadsAllTo ss vs mid new → ReadsTo s (f vs) old new
  pub fails : (new : Rest) (q : Option ℕ) → FailsAllTo ss q mid new → FailsTo s q old new

-- the symbol is not read, for the reason; nothing is said of want of memory
abbrev pub MissesFrom : Misfit → Symbol → Rest → Rest → Type 0
MissesFrom Memory s old new = Unit {0}
MissesFrom Text s old new = FailsTo s None old new
MissesFrom (Depth place) s old new = FailsTo s (Some place) old new

-- the same of symbols one after another
abbrev pub MissesAll : Misfit → List Symbol → Rest → Rest → Type 0
MissesAll Memory ss old new = Unit {0}
MissesAll Text ss old new = FailsAllTo ss None old new
MissesAll (Depth place) ss old new = FailsAllTo ss (Some place) old new

-- ---- of readers

abbrev pub Misses : Misfit → Symbol → Reader → Reader → Type 0
Misses e s old new = MissesFrom e s (left old) (left new)

abbrev pub Finds : (s : Symbol) → Value s → Reader → Reader → Type 0
Finds s v old new = ReadsTo s v (left old) (left new)

-- what follows an operand makes an expression of it
pub record FindsFurther (level depth : ℕ) (operand e : Expr) (old new : Reader) : Type 0 where
  pub after : Expr → Expr
  pub value : after operand ≡ e
  pub reads : Finds (Further level depth) after old new

-- what follows a condition makes an expression of it
pub record FindsChosen (depth : ℕ) (condition e : Expr) (old new : Reader) : Type 0 where
  pub after : Expr → Expr
  pub value : after condition ≡ e
  pub reads : Finds (Chosen depth) after old new

-- the next token is a name, and is taken
pub record TakesName (name : Named) (old new : Reader) : Type 0 where
  pub is : is_name (left old).head ≡ true
  pub value : name ≡ named (left old).head
  pub taken : (left old).more ≡ all (left new)

-- the next token is no name
abbrev pub MissesName : Misfit → Reader → Reader → Type 0
MissesName Memory old new = Unit {0}
MissesName Text old new = (is_name (left old).head ≡ false) × (left new ≡ left old)
MissesName (Depth place) old new = ⊥

-- the next token is the mark, and is taken
pub record TakesMark (text : List ℕ) (old new : Reader) : Type 0 where
  pub is : is_the_mark text (left old).head ≡ true
  pub taken : (left old).more ≡ all (left new)

-- the next token is not the mark
abbrev pub MissesMark : Misfit → (text : List ℕ) → Reader → Reader → Type 0
MissesMark Memory text old new = Unit {0}
MissesMark Text text old new = (is_the_mark text (left old).head ≡ false) × (left new ≡ left old)
MissesMark (Depth place) text old new = ⊥
