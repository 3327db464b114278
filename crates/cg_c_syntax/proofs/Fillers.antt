-- For each symbol a few tokens that are read as it, and what its lines need for that.
use Rattle.std.specs.Prelude.{ℕ, zero, suc, Bool, true, false, ◌&&◌, ◌||◌, not, codes, List, [], ◌∷◌, ◌++◌, is_some}
use Rattle.cg_c_syntax.specs.declared.token.Kind.TheVariants as kinds
use Rattle.cg_c_syntax.specs.Tokens.{Token, empty}
use Rattle.cg_c_syntax.specs.Words.{is_the_word, is_the_mark, binary_of}
use Rattle.cg_c_syntax.specs.Symbols.{Symbol, OfKind, TheWord, TheMark, Name, Digits, Expression, Chosen, Operators, Further, Bracketed, CastOperand, Indices, Declared, MoreDeclared, Statement, Plain, Else, Assigned, Statements, Nested, Body, Looped, Counter, CounterType, Relation, Stepped, Inside, Declarator, Dimensions, MoreDeclarators, Tabled, TableName, TableDimensions, MoreTable, Braced, MoreValues, MoreRows, Enumerator, MoreEnumerators, Defined, DefinedValue, Declaration, Declarations, File, TextEnds, Value}
use Rattle.cg_c_syntax.specs.Reading.{Step, Takes, Begins, Stops}
use Rattle.cg_c_syntax.specs.Grammar.{is_kind}

-- ---- tokens

abbrev pub mark : List ℕ → Token
mark s = record { kind = kinds.Mark; text = s; place = 0 }

abbrev pub word : List ℕ → Token
word s = record { kind = kinds.Word; text = s; place = 0 }

-- the number 1, and the name x
abbrev pub digit : Token
digit = record { kind = kinds.Number; text = codes "1"; place = 0 }

abbrev pub letter : Token
letter = word (codes "x")

-- [ 1 ]
abbrev pub index : List Token
index = mark (codes "[") ∷ digit ∷ mark (codes "]") ∷ []

-- { }
abbrev pub braces : List Token
braces = mark (codes "{") ∷ mark (codes "}") ∷ []

-- x = 1
abbrev pub valued : List Token
valued = letter ∷ mark (codes "=") ∷ digit ∷ []

-- the rows after their {
abbrev pub rows : (more : ℕ) → List Token
rows zero = digit ∷ mark (codes "}") ∷ []
rows (suc more) = mark (codes "{") ∷ (rows more ++ mark (codes "}") ∷ [])

-- = rows ;
abbrev pub tabled : (more : ℕ) → List Token
tabled more = mark (codes "=") ∷ mark (codes "{") ∷ (rows more ++ mark (codes ";") ∷ [])

-- x = 1 ; x < 1 ; x ++ ) { }
abbrev pub counted : List Token
counted = valued ++ mark (codes ";") ∷ letter ∷ mark (codes "<") ∷ digit ∷ mark (codes ";") ∷ letter ∷ mark (codes "++") ∷ mark (codes ")") ∷ braces

-- for ( int x = 1 ; x < 1 ; x ++ ) { }
abbrev pub looped : List Token
looped = word (codes "for") ∷ mark (codes "(") ∷ word (codes "int") ∷ counted

-- void x ( void ) { for .. }
abbrev pub function : List Token
function =
    word (codes "void") ∷ letter ∷ mark (codes "(") ∷ word (codes "void") ∷ mark (codes ")") ∷ mark (codes "{") ∷ (looped ++ mark (codes "}") ∷ [])

-- tokens that are read as the symbol
abbrev pub filler : Symbol → List Token
filler (OfKind kind) = empty kind 0 ∷ []
filler (TheWord s) = word s ∷ []
filler (TheMark s) = mark s ∷ []
filler Name = letter ∷ []
filler Digits = digit ∷ []
filler (Expression depth) = digit ∷ []
filler (Chosen depth) = []
filler (Operators level depth) = digit ∷ []
filler (Further level depth) = []
filler (Bracketed place depth) = digit ∷ mark (codes ")") ∷ []
filler (CastOperand place depth) = digit ∷ []
filler (Indices most depth) = []
filler (Declared depth) = valued
filler (MoreDeclared depth) = mark (codes ";") ∷ []
filler (Statement depth) = braces
filler (Plain depth) = braces
filler (Else depth) = []
filler (Assigned place depth) = mark (codes "++") ∷ mark (codes ";") ∷ []
filler (Statements depth) = mark (codes "}") ∷ []
filler (Nested depth) = mark (codes "}") ∷ []
filler Body = looped ++ mark (codes "}") ∷ []
filler (Looped depth) = looped
filler (Counter depth) = counted
filler CounterType = word (codes "int") ∷ []
filler Relation = mark (codes "<") ∷ []
filler (Stepped depth) = mark (codes "++") ∷ []
filler (Inside depth) = braces
filler Declarator = letter ∷ index
filler Dimensions = index
filler MoreDeclarators = mark (codes ";") ∷ []
filler Tabled = word (codes "int") ∷ letter ∷ (index ++ tabled 0)
filler TableName = letter ∷ (index ++ tabled 0)
filler TableDimensions = index ++ tabled 0
filler (MoreTable dimensions) = tabled dimensions
filler (Braced more) = mark (codes "{") ∷ rows more
filler MoreValues = mark (codes "}") ∷ []
filler (MoreRows more) = mark (codes "}") ∷ []
filler Enumerator = valued
filler MoreEnumerators = mark (codes "}") ∷ mark (codes ";") ∷ []
filler Defined = letter ∷ digit ∷ empty kinds.LineEnd 0 ∷ []
filler (DefinedValue end) = digit ∷ []
filler Declaration = word (codes "int") ∷ letter ∷ (index ++ mark (codes ";") ∷ [])
filler Declarations = function
filler File = empty kinds.Cgra 0 ∷ empty kinds.LineEnd 0 ∷ function
filler TextEnds = []

abbrev pub fillers : List Symbol → List Token
fillers [] = []
fillers (s ∷ ss) = filler s ++ fillers ss

-- ---- symbols

-- a token before which whatever was begun may end
abbrev pub calm : Token → Bool
calm t = not (is_the_mark (codes "?") t) && (not (is_the_mark (codes "[") t) && (not (is_the_word (codes "else") t) && not (is_some (binary_of t))))

abbrev pub calm_first : List Token → Bool
calm_first [] = true
calm_first (u ∷ w) = calm u

-- some tokens are read as the symbol, whatever comes later
abbrev pub fit : Symbol → Bool
fit (OfKind kind) = is_kind kind kind
fit (Further zero depth) = false
fit TextEnds = false
fit _ = true

-- read as one token, whatever token is next
abbrev pub single : Symbol → Bool
single (OfKind kind) = true
single (TheWord s) = true
single (TheMark s) = true
single Name = true
single Digits = true
single CounterType = true
single Relation = true
single _ = false

-- read as no token, where the next token is calm
abbrev pub nullable : Symbol → Bool
nullable (Chosen depth) = true
nullable (Further level depth) = true
nullable (Indices most depth) = true
nullable (Else depth) = true
nullable _ = false

-- the next token lets the symbol end
abbrev pub ready : Symbol → Token → Bool
ready s t = single s || calm t

abbrev pub is_none : List Symbol → Bool
is_none [] = true
is_none (s ∷ ss) = false

abbrev pub ready_all : List Symbol → Token → Bool
ready_all ss t = is_none ss || calm t

-- each symbol is fit, and may end before what fills the next ones
abbrev pub good : List Symbol → Bool
good [] = true
good (s ∷ ss) = fit s && ((single s || calm_first (fillers ss)) && good ss)

-- some token is read as the first of the symbols
abbrev pub solid : List Symbol → Bool
solid [] = false
solid (s ∷ ss) = not (nullable s)

-- what each line of a fit symbol is: its symbols are good; one that is taken by a single symbol has none; one that begins
-- without a token is that of a symbol that may be read as none, or its first symbol may not
abbrev pub fine : {s : Symbol} → Step Value s → Bool
fine {s} (Takes line) = (not (single s) || is_none line.symbols) && good line.symbols
fine {s} (Begins line) = not (single s) && ((nullable s || solid line.symbols) && good line.symbols)
fine {s} Stops = true
