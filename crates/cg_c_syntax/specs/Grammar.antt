-- The grammar: what each symbol does at the next token.
use Rattle.std.specs.Prelude.{ℕ, zero, suc, ◌+◌, nat_le, nat_lt, Bool, true, false, ◌&&◌, ◌==◌, not, codes, if◌then◌else◌, List, [], ◌∷◌, Option, Some, None}
use Rattle.cg_c_syntax.specs.declared.token.Kind.{Kind}
use Rattle.cg_c_syntax.specs.declared.token.Kind.TheVariants as kinds
use Rattle.cg_c_syntax.specs.declared.expression.Binary.{Binary}
use Rattle.cg_c_syntax.specs.declared.expression.Cast.{Cast}
use Rattle.cg_c_syntax.specs.declared.opening.Opening.{Opening}
use Rattle.cg_c_syntax.specs.declared.opening.Opening.TheVariants as openings
use Rattle.cg_c_syntax.specs.declared.opening.Beginning.{Beginning}
use Rattle.cg_c_syntax.specs.declared.opening.Beginning.TheVariants as beginnings
use Rattle.cg_c_syntax.specs.declared.opening.Change.{Change}
use Rattle.cg_c_syntax.specs.declared.opening.Change.TheVariants as changes
use Rattle.cg_c_syntax.specs.declared.expression.Sign.TheVariants.{Minus}
use Rattle.cg_c_syntax.specs.declared.statement.Signedness.{Signedness}
use Rattle.cg_c_syntax.specs.Tokens.{Token, end_of}
use Rattle.cg_c_syntax.specs.Tree.{Number, Expr, Num, Access, Signed, Converted, Input, Picked, Two, Choice, Stmt, Words, Block, If, IfElse, Output, Assign, For, Global, Define, Enumeration, Arrays, Constants, Source, Nest, Bare, Holds, NoExprs, MoreExprs, NoStmts, MoreStmts, Items, Inner, NoRows, OneMore}
use Rattle.cg_c_syntax.specs.Words.{is_the_word, is_the_mark, is_name, named, is_number, number_of, cast_of, signedness_of, is_counter_type, is_define, binary_of, at_level, opening_of, beginning_of, change_of}
use Rattle.cg_c_syntax.specs.Symbols.{Symbol, OfKind, TheWord, TheMark, Name, Digits, Expression, Chosen, Operators, Further, Bracketed, CastOperand, Indices, Declared, MoreDeclared, Statement, Plain, Else, Assigned, Statements, Nested, Body, Looped, Counter, CounterType, Relation, Stepped, Inside, Declarator, Dimensions, MoreDeclarators, Tabled, TableName, TableDimensions, MoreTable, Braced, MoreValues, MoreRows, Enumerator, MoreEnumerators, Defined, DefinedValue, Declaration, Declarations, File, TextEnds, DimensionsAndRows, Value}
use Rattle.cg_c_syntax.specs.Reading.{Values, Step, Takes, Begins, Stops}

-- the greatest number of constructs that may be open at once
abbrev pub most_open : ℕ
most_open = 60

-- ---- lines

-- the token is taken, and these symbols follow
abbrev pub takes : {s : Symbol} (symbols : List Symbol) → (Values Value symbols → Value s) → Step Value s
takes symbols value = Takes (record { symbols = symbols; value = value })

-- these symbols stand for the symbol
abbrev pub begins : {s : Symbol} (symbols : List Symbol) → (Values Value symbols → Value s) → Step Value s
begins symbols value = Begins (record { symbols = symbols; value = value })

-- a token that is taken alone, if it passes
abbrev pub token : {s : Symbol} → Bool → Value s → Step Value s
token passes v = if passes then takes [] (λ _. v) else Stops

-- ---- expressions

-- expr: or ["?" expr ":" expr]
abbrev pub expression_step : (depth : ℕ) → Step Value (Expression depth)
expression_step depth = begins (Operators 10 (suc depth) ∷ Chosen (suc depth) ∷ []) (λ v. v.1.0 v.0)

abbrev pub chosen_step : (depth : ℕ) → Token → Step Value (Chosen depth)
chosen_step depth t =
    if is_the_mark (codes "?") t then takes (Expression depth ∷ TheMark (codes ":") ∷ Expression depth ∷ []) (λ v. λ condition. Choice t.place condition v.0 v.1.1.0)
    else begins [] (λ v. λ e. e)

-- an operator of the level and its right operand, and further ones; the left operand comes before them
abbrev pub operator_step : (level depth place : ℕ) → Option Binary → Step Value (Further level depth)
operator_step zero depth place op = Stops
operator_step (suc level) depth place (Some op) = takes (Operators level depth ∷ Further (suc level) depth ∷ []) (λ v. λ left. v.1.0 (Two op place left v.0))
operator_step (suc level) depth place None = begins [] (λ v. λ e. e)

-- an operand
abbrev pub operand_step : (depth : ℕ) → Token → Opening → Step Value (Operators 0 depth)
operand_step depth t (openings.Sign sign) = takes (Operators 0 (suc depth) ∷ []) (λ v. Signed sign t.place v.0)
operand_step depth t openings.Bracket = takes (Bracketed t.place depth ∷ []) (λ v. v.0)
operand_step depth t openings.Number = takes [] (λ v. Num (number_of t))
operand_step depth t openings.Name = takes (Indices 3 depth ∷ []) (λ v. Access (named t) v.0)
operand_step depth t openings.Input = takes (TheMark (codes "(") ∷ Expression depth ∷ TheMark (codes ")") ∷ []) (λ v. Input t.place v.1.0)
operand_step depth t (openings.Pick pick) =
    takes (TheMark (codes "(") ∷ Expression depth ∷ TheMark (codes ",") ∷ Expression depth ∷ TheMark (codes ")") ∷ []) (λ v. Picked pick t.place v.1.0 v.1.1.1.0)
operand_step depth t openings.Nothing = Stops

-- an operand, or operators of a level over operands of the one below
abbrev pub operators_step : (level depth : ℕ) → Token → Step Value (Operators level depth)
operators_step zero depth t = operand_step depth t (opening_of t)
operators_step (suc level) depth t = begins (Operators level depth ∷ Further (suc level) depth ∷ []) (λ v. v.1.0 v.0)

-- after (: a cast, or an expression
abbrev pub bracketed_step : (place depth : ℕ) → Option Cast → Step Value (Bracketed place depth)
bracketed_step place depth (Some cast) = takes (TheMark (codes ")") ∷ CastOperand place depth ∷ []) (λ v. Converted cast place v.1.0)
bracketed_step place depth None = begins (Expression depth ∷ TheMark (codes ")") ∷ []) (λ v. v.0)

abbrev pub indices_step : (most depth : ℕ) → Token → Step Value (Indices most depth)
indices_step zero depth t = begins [] (λ v. NoExprs)
indices_step (suc most) depth t =
    if is_the_mark (codes "[") t then takes (Expression depth ∷ TheMark (codes "]") ∷ Indices most depth ∷ []) (λ v. MoreExprs v.0 v.1.1.0) else begins [] (λ v. NoExprs)

-- ---- statements

-- NAME "=" expr
abbrev pub declared_step : (depth : ℕ) → Token → Step Value (Declared depth)
declared_step depth t = if is_name t then takes (TheMark (codes "=") ∷ Expression depth ∷ []) (λ v. record { name = named t; value = v.1.0 }) else Stops

-- "," and another, or ";"
abbrev pub more_declared_step : (depth : ℕ) → Token → Step Value (MoreDeclared depth)
more_declared_step depth t =
    if is_the_mark (codes ",") t then takes (Declared depth ∷ MoreDeclared depth ∷ []) (λ v. v.0 ∷ v.1.0) else token (is_the_mark (codes ";") t) []

-- a declaration of words, or plain
abbrev pub statement_step : (depth : ℕ) → Option Signedness → Step Value (Statement depth)
statement_step depth (Some signedness) = takes (Declared depth ∷ MoreDeclared depth ∷ []) (λ v. Words signedness (v.0 ∷ v.1.0))
statement_step depth None = begins (Plain depth ∷ []) (λ v. v.0)

abbrev pub if_of : Expr → Stmt → Option Stmt → Stmt
if_of condition chosen None = If condition chosen
if_of condition chosen (Some other) = IfElse condition chosen other

-- plain: a block, if, out, or an assignment
abbrev pub plain_step : (depth : ℕ) → Token → Beginning → Step Value (Plain depth)
plain_step depth t beginnings.Block = takes (Statements (suc depth) ∷ []) (λ v. Block v.0)
plain_step depth t beginnings.If =
    takes (TheMark (codes "(") ∷ Expression (suc depth) ∷ TheMark (codes ")") ∷ Plain (suc depth) ∷ Else (suc depth) ∷ []) (λ v. if_of v.1.0 v.1.1.1.0 v.1.1.1.1.0)
plain_step depth t beginnings.Output =
    takes (TheMark (codes "(") ∷ Expression depth ∷ TheMark (codes ",") ∷ Expression depth ∷ TheMark (codes ")") ∷ TheMark (codes ";") ∷ []) (λ v. Output v.1.0 v.1.1.1.0)
plain_step depth t beginnings.Name =
    takes (Indices 3 depth ∷ Assigned t.place depth ∷ []) (λ v. Assign (record { name = named t; indices = v.0 }) v.1.0.op v.1.0.value)
plain_step depth t beginnings.Nothing = Stops

abbrev pub else_step : (depth : ℕ) → Token → Step Value (Else depth)
else_step depth t = if is_the_word (codes "else") t then takes (Plain depth ∷ []) (λ v. Some v.0) else begins [] (λ v. None)

-- the number that ++ and -- add and subtract
abbrev pub unit : ℕ → Expr
unit place = Num (record { value = 1; hexadecimal = false; unsigned = false; place = place })

abbrev pub assigned_step : (place depth : ℕ) → Option Change → Step Value (Assigned place depth)
assigned_step place depth (Some (changes.Step op)) = takes (TheMark (codes ";") ∷ []) (λ v. record { op = Some op; value = unit place })
assigned_step place depth (Some (changes.Set op)) = takes (Expression depth ∷ TheMark (codes ";") ∷ []) (λ v. record { op = op; value = v.0 })
assigned_step place depth None = Stops

-- statements up to the }
abbrev pub statements_step : (depth : ℕ) → Token → Step Value (Statements depth)
statements_step depth t =
    if is_the_mark (codes "}") t then takes [] (λ v. NoStmts) else begins (Statement depth ∷ Statements depth ∷ []) (λ v. MoreStmts v.0 v.1.0)

-- ---- loops

-- one more statement before a loop, if there is one
abbrev pub preceded : Stmt → Nest → Nest
preceded s (Bare rest) = Bare (MoreStmts s rest)
preceded s (Holds before inner after) = Holds (MoreStmts s before) inner after

-- statements up to the }, with a loop among them or without
abbrev pub nested_step : (depth : ℕ) → Token → Step Value (Nested depth)
nested_step depth t =
    if is_the_mark (codes "}") t then takes [] (λ v. Bare NoStmts)
    else (if is_the_word (codes "for") t then begins (Looped depth ∷ Statements depth ∷ []) (λ v. Holds NoStmts v.0 v.1.0)
    else begins (Statement depth ∷ Nested depth ∷ []) (λ v. preceded v.0 v.1.0))

-- statements up to the }, with a loop among them
abbrev pub body_step : Token → Step Value Body
body_step t =
    if is_the_word (codes "for") t then begins (Looped 0 ∷ Statements 0 ∷ []) (λ v. record { before = NoStmts; outer = v.0; after = v.1.0 })
    else begins (Statement 0 ∷ Body ∷ []) (λ v. record { before = MoreStmts v.0 v.1.0.before; outer = v.1.0.outer; after = v.1.0.after })

abbrev pub looped_step : (depth : ℕ) → Token → Step Value (Looped depth)
looped_step depth t =
    if is_the_word (codes "for") t then takes (TheMark (codes "(") ∷ CounterType ∷ Counter (suc depth) ∷ []) (λ v. For t.place v.1.1.0.head v.1.1.0.body) else Stops

-- the head from the counter's name on, which stands in it three times, and what the loop repeats
abbrev pub counter_step : (depth : ℕ) → Token → Step Value (Counter depth)
counter_step depth t =
    if is_name t then
    takes
    (TheMark (codes "=") ∷ Expression depth ∷ TheMark (codes ";") ∷ TheWord t.text ∷ Relation ∷ Operators 3 depth ∷ TheMark (codes ";") ∷ TheWord t.text ∷ Stepped depth ∷ TheMark (codes ")") ∷ Inside depth ∷ [])
    (λ v. record {
      head = record { counter = named t; start = v.1.0; inclusive = v.1.1.1.1.0; bound = v.1.1.1.1.1.0; step = v.1.1.1.1.1.1.1.1.0 };
      body = v.1.1.1.1.1.1.1.1.1.1.0;
    })
    else Stops

abbrev pub relation_step : Token → Step Value Relation
relation_step t = if is_the_mark (codes "<") t then takes [] (λ v. false) else token (is_the_mark (codes "<=") t) true

abbrev pub stepped_step : (depth : ℕ) → Token → Step Value (Stepped depth)
stepped_step depth t =
    if is_the_mark (codes "++") t then takes [] (λ v. None) else (if is_the_mark (codes "+=") t then takes (Expression depth ∷ []) (λ v. Some v.0) else Stops)

abbrev pub inside_step : (depth : ℕ) → Token → Step Value (Inside depth)
inside_step depth t =
    if is_the_mark (codes "{") t then takes (Nested depth ∷ []) (λ v. v.0)
    else (if is_the_word (codes "for") t then begins (Looped depth ∷ []) (λ v. Holds NoStmts v.0 NoStmts)
    else begins (Plain depth ∷ []) (λ v. Bare (MoreStmts v.0 NoStmts)))

-- ---- declarations

abbrev pub dimensions_step : Token → Step Value Dimensions
dimensions_step t = if is_the_mark (codes "[") t then takes (Expression 0 ∷ TheMark (codes "]") ∷ Indices 2 0 ∷ []) (λ v. MoreExprs v.0 v.1.1.0) else Stops

abbrev pub declarator_step : Token → Step Value Declarator
declarator_step t = if is_name t then takes (Dimensions ∷ []) (λ v. record { name = named t; dimensions = v.0 }) else Stops

abbrev pub more_declarators_step : Token → Step Value MoreDeclarators
more_declarators_step t = if is_the_mark (codes ",") t then takes (Declarator ∷ MoreDeclarators ∷ []) (λ v. v.0 ∷ v.1.0) else token (is_the_mark (codes ";") t) []

-- type array "=" rows ";"
abbrev pub tabled_step : Option Signedness → Step Value Tabled
tabled_step (Some signedness) = takes (TableName ∷ []) (λ v. record { signedness = signedness; array = v.0.array; rows = v.0.rows })
tabled_step None = Stops

abbrev pub table_name_step : Token → Step Value TableName
table_name_step t =
    if is_name t then takes (TableDimensions ∷ []) (λ v. record { array = record { name = named t; dimensions = v.0.dimensions }; rows = v.0.rows }) else Stops

abbrev pub with_dimension : Expr → DimensionsAndRows → DimensionsAndRows
with_dimension e d = record { dimensions = MoreExprs e d.dimensions; rows = d.rows }

abbrev pub table_dimensions_step : Token → Step Value TableDimensions
table_dimensions_step t = if is_the_mark (codes "[") t then takes (Expression 0 ∷ TheMark (codes "]") ∷ MoreTable 0 ∷ []) (λ v. with_dimension v.0 v.1.1.0) else Stops

-- after the first dimension and `dimensions` others, at most two
abbrev pub more_table_step : (dimensions : ℕ) → Token → Step Value (MoreTable dimensions)
more_table_step dimensions t =
    if nat_lt dimensions 2 && is_the_mark (codes "[") t then takes (Expression 0 ∷ TheMark (codes "]") ∷ MoreTable (dimensions + 1) ∷ []) (λ v. with_dimension v.0 v.1.1.0)
    else (if is_the_mark (codes "=") t then takes (Braced dimensions ∷ TheMark (codes ";") ∷ []) (λ v. record { dimensions = NoExprs; rows = v.0 }) else Stops)

-- rows: items of the last dimension, or rows before it
abbrev pub row_of : (more place : ℕ) → Step Value (Braced more)
row_of zero place = takes (Expression 0 ∷ MoreValues ∷ []) (λ v. Items place (MoreExprs v.0 v.1.0))
row_of (suc more) place = takes (Braced more ∷ MoreRows more ∷ []) (λ v. Inner place (OneMore v.0 v.1.0))

abbrev pub braced_step : (more : ℕ) → Token → Step Value (Braced more)
braced_step more t = if is_the_mark (codes "{") t then row_of more t.place else Stops

abbrev pub more_values_step : Token → Step Value MoreValues
more_values_step t = if is_the_mark (codes ",") t then takes (Expression 0 ∷ MoreValues ∷ []) (λ v. MoreExprs v.0 v.1.0) else token (is_the_mark (codes "}") t) NoExprs

abbrev pub more_rows_step : (more : ℕ) → Token → Step Value (MoreRows more)
more_rows_step more t =
    if is_the_mark (codes ",") t then takes (Braced more ∷ MoreRows more ∷ []) (λ v. OneMore v.0 v.1.0) else token (is_the_mark (codes "}") t) NoRows

-- NAME "=" expr
abbrev pub enumerator_step : Token → Step Value Enumerator
enumerator_step t = if is_name t then takes (TheMark (codes "=") ∷ Expression 0 ∷ []) (λ v. record { name = named t; value = v.1.0 }) else Stops

abbrev pub more_enumerators_step : Token → Step Value MoreEnumerators
more_enumerators_step t =
    if is_the_mark (codes ",") t then takes (Enumerator ∷ MoreEnumerators ∷ []) (λ v. v.0 ∷ v.1.0)
    else (if is_the_mark (codes "}") t then takes (TheMark (codes ";") ∷ []) (λ v. []) else Stops)

-- the name of a #define and its value
abbrev pub defined_step : Token → Step Value Defined
defined_step t = if is_name t then takes (DefinedValue (end_of t) ∷ OfKind kinds.LineEnd ∷ []) (λ v. record { name = named t; value = v.0 }) else Stops

abbrev pub minus : Number → Expr
minus n = Signed Minus n.place (Num n)

-- NUMBER or "(" "-" NUMBER ")"; a ( at the end of the name would make a macro with parameters
abbrev pub defined_value_step : (end : ℕ) → Token → Step Value (DefinedValue end)
defined_value_step end t =
    if is_number t.kind then takes [] (λ v. Num (number_of t))
    else (if is_the_mark (codes "(") t && not (t.place == end) then takes (TheMark (codes "-") ∷ Digits ∷ TheMark (codes ")") ∷ []) (λ v. minus v.1.0) else Stops)

-- global, by its first token
abbrev pub words_step : Token → Option Signedness → Step Value Declaration
words_step t (Some signedness) = takes (Declarator ∷ MoreDeclarators ∷ []) (λ v. Arrays signedness (v.0 ∷ v.1.0))
words_step t None = Stops

-- "{" NAME "=" expr {"," NAME "=" expr} "}" ";"
abbrev pub enumeration_step : Step Value Declaration
enumeration_step = takes (TheMark (codes "{") ∷ Enumerator ∷ MoreEnumerators ∷ []) (λ v. Enumeration (v.1.0 ∷ v.1.1.0))

abbrev pub declaration_step : Token → Step Value Declaration
declaration_step t =
    if is_define t.kind then takes (Defined ∷ []) (λ v. Define v.0)
    else (if is_the_word (codes "enum") t then enumeration_step
    else (if is_the_word (codes "static") t then takes (TheWord (codes "const") ∷ Tabled ∷ []) (λ v. Constants v.1.0)
    else (if is_the_word (codes "const") t then takes (Tabled ∷ []) (λ v. Constants v.0) else words_step t (signedness_of t))))

-- {global} "void" NAME "(" "void" ")" "{" {stmt} loop {stmt} "}"
abbrev pub with_global : Global → Source → Source
with_global g s = record s { globals = g ∷ s.globals }

abbrev pub declarations_step : Token → Step Value Declarations
declarations_step t =
    if is_the_word (codes "void") t then
    takes (Name ∷ TheMark (codes "(") ∷ TheWord (codes "void") ∷ TheMark (codes ")") ∷ TheMark (codes "{") ∷ Body ∷ [])
    (λ v. record { globals = []; name = v.0; before = v.1.1.1.1.1.0.before; outer = v.1.1.1.1.1.0.outer; after = v.1.1.1.1.1.0.after })
    else begins (Declaration ∷ Declarations ∷ []) (λ v. with_global v.0 v.1.0)

-- the includes, and the rest
abbrev pub file_step : Kind → Step Value File
file_step kinds.Stdint = takes (OfKind kinds.LineEnd ∷ OfKind kinds.Cgra ∷ OfKind kinds.LineEnd ∷ Declarations ∷ []) (λ v. v.1.1.1.0)
file_step kinds.Cgra = takes (OfKind kinds.LineEnd ∷ Declarations ∷ []) (λ v. v.1.0)
file_step _ = Stops

-- ---- all symbols

abbrev pub is_kind : Kind → Kind → Bool
is_kind kinds.LineEnd kinds.LineEnd = true
is_kind kinds.TextEnd kinds.TextEnd = true
is_kind kinds.Cgra kinds.Cgra = true
is_kind _ _ = false

abbrev pub step : (s : Symbol) → Token → Step Value s
step (OfKind kind) t = token (is_kind kind t.kind) tt
step (TheWord s) t = token (is_the_word s t) tt
step (TheMark s) t = token (is_the_mark s t) tt
step Name t = token (is_name t) (named t)
step Digits t = token (is_number t.kind) (number_of t)
step (Expression depth) t = expression_step depth
step (Chosen depth) t = chosen_step depth t
step (Operators level depth) t = operators_step level depth t
step (Further level depth) t = operator_step level depth t.place (at_level level (binary_of t))
step (Bracketed place depth) t = bracketed_step place depth (cast_of t)
step (CastOperand place depth) t = begins (Operators 0 (suc depth) ∷ []) (λ v. v.0)
step (Indices most depth) t = indices_step most depth t
step (Declared depth) t = declared_step depth t
step (MoreDeclared depth) t = more_declared_step depth t
step (Statement depth) t = statement_step depth (signedness_of t)
step (Plain depth) t = plain_step depth t (beginning_of t)
step (Else depth) t = else_step depth t
step (Assigned place depth) t = assigned_step place depth (change_of t)
step (Statements depth) t = statements_step depth t
step (Nested depth) t = nested_step depth t
step Body t = body_step t
step (Looped depth) t = looped_step depth t
step (Counter depth) t = counter_step depth t
step CounterType t = token (is_counter_type t) tt
step Relation t = relation_step t
step (Stepped depth) t = stepped_step depth t
step (Inside depth) t = inside_step depth t
step Declarator t = declarator_step t
step Dimensions t = dimensions_step t
step MoreDeclarators t = more_declarators_step t
step Tabled t = tabled_step (signedness_of t)
step TableName t = table_name_step t
step TableDimensions t = table_dimensions_step t
step (MoreTable dimensions) t = more_table_step dimensions t
step (Braced more) t = braced_step more t
step MoreValues t = more_values_step t
step (MoreRows more) t = more_rows_step more t
step Enumerator t = enumerator_step t
step MoreEnumerators t = more_enumerators_step t
step Defined t = defined_step t
step (DefinedValue end) t = defined_value_step end t
step Declaration t = declaration_step t
step Declarations t = declarations_step t
step File t = file_step t.kind
step TextEnds t = if is_kind kinds.TextEnd t.kind then begins [] (λ v. tt) else Stops

-- ---- the limit of open constructs

-- the place, if no more may be opened
abbrev pub at_limit : (depth place : ℕ) → Option ℕ
at_limit depth place = if nat_le most_open depth then Some place else None

abbrev pub is_sign : Opening → Bool
is_sign (openings.Sign sign) = true
is_sign _ = false

-- a block or an if
abbrev pub is_counted : Beginning → Bool
is_counted beginnings.Block = true
is_counted beginnings.If = true
is_counted _ = false

-- where a construct would be opened while as many are depth as may be: the place of the construct
abbrev pub barred : Symbol → Token → Option ℕ
barred (Expression depth) t = at_limit depth t.place
barred (Operators zero depth) t = if is_sign (opening_of t) then at_limit depth t.place else None
barred (CastOperand place depth) t = at_limit depth place
barred (Plain depth) t = if is_counted (beginning_of t) then at_limit depth t.place else None
barred (Looped depth) t = if is_the_word (codes "for") t then at_limit depth t.place else None
barred _ t = None
