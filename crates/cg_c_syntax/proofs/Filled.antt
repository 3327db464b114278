-- The tokens of a fit symbol are read as it.
use Rattle.std.proofs.Common.{◌≡◌, ℕ, zero, suc, List, [], ◌∷◌, Bool, true, false, refl, ap}
use Rattle.std.specs.Prelude.{◌&&◌, not, codes, bytes_eq, nat_lt}
use Rattle.std.proofs.lemmas.Slice.Eq.{bytes_eq-Decides}
use Rattle.cg_c_syntax.specs.declared.token.Kind.{Kind}
use Rattle.cg_c_syntax.specs.declared.token.Kind.TheVariants.{LineEnd}
use Rattle.cg_c_syntax.specs.Words.{is_the_mark, cast_called, is_language_word, change_called}
use Rattle.cg_c_syntax.specs.Symbols.{Symbol, OfKind, TheWord, TheMark, Name, Digits, Expression, Chosen, Operators, Further, Bracketed, CastOperand, Indices, Declared, MoreDeclared, Statement, Plain, Else, Assigned, Statements, Nested, Body, Looped, Counter, CounterType, Relation, Stepped, Inside, Declarator, Dimensions, MoreDeclarators, Tabled, TableName, TableDimensions, MoreTable, Braced, MoreValues, MoreRows, Enumerator, MoreEnumerators, Defined, DefinedValue, Declaration, Declarations, File, TextEnds}
use Rattle.cg_c_syntax.specs.Grammar.{token}
use Rattle.cg_c_syntax.specs.Reading as reading
use Rattle.cg_c_syntax.proofs.Fillers.{mark, filler, fit, good}
use Rattle.cg_c_syntax.proofs.Calm.{skip, stands, good_first, good_rest}
use Rattle.cg_c_syntax.proofs.Completed.{Filled, FilledAll, extended, by_takes, by_begins}

-- ---- single tokens

is_same : (xs : List ℕ) → bytes_eq xs xs ≡ true
is_same xs = (bytes_eq-Decides xs xs).1 refl

of_kind : (kind : Kind) → fit (OfKind kind) ≡ true → Filled (OfKind kind)
of_kind kind f t r = by_takes (OfKind kind) t f (ap (λ (b : Bool). token {s = OfKind kind} b tt) f) refl tt r

the_word : (s : List ℕ) → Filled (TheWord s)
the_word s t r = by_takes (TheWord s) t refl (ap (λ (b : Bool). token {s = TheWord s} b tt) (is_same s)) refl tt r

the_mark : (s : List ℕ) → Filled (TheMark s)
the_mark s t r = by_takes (TheMark s) t refl (ap (λ (b : Bool). token {s = TheMark s} b tt) (is_same s)) refl tt r

name : Filled Name
unfolding cast_called is_language_word
name t r = by_takes Name t refl refl refl tt r

digits : Filled Digits
digits t r = by_takes Digits t refl refl refl tt r

counter_type : Filled CounterType
counter_type t r = by_takes CounterType t refl refl refl tt r

relation : Filled Relation
relation t r = by_takes Relation t refl refl refl tt r

-- ---- expressions

further : (level depth : ℕ) → Filled (Further (suc level) depth)
further level depth t r = stands (Further (suc level) depth) t refl refl r

chosen : (depth : ℕ) → Filled (Chosen depth)
chosen depth t r = stands (Chosen depth) t refl refl r

indices : (most depth : ℕ) → Filled (Indices most depth)
indices most depth t r = stands (Indices most depth) t refl refl r

operators : (level depth : ℕ) → Filled (Operators level depth)
operators zero depth t r = by_takes (Operators zero depth) t refl refl refl tt r
operators (suc level) depth t r = by_begins (Operators (suc level) depth) t refl refl refl (operators level depth, (further level depth, tt)) r

expression : (depth : ℕ) → Filled (Expression depth)
expression depth t r = by_begins (Expression depth) t refl refl refl (operators 10 (suc depth), (chosen (suc depth), tt)) r

bracketed : (place depth : ℕ) → Filled (Bracketed place depth)
bracketed place depth t r = by_begins (Bracketed place depth) t refl refl refl (expression depth, (the_mark (codes ")"), tt)) r

cast_operand : (place depth : ℕ) → Filled (CastOperand place depth)
cast_operand place depth t r = by_begins (CastOperand place depth) t refl refl refl (operators 0 (suc depth), tt) r

-- ---- statements

declared : (depth : ℕ) → Filled (Declared depth)
unfolding cast_called is_language_word
declared depth t r = by_takes (Declared depth) t refl refl refl (the_mark (codes "="), (expression depth, tt)) r

more_declared : (depth : ℕ) → Filled (MoreDeclared depth)
more_declared depth t r = by_takes (MoreDeclared depth) t refl refl refl tt r

statements : (depth : ℕ) → Filled (Statements depth)
statements depth t r = by_takes (Statements depth) t refl refl refl tt r

plain : (depth : ℕ) → Filled (Plain depth)
plain depth t r = by_takes (Plain depth) t refl refl refl (statements (suc depth), tt) r

statement : (depth : ℕ) → Filled (Statement depth)
statement depth t r = by_begins (Statement depth) t refl refl refl (plain depth, tt) r

otherwise : (depth : ℕ) → Filled (Else depth)
otherwise depth t r = stands (Else depth) t refl refl r

assigned : (place depth : ℕ) → Filled (Assigned place depth)
unfolding change_called
assigned place depth t r = by_takes (Assigned place depth) t refl refl refl (the_mark (codes ";"), tt) r

-- ---- loops

nested : (depth : ℕ) → Filled (Nested depth)
nested depth t r = by_takes (Nested depth) t refl refl refl tt r

inside : (depth : ℕ) → Filled (Inside depth)
inside depth t r = by_takes (Inside depth) t refl refl refl (nested depth, tt) r

stepped : (depth : ℕ) → Filled (Stepped depth)
stepped depth t r = by_takes (Stepped depth) t refl refl refl tt r

counter : (depth : ℕ) → Filled (Counter depth)
unfolding cast_called is_language_word
counter depth t r =
    by_takes (Counter depth) t refl refl refl
    (the_mark (codes "="), (expression depth, (the_mark (codes ";"), (the_word (codes "x"), (relation, (operators 3 depth, (the_mark (codes ";"), (the_word (codes "x"), (stepped depth, (the_mark (codes ")"), (inside depth, tt)))))))))))
    r

looped : (depth : ℕ) → Filled (Looped depth)
looped depth t r = by_takes (Looped depth) t refl refl refl (the_mark (codes "("), (counter_type, (counter (suc depth), tt))) r

body : Filled Body
body t r = by_begins Body t refl refl refl (looped 0, (statements 0, tt)) r

-- ---- declarations

dimensions : Filled Dimensions
dimensions t r = by_takes Dimensions t refl refl refl (expression 0, (the_mark (codes "]"), (indices 2 0, tt))) r

declarator : Filled Declarator
unfolding cast_called is_language_word
declarator t r = by_takes Declarator t refl refl refl (dimensions, tt) r

more_declarators : Filled MoreDeclarators
more_declarators t r = by_takes MoreDeclarators t refl refl refl tt r

more_values : Filled MoreValues
more_values t r = by_takes MoreValues t refl refl refl tt r

more_rows : (more : ℕ) → Filled (MoreRows more)
more_rows more t r = by_takes (MoreRows more) t refl refl refl tt r

braced : (more : ℕ) → Filled (Braced more)
braced zero t r = by_takes (Braced zero) t refl refl refl (expression 0, (more_values, tt)) r
braced (suc more) t r = by_takes (Braced (suc more)) t refl refl refl (braced more, (more_rows more, tt)) r

not_both : (b : Bool) → not (b && false) ≡ true
not_both true = refl
not_both false = refl

more_table : (more : ℕ) → Filled (MoreTable more)
more_table more t r =
    by_takes (MoreTable more) t refl (skip (nat_lt more 2 && is_the_mark (codes "[") (mark (codes "="))) _ _ (not_both (nat_lt more 2))) refl (braced more, (the_mark (codes ";"), tt)) r

table_dimensions : Filled TableDimensions
table_dimensions t r = by_takes TableDimensions t refl refl refl (expression 0, (the_mark (codes "]"), (more_table 0, tt))) r

table_name : Filled TableName
unfolding cast_called is_language_word
table_name t r = by_takes TableName t refl refl refl (table_dimensions, tt) r

tabled : Filled Tabled
unfolding cast_called
tabled t r = by_takes Tabled t refl refl refl (table_name, tt) r

enumerator : Filled Enumerator
unfolding cast_called is_language_word
enumerator t r = by_takes Enumerator t refl refl refl (the_mark (codes "="), (expression 0, tt)) r

more_enumerators : Filled MoreEnumerators
more_enumerators t r = by_takes MoreEnumerators t refl refl refl (the_mark (codes ";"), tt) r

defined_value : (end : ℕ) → Filled (DefinedValue end)
defined_value end t r = by_takes (DefinedValue end) t refl refl refl tt r

defined : Filled Defined
unfolding cast_called is_language_word
defined t r = by_takes Defined t refl refl refl (defined_value 1, (of_kind LineEnd refl, tt)) r

declaration : Filled Declaration
unfolding cast_called
declaration t r = by_takes Declaration t refl refl refl (declarator, (more_declarators, tt)) r

declarations : Filled Declarations
declarations t r =
    by_takes Declarations t refl refl refl
    (name, (the_mark (codes "("), (the_word (codes "void"), (the_mark (codes ")"), (the_mark (codes "{"), (body, tt))))))
    r

file : Filled File
file t r = by_takes File t refl refl refl (of_kind LineEnd refl, (declarations, tt)) r

-- ---- all symbols

pub filled : (s : Symbol) → fit s ≡ true → Filled s
filled (OfKind kind) f = of_kind kind f
filled (TheWord s) f = the_word s
filled (TheMark s) f = the_mark s
filled Name f = name
filled Digits f = digits
filled (Expression depth) f = expression depth
filled (Chosen depth) f = chosen depth
filled (Operators level depth) f = operators level depth
filled (Further zero depth) f = let bad : false ≡ true = f in cc
filled (Further (suc level) depth) f = further level depth
filled (Bracketed place depth) f = bracketed place depth
filled (CastOperand place depth) f = cast_operand place depth
filled (Indices most depth) f = indices most depth
filled (Declared depth) f = declared depth
filled (MoreDeclared depth) f = more_declared depth
filled (Statement depth) f = statement depth
filled (Plain depth) f = plain depth
filled (Else depth) f = otherwise depth
filled (Assigned place depth) f = assigned place depth
filled (Statements depth) f = statements depth
filled (Nested depth) f = nested depth
filled Body f = body
filled (Looped depth) f = looped depth
filled (Counter depth) f = counter depth
filled CounterType f = counter_type
filled Relation f = relation
filled (Stepped depth) f = stepped depth
filled (Inside depth) f = inside depth
filled Declarator f = declarator
filled Dimensions f = dimensions
filled MoreDeclarators f = more_declarators
filled Tabled f = tabled
filled TableName f = table_name
filled TableDimensions f = table_dimensions
filled (MoreTable more) f = more_table more
filled (Braced more) f = braced more
filled MoreValues f = more_values
filled (MoreRows more) f = more_rows more
filled Enumerator f = enumerator
filled MoreEnumerators f = more_enumerators
filled Defined f = defined
filled (DefinedValue end) f = defined_value end
filled Declaration f = declaration
filled Declarations f = declarations
filled File f = file
filled TextEnds f = let bad : false ≡ true = f in cc

pub filled_all : (ss : List Symbol) → good ss ≡ true → FilledAll ss
filled_all [] g t r = (tt, reading.none)
filled_all (s ∷ ss) g t r = extended s ss (filler s) g (filled s (good_first s ss g)) (filled_all ss (good_rest s ss g)) t r
