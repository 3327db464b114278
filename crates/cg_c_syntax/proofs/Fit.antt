-- Each line of a fit symbol is good.
use Rattle.std.proofs.Common.{◌≡◌, ℕ, zero, suc, Option, Some, None, Bool, true, false, refl}
use Rattle.std.specs.Prelude.{◌&&◌, if◌then◌else◌, nat_lt, not, codes, ◌==◌}
use Rattle.cg_c_syntax.specs.declared.token.Kind.{Kind}
use Rattle.cg_c_syntax.specs.declared.token.Kind.TheVariants as kinds
use Rattle.cg_c_syntax.specs.declared.expression.Binary.{Binary}
use Rattle.cg_c_syntax.specs.declared.expression.Cast.{Cast}
use Rattle.cg_c_syntax.specs.declared.opening.Opening.{Opening}
use Rattle.cg_c_syntax.specs.declared.opening.Opening.TheVariants as openings
use Rattle.cg_c_syntax.specs.declared.opening.Beginning.{Beginning}
use Rattle.cg_c_syntax.specs.declared.opening.Beginning.TheVariants as beginnings
use Rattle.cg_c_syntax.specs.declared.opening.Change.{Change}
use Rattle.cg_c_syntax.specs.declared.opening.Change.TheVariants as changes
use Rattle.cg_c_syntax.specs.declared.statement.Signedness.{Signedness}
use Rattle.cg_c_syntax.specs.Tokens.{Token}
use Rattle.cg_c_syntax.specs.Words.{is_the_word, is_the_mark, is_name, is_number, cast_of, signedness_of, is_counter_type, is_define, binary_of, at_level, opening_of, beginning_of, change_of, binary_called, computing_called, arithmetic_called, bitwise_called, comparison_called, logical_called}
use Rattle.cg_c_syntax.specs.Symbols.{Symbol, OfKind, TheWord, TheMark, Name, Digits, Expression, Chosen, Operators, Further, Bracketed, CastOperand, Indices, Declared, MoreDeclared, Statement, Plain, Else, Assigned, Statements, Nested, Body, Looped, Counter, CounterType, Relation, Stepped, Inside, Declarator, Dimensions, MoreDeclarators, Tabled, TableName, TableDimensions, MoreTable, Braced, MoreValues, MoreRows, Enumerator, MoreEnumerators, Defined, DefinedValue, Declaration, Declarations, File, TextEnds, Value}
use Rattle.cg_c_syntax.specs.Reading.{Step}
use Rattle.cg_c_syntax.specs.Grammar.{step, is_kind, operator_step, operand_step, bracketed_step, statement_step, plain_step, assigned_step, row_of, tabled_step, words_step, file_step}
use Rattle.cg_c_syntax.proofs.Fillers.{fine, fit}

either : {s : Symbol} (b : Bool) (x y : Step Value s) → fine x ≡ true → fine y ≡ true → fine (if b then x else y) ≡ true
either true x y p q = p
either false x y p q = q

fine_operator : (level depth place : ℕ) (op : Option Binary) → fine (operator_step level depth place op) ≡ true
fine_operator zero depth place op = refl
fine_operator (suc level) depth place (Some op) = refl
fine_operator (suc level) depth place None = refl

fine_operand : (depth : ℕ) (t : Token) (opening : Opening) → fine (operand_step depth t opening) ≡ true
unfolding binary_called computing_called arithmetic_called bitwise_called comparison_called logical_called
fine_operand depth t (openings.Sign sign) = refl
fine_operand depth t openings.Bracket = refl
fine_operand depth t openings.Number = refl
fine_operand depth t openings.Name = refl
fine_operand depth t openings.Input = refl
fine_operand depth t (openings.Pick pick) = refl
fine_operand depth t openings.Nothing = refl

fine_bracketed : (place depth : ℕ) (cast : Option Cast) → fine (bracketed_step place depth cast) ≡ true
unfolding binary_called computing_called arithmetic_called bitwise_called comparison_called logical_called
fine_bracketed place depth (Some cast) = refl
fine_bracketed place depth None = refl

fine_statement : (depth : ℕ) (signedness : Option Signedness) → fine (statement_step depth signedness) ≡ true
unfolding binary_called computing_called arithmetic_called bitwise_called comparison_called logical_called
fine_statement depth (Some signedness) = refl
fine_statement depth None = refl

fine_plain : (depth : ℕ) (t : Token) (beginning : Beginning) → fine (plain_step depth t beginning) ≡ true
unfolding binary_called computing_called arithmetic_called bitwise_called comparison_called logical_called
fine_plain depth t beginnings.Block = refl
fine_plain depth t beginnings.If = refl
fine_plain depth t beginnings.Output = refl
fine_plain depth t beginnings.Name = refl
fine_plain depth t beginnings.Nothing = refl

fine_assigned : (place depth : ℕ) (change : Option Change) → fine (assigned_step place depth change) ≡ true
unfolding binary_called computing_called arithmetic_called bitwise_called comparison_called logical_called
fine_assigned place depth (Some (changes.Step op)) = refl
fine_assigned place depth (Some (changes.Set op)) = refl
fine_assigned place depth None = refl

fine_row : (more place : ℕ) → fine (row_of more place) ≡ true
unfolding binary_called computing_called arithmetic_called bitwise_called comparison_called logical_called
fine_row zero place = refl
fine_row (suc more) place = refl

fine_tabled : (signedness : Option Signedness) → fine (tabled_step signedness) ≡ true
fine_tabled (Some signedness) = refl
fine_tabled None = refl

fine_words : (t : Token) (signedness : Option Signedness) → fine (words_step t signedness) ≡ true
unfolding binary_called computing_called arithmetic_called bitwise_called comparison_called logical_called
fine_words t (Some signedness) = refl
fine_words t None = refl

fine_file : (kind : Kind) → fine (file_step kind) ≡ true
fine_file kinds.Word = refl
fine_file kinds.Number = refl
fine_file kinds.Mark = refl
fine_file kinds.Stdint = refl
fine_file kinds.Cgra = refl
fine_file kinds.Define = refl
fine_file kinds.LineEnd = refl
fine_file kinds.TextEnd = refl
fine_file kinds.Stray = refl

pub fine_step : (s : Symbol) (t : Token) → fit s ≡ true → fine (step s t) ≡ true
unfolding binary_called computing_called arithmetic_called bitwise_called comparison_called logical_called
fine_step (OfKind kind) t f = either (is_kind kind t.kind) _ _ refl refl
fine_step (TheWord s) t f = either (is_the_word s t) _ _ refl refl
fine_step (TheMark s) t f = either (is_the_mark s t) _ _ refl refl
fine_step Name t f = either (is_name t) _ _ refl refl
fine_step Digits t f = either (is_number t.kind) _ _ refl refl
fine_step (Expression depth) t f = refl
fine_step (Chosen depth) t f = either (is_the_mark (codes "?") t) _ _ refl refl
fine_step (Operators zero depth) t f = fine_operand depth t (opening_of t)
fine_step (Operators (suc level) depth) t f = refl
fine_step (Further level depth) t f = fine_operator level depth t.place (at_level level (binary_of t))
fine_step (Bracketed place depth) t f = fine_bracketed place depth (cast_of t)
fine_step (CastOperand place depth) t f = refl
fine_step (Indices zero depth) t f = refl
fine_step (Indices (suc most) depth) t f = either (is_the_mark (codes "[") t) _ _ refl refl
fine_step (Declared depth) t f = either (is_name t) _ _ refl refl
fine_step (MoreDeclared depth) t f = either (is_the_mark (codes ",") t) _ _ refl (either (is_the_mark (codes ";") t) _ _ refl refl)
fine_step (Statement depth) t f = fine_statement depth (signedness_of t)
fine_step (Plain depth) t f = fine_plain depth t (beginning_of t)
fine_step (Else depth) t f = either (is_the_word (codes "else") t) _ _ refl refl
fine_step (Assigned place depth) t f = fine_assigned place depth (change_of t)
fine_step (Statements depth) t f = either (is_the_mark (codes "}") t) _ _ refl refl
fine_step (Nested depth) t f = either (is_the_mark (codes "}") t) _ _ refl (either (is_the_word (codes "for") t) _ _ refl refl)
fine_step Body t f = either (is_the_word (codes "for") t) _ _ refl refl
fine_step (Looped depth) t f = either (is_the_word (codes "for") t) _ _ refl refl
fine_step (Counter depth) t f = either (is_name t) _ _ refl refl
fine_step CounterType t f = either (is_counter_type t) _ _ refl refl
fine_step Relation t f = either (is_the_mark (codes "<") t) _ _ refl (either (is_the_mark (codes "<=") t) _ _ refl refl)
fine_step (Stepped depth) t f = either (is_the_mark (codes "++") t) _ _ refl (either (is_the_mark (codes "+=") t) _ _ refl refl)
fine_step (Inside depth) t f = either (is_the_mark (codes "{") t) _ _ refl (either (is_the_word (codes "for") t) _ _ refl refl)
fine_step Declarator t f = either (is_name t) _ _ refl refl
fine_step Dimensions t f = either (is_the_mark (codes "[") t) _ _ refl refl
fine_step MoreDeclarators t f = either (is_the_mark (codes ",") t) _ _ refl (either (is_the_mark (codes ";") t) _ _ refl refl)
fine_step Tabled t f = fine_tabled (signedness_of t)
fine_step TableName t f = either (is_name t) _ _ refl refl
fine_step TableDimensions t f = either (is_the_mark (codes "[") t) _ _ refl refl
fine_step (MoreTable dimensions) t f = either (nat_lt dimensions 2 && is_the_mark (codes "[") t) _ _ refl (either (is_the_mark (codes "=") t) _ _ refl refl)
fine_step (Braced more) t f = either (is_the_mark (codes "{") t) _ _ (fine_row more t.place) refl
fine_step MoreValues t f = either (is_the_mark (codes ",") t) _ _ refl (either (is_the_mark (codes "}") t) _ _ refl refl)
fine_step (MoreRows more) t f = either (is_the_mark (codes ",") t) _ _ refl (either (is_the_mark (codes "}") t) _ _ refl refl)
fine_step Enumerator t f = either (is_name t) _ _ refl refl
fine_step MoreEnumerators t f = either (is_the_mark (codes ",") t) _ _ refl (either (is_the_mark (codes "}") t) _ _ refl refl)
fine_step Defined t f = either (is_name t) _ _ refl refl
fine_step (DefinedValue end) t f = either (is_number t.kind) _ _ refl (either (is_the_mark (codes "(") t && not (t.place == end)) _ _ refl refl)
fine_step Declaration t f =
    either (is_define t.kind) _ _ refl
    (either (is_the_word (codes "enum") t) _ _ refl
    (either (is_the_word (codes "static") t) _ _ refl (either (is_the_word (codes "const") t) _ _ refl (fine_words t (signedness_of t)))))
fine_step Declarations t f = either (is_the_word (codes "void") t) _ _ refl refl
fine_step File t f = fine_file t.kind
fine_step TextEnds t f = let bad : false ≡ true = f in cc
