-- In the source of a text each array has a dimension, and rows are nested as deep as the dimensions of their table.
use Rattle.std.proofs.Common.{◌≡◌, ℕ, zero, suc, ◌+◌, Bool, true, false, List, [], ◌∷◌, Option, Some, None, subst, arith}
use Rattle.std.specs.Prelude.{◌&&◌, nat_lt, codes, if◌then◌else◌}
use Rattle.cg_c_syntax.specs.declared.token.Kind.{Kind}
use Rattle.cg_c_syntax.specs.declared.token.Kind.TheVariants as kinds
use Rattle.cg_c_syntax.specs.declared.statement.Signedness.{Signedness}
use Rattle.cg_c_syntax.specs.Tokens.{Token}
use Rattle.cg_c_syntax.specs.Tree.{Rows}
use Rattle.cg_c_syntax.specs.Words.{is_the_word, is_the_mark, is_name, signedness_of, is_define}
use Rattle.cg_c_syntax.specs.Symbols.{Symbol, Declarator, Dimensions, MoreDeclarators, Tabled, TableName, TableDimensions, MoreTable, Braced, MoreRows, Declaration, Declarations, File, Value}
use Rattle.cg_c_syntax.specs.Reading as reading
use Rattle.cg_c_syntax.specs.Reading.{Values, Step, Takes, Begins, Stops, Reads, ReadsAll}
use Rattle.cg_c_syntax.specs.Grammar.{step, barred, row_of, tabled_step, words_step, file_step}
use Rattle.cg_c_check.specs.Constants.{count}
use Rattle.cg_c_meaning.specs.Typed.{SourcesAreTyped}
use Rattle.cg_c_meaning.proofs.Shaped.{IsDeep, AreDeep, HasDimensions, HasRows, HaveDimensions, IsShaped, AreShaped}
use Rattle.cg_c_meaning.proofs.Whole.{shaped_typed}

-- what is known of the value of a symbol
abbrev pub IsFine : (s : Symbol) → Value s → Type 0
IsFine Declarator v = HasDimensions v.dimensions
IsFine Dimensions v = HasDimensions v
IsFine MoreDeclarators v = HaveDimensions v
IsFine Tabled v = HasRows v.array.dimensions v.rows
IsFine TableName v = HasRows v.array.dimensions v.rows
IsFine TableDimensions v = HasRows v.dimensions v.rows
IsFine (MoreTable dimensions) v = IsDeep v.rows (dimensions + count v.dimensions)
IsFine (Braced more) v = IsDeep v more
IsFine (MoreRows more) v = AreDeep v more
IsFine Declaration v = IsShaped v
IsFine Declarations v = AreShaped v.globals
IsFine File v = AreShaped v.globals
IsFine _ v = Unit {0}

abbrev pub AreFine : (ss : List Symbol) → Values Value ss → Type 0
AreFine [] vs = Unit {0}
AreFine (s ∷ ss) vs = IsFine s vs.0 × AreFine ss vs.1

-- a line gives a fine value of fine ones
abbrev pub KeepsFine : {s : Symbol} → Step Value s → Type 0
KeepsFine {s = s} (Takes line) = (vs : Values Value line.symbols) → AreFine line.symbols vs → IsFine s (line.value vs)
KeepsFine {s = s} (Begins line) = (vs : Values Value line.symbols) → AreFine line.symbols vs → IsFine s (line.value vs)
KeepsFine Stops = Unit {0}

whatever : (s : Symbol) (x : Step Value s) → ((v : Value s) → IsFine s v) → KeepsFine x
whatever s (Takes line) h = λ vs _. h (line.value vs)
whatever s (Begins line) h = λ vs _. h (line.value vs)
whatever s Stops h = tt

either : {s : Symbol} (b : Bool) (x y : Step Value s) → KeepsFine x → KeepsFine y → KeepsFine (if b then x else y)
either true x y h g = h
either false x y h g = g

deep_by : (rows : Rows) (m n : ℕ) → m ≡ n → IsDeep rows m → IsDeep rows n
deep_by rows m n is h = subst (λ k. IsDeep rows k) is h

fine_row : (more place : ℕ) → KeepsFine (row_of more place)
fine_row zero place = λ vs h. tt
fine_row (suc more) place = λ vs h. (h.0, h.1.0)

fine_tabled : (signedness : Option Signedness) → KeepsFine (tabled_step signedness)
fine_tabled (Some signedness) = λ vs h. h.0
fine_tabled None = tt

fine_words : (t : Token) (signedness : Option Signedness) → KeepsFine (words_step t signedness)
fine_words t (Some signedness) = λ vs h. (h.0, h.1.0)
fine_words t None = tt

fine_file : (kind : Kind) → KeepsFine (file_step kind)
fine_file kinds.Stdint = λ vs h. h.1.1.1.0
fine_file kinds.Cgra = λ vs h. h.1.0
fine_file _ = tt

fine_step : (s : Symbol) (t : Token) → KeepsFine (step s t)
fine_step Declarator t = either (is_name t) _ _ (λ vs h. h.0) tt
fine_step Dimensions t = either (is_the_mark (codes "[") t) _ _ (λ vs h. tt) tt
fine_step MoreDeclarators t = either (is_the_mark (codes ",") t) _ _ (λ vs h. (h.0, h.1.0)) (either (is_the_mark (codes ";") t) _ _ (λ vs h. tt) tt)
fine_step Tabled t = fine_tabled (signedness_of t)
fine_step TableName t = either (is_name t) _ _ (λ vs h. h.0) tt
fine_step TableDimensions t = either (is_the_mark (codes "[") t) _ _ (λ vs h. deep_by vs.1.1.0.rows (0 + count vs.1.1.0.dimensions) (count vs.1.1.0.dimensions) (omega arith) h.1.1.0) tt
fine_step (MoreTable dimensions) t =
    either (nat_lt dimensions 2 && is_the_mark (codes "[") t) _ _
    (λ vs h. deep_by vs.1.1.0.rows (dimensions + 1 + count vs.1.1.0.dimensions) (dimensions + suc (count vs.1.1.0.dimensions)) (omega arith) h.1.1.0)
    (either (is_the_mark (codes "=") t) _ _ (λ vs h. deep_by vs.0 dimensions (dimensions + 0) (omega arith) h.0) tt)
fine_step (Braced more) t = either (is_the_mark (codes "{") t) _ _ (fine_row more t.place) tt
fine_step (MoreRows more) t = either (is_the_mark (codes ",") t) _ _ (λ vs h. (h.0, h.1.0)) (either (is_the_mark (codes "}") t) _ _ (λ vs h. tt) tt)
fine_step Declaration t =
    either (is_define t.kind) _ _ (λ vs h. tt)
    (either (is_the_word (codes "enum") t) _ _ (λ vs h. tt)
    (either (is_the_word (codes "static") t) _ _ (λ vs h. h.1.0) (either (is_the_word (codes "const") t) _ _ (λ vs h. h.0) (fine_words t (signedness_of t)))))
fine_step Declarations t = either (is_the_word (codes "void") t) _ _ (λ vs h. tt) (λ vs h. (h.0, h.1.0))
fine_step File t = fine_file t.kind
fine_step s t = whatever s (step s t) (λ v. tt)

mutual
  is_fine : {s : Symbol} {a : List Token} {t : Token} {v : Value s} → Reads Value step barred s a t v → IsFine s v
  is_fine {s = s} {a = u ∷ a} (reading.takes line vs free e h) =
      let keeps : KeepsFine (Takes line) = subst (λ (x : Step Value s). KeepsFine x) e (fine_step s u) in keeps vs (are_fine h)
  is_fine {s = s} {a = a} {t = t} (reading.begins line vs free e h) =
      let keeps : KeepsFine (Begins line) = subst (λ (x : Step Value s). KeepsFine x) e (fine_step s (reading.first a t)) in keeps vs (are_fine h)

  are_fine : {ss : List Symbol} {a : List Token} {t : Token} {vs : Values Value ss} → ReadsAll Value step barred ss a t vs → AreFine ss vs
  are_fine reading.none = tt
  are_fine (reading.next a b w h g) = (is_fine h, are_fine g)

pub sources_typed : SourcesAreTyped
sources_typed bytes source p is h = shaped_typed source p (are_fine is.reads).0 h
