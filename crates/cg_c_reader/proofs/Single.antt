-- Single tokens that are read.
use Rattle.std.proofs.Common.{◌≡◌, ℕ, Bool, true, false, ◌&&◌, List, [], None, refl, ap, cond, subst, sym}
use Rattle.cg_c_syntax.specs.declared.token.Kind.{Kind}
use Rattle.cg_c_syntax.specs.declared.token.Kind.TheVariants.{Word, Number, Mark, Stdint, Cgra, Define, LineEnd, TextEnd, Stray}
use Rattle.cg_c_syntax.specs.Tokens.{Token, is_last}
use Rattle.cg_c_syntax.specs.Symbols.{Symbol, TheMark, TheWord, OfKind, Digits}
use Rattle.cg_c_syntax.specs.Words.{is_the_mark, is_mark, is_the_word, is_word, is_name, is_number, number_of}
use Rattle.cg_c_syntax.specs.Grammar.{step, barred, token, is_kind}
use Rattle.cg_c_reader.specs.Left.{Rest, all, left, ReadsTo, FailsTo, MissesName, MissesMark, Misses}
use Rattle.cg_c_reader.specs.declared.reader.Reader.{Reader}
use Rattle.cg_c_reader.specs.declared.fault.Misfit.{Misfit}
use Rattle.cg_c_reader.specs.declared.fault.Misfit.TheVariants.{Memory, Text, Depth}
use Rattle.cg_c_syntax.specs.Reading.{Stops}
use Rattle.cg_c_reader.proofs.Composed.{reads_none, reads_takes, fails_stops}

mark_kind : (kind : Kind) (b : Bool) → (is_mark kind && b) ≡ true → is_last kind ≡ false
mark_kind Word b h = refl
mark_kind Number b h = refl
mark_kind Mark b h = refl
mark_kind Stdint b h = refl
mark_kind Cgra b h = refl
mark_kind Define b h = refl
mark_kind LineEnd b h = refl
mark_kind TextEnd b h = cc
mark_kind Stray b h = cc

word_kind : (kind : Kind) (b : Bool) → (is_word kind && b) ≡ true → is_last kind ≡ false
word_kind Word b h = refl
word_kind Number b h = refl
word_kind Mark b h = refl
word_kind Stdint b h = refl
word_kind Cgra b h = refl
word_kind Define b h = refl
word_kind LineEnd b h = refl
word_kind TextEnd b h = cc
word_kind Stray b h = cc

-- a mark is not the last token
pub mark_goes_on : (s : List ℕ) (t : Token) → is_the_mark s t ≡ true → is_last t.kind ≡ false
mark_goes_on s t h = mark_kind t.kind _ h

pub mark_reads : (s : List ℕ) (old new : Rest) → is_the_mark s old.head ≡ true → old.more ≡ all new → ReadsTo (TheMark s) tt old new
mark_reads s old new h more = reads_takes (record { symbols = []; value = λ v. tt }) refl (ap (λ b. token {s = TheMark s} b tt) h) more (reads_none new)

pub mark_stops : (s : List ℕ) (r : Rest) → is_the_mark s r.head ≡ false → FailsTo (TheMark s) None r r
mark_stops s r h = fails_stops r refl (ap (λ b. token {s = TheMark s} b tt) h)

-- ---- words

pub word_goes_on : (s : List ℕ) (t : Token) → is_the_word s t ≡ true → is_last t.kind ≡ false
word_goes_on s t h = word_kind t.kind _ h

pub name_goes_on : (t : Token) → is_name t ≡ true → is_last t.kind ≡ false
name_goes_on t h = word_kind t.kind _ h

pub word_reads : (s : List ℕ) (old new : Rest) → is_the_word s old.head ≡ true → old.more ≡ all new → ReadsTo (TheWord s) tt old new
word_reads s old new h more = reads_takes (record { symbols = []; value = λ v. tt }) refl (ap (λ b. token {s = TheWord s} b tt) h) more (reads_none new)

pub word_stops : (s : List ℕ) (r : Rest) → is_the_word s r.head ≡ false → FailsTo (TheWord s) None r r
word_stops s r h = fails_stops r refl (ap (λ b. token {s = TheWord s} b tt) h)

-- ---- kinds

pub kind_reads : (kind : Kind) (old new : Rest) → is_kind kind old.head.kind ≡ true → old.more ≡ all new → ReadsTo (OfKind kind) tt old new
kind_reads kind old new h more = reads_takes (record { symbols = []; value = λ v. tt }) refl (ap (λ b. token {s = OfKind kind} b tt) h) more (reads_none new)

pub kind_stops : (kind : Kind) (r : Rest) → is_kind kind r.head.kind ≡ false → FailsTo (OfKind kind) None r r
kind_stops kind r h = fails_stops r refl (ap (λ b. token {s = OfKind kind} b tt) h)

pub digits_read : (old new : Rest) → is_number old.head.kind ≡ true → old.more ≡ all new → ReadsTo Digits (number_of old.head) old new
digits_read old new h more = reads_takes (record { symbols = []; value = λ v. number_of old.head }) refl (ap (λ b. token {s = Digits} b (number_of old.head)) h) more (reads_none new)

pub digits_stop : (r : Rest) → is_number r.head.kind ≡ false → FailsTo Digits None r r
digits_stop r h = fails_stops r refl (ap (λ b. token {s = Digits} b (number_of r.head)) h)

-- ---- tests

pub if_true : {A : Type 0} {b : Bool} (x y : A) → b ≡ true → cond b x y ≡ x
if_true x y h = ap (λ (z : Bool). cond z x y) h

pub if_false : {A : Type 0} {b : Bool} (x y : A) → b ≡ false → cond b x y ≡ y
if_false x y h = ap (λ (z : Bool). cond z x y) h

-- no name is next, where a symbol needs one
pub name_missed : (e : Misfit) (s : Symbol) (old new : Reader) → MissesName e old new → barred s (left old).head ≡ None → (is_name (left old).head ≡ false → step s (left old).head ≡ Stops) → Misses e s old new
name_missed Memory s old new h free stops = tt
name_missed Text s old new h free stops = subst (λ (r : Rest). FailsTo s None (left old) r) (sym h.1) (fails_stops (left old) free (stops h.0))
name_missed (Depth place) s old new h free stops = absurd h

-- the mark is not next, where a symbol needs it
pub mark_missed : (e : Misfit) (s : Symbol) (text : List ℕ) (old new : Reader) → MissesMark e text old new → barred s (left old).head ≡ None → (is_the_mark text (left old).head ≡ false → step s (left old).head ≡ Stops) → Misses e s old new
mark_missed Memory s text old new h free stops = tt
mark_missed Text s text old new h free stops = subst (λ (r : Rest). FailsTo s None (left old) r) (sym h.1) (fails_stops (left old) free (stops h.0))
mark_missed (Depth place) s text old new h free stops = absurd h
