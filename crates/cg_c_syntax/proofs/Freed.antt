-- Tokens that are read are read without the limit too; and what the lines of a fit symbol are.
use Rattle.std.proofs.Common.{◌≡◌, List, Bool, true, false, refl, sym, ◌∙◌, ap}
use Rattle.std.specs.Prelude.{◌&&◌, ◌||◌, not}
use Rattle.std.proofs.lemmas.Bool.{and_parts}
use Rattle.cg_c_syntax.specs.Tokens.{Token}
use Rattle.cg_c_syntax.specs.Symbols.{Symbol, Value}
use Rattle.cg_c_syntax.specs.Grammar.{step, barred}
use Rattle.cg_c_syntax.specs.Source.{unbarred}
use Rattle.cg_c_syntax.specs.Reading as reading
use Rattle.cg_c_syntax.specs.Reading.{Values, Line, Takes, Begins, Reads, ReadsAll}
use Rattle.cg_c_syntax.proofs.Fillers.{calm, fit, single, nullable, ready, is_none, ready_all, good, solid, fine}
use Rattle.cg_c_syntax.proofs.Fit.{fine_step}

abbrev pub Read : (s : Symbol) → List Token → Token → Value s → Type 0
Read s a t v = Reads Value step unbarred s a t v

abbrev pub ReadAll : (ss : List Symbol) → List Token → Token → Values Value ss → Type 0
ReadAll ss a t vs = ReadsAll Value step unbarred ss a t vs

mutual
  pub freed : {s : Symbol} {a : List Token} {t : Token} {v : Value s} → Reads Value step barred s a t v → Read s a t v
  freed (reading.takes line vs free e h) = reading.takes line vs refl e (freed_all h)
  freed (reading.begins line vs free e h) = reading.begins line vs refl e (freed_all h)

  pub freed_all : {ss : List Symbol} {w : List Token} {t : Token} {vs : Values Value ss} → ReadsAll Value step barred ss w t vs → ReadAll ss w t vs
  freed_all reading.none = reading.none
  freed_all (reading.next a b e h hs) = reading.next a b e (freed h) (freed_all hs)

-- ---- lines of fit symbols

-- a line that takes a token, of a single symbol or before a calm token
ready_line : (a b c : Bool) → (not a || b) ≡ true → (a || c) ≡ true → (b || c) ≡ true
ready_line true b c p q = let b_holds : b ≡ true = p in cc
ready_line false true c p q = refl
ready_line false false c p q = q

-- a symbol that is not single is ready before calm tokens alone
other : (a c : Bool) → not a ≡ true → (a || c) ≡ true → c ≡ true
other true c p q = let bad : false ≡ true = p in cc
other false c p q = q

pub or_true : (b c : Bool) → c ≡ true → (b || c) ≡ true
or_true true c p = refl
or_true false c p = p

pub good_taken : (s : Symbol) (u : Token) (line : Line Value s) → fit s ≡ true → step s u ≡ Takes line → good line.symbols ≡ true
good_taken s u line f e = (and_parts (not (single s) || is_none line.symbols) (good line.symbols) (sym (ap fine e) ∙ fine_step s u f)).1

pub ready_taken : (s : Symbol) (u t : Token) (line : Line Value s) → fit s ≡ true → step s u ≡ Takes line → ready s t ≡ true → ready_all line.symbols t ≡ true
ready_taken s u t line f e r =
    ready_line (single s) (is_none line.symbols) (calm t) (and_parts (not (single s) || is_none line.symbols) (good line.symbols) (sym (ap fine e) ∙ fine_step s u f)).0 r

begun_parts : (s : Symbol) (u : Token) (line : Line Value s) → fit s ≡ true → step s u ≡ Begins line → (not (single s) ≡ true) × (((nullable s || solid line.symbols) && good line.symbols) ≡ true)
begun_parts s u line f e = and_parts (not (single s)) ((nullable s || solid line.symbols) && good line.symbols) (sym (ap fine e) ∙ fine_step s u f)

pub good_begun : (s : Symbol) (u : Token) (line : Line Value s) → fit s ≡ true → step s u ≡ Begins line → good line.symbols ≡ true
good_begun s u line f e = (and_parts (nullable s || solid line.symbols) (good line.symbols) (begun_parts s u line f e).1).1

pub solid_begun : (s : Symbol) (u : Token) (line : Line Value s) → fit s ≡ true → step s u ≡ Begins line → (nullable s || solid line.symbols) ≡ true
solid_begun s u line f e = (and_parts (nullable s || solid line.symbols) (good line.symbols) (begun_parts s u line f e).1).0

pub calm_begun : (s : Symbol) (u t : Token) (line : Line Value s) → fit s ≡ true → step s u ≡ Begins line → ready s t ≡ true → calm t ≡ true
calm_begun s u t line f e r = other (single s) (calm t) (begun_parts s u line f e).0 r
