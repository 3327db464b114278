-- Lists of symbols that are good are read as their tokens, and a symbol as those of its line.
use Rattle.std.proofs.Common.{◌≡◌, List, [], ◌∷◌, ◌++◌, true, refl, sym, subst}
use Rattle.std.specs.Prelude.{◌||◌}
use Rattle.std.proofs.lemmas.Bool.{and_parts}
use Rattle.cg_c_syntax.specs.Tokens.{Token}
use Rattle.cg_c_syntax.specs.Symbols.{Symbol, Value}
use Rattle.cg_c_syntax.specs.Grammar.{step}
use Rattle.cg_c_syntax.specs.Reading as reading
use Rattle.cg_c_syntax.specs.Reading.{Values, Line, Takes, Begins, first}
use Rattle.cg_c_syntax.proofs.Fillers.{filler, fillers, calm, calm_first, fit, single, ready, is_none, ready_all, good}
use Rattle.cg_c_syntax.proofs.Freed.{Read, ReadAll, or_true, good_taken, ready_taken, good_begun, calm_begun}
use Rattle.cg_c_syntax.proofs.Calm.{good_rest}

-- ---- lists of symbols

-- the tokens of the symbol are read as it, before each token that lets it end; the same of symbols one after another
abbrev pub Filled : Symbol → Type 0
Filled s = (t : Token) → ready s t ≡ true → (v : Value s) × Read s (filler s) t v

abbrev pub FilledAll : List Symbol → Type 0
FilledAll ss = (t : Token) → ready_all ss t ≡ true → (vs : Values Value ss) × ReadAll ss (fillers ss) t vs

abbrev pub Each : List Symbol → Type 0
Each [] = Unit {0}
Each (s ∷ ss) = Filled s × Each ss

ready_next : (s : Symbol) (w : List Token) (t : Token) → (single s || calm_first w) ≡ true → calm t ≡ true → ready s (first w t) ≡ true
ready_next s [] t p c = or_true (single s) (calm t) c
ready_next s (u ∷ w) t p c = p

-- what is read as the first symbol, and then the tokens of the others
pub extended : (s : Symbol) (ss : List Symbol) (a : List Token) → good (s ∷ ss) ≡ true → ((t : Token) → ready s t ≡ true → (v : Value s) × Read s a t v) → FilledAll ss
    → (t : Token) → calm t ≡ true → (vs : Values Value (s ∷ ss)) × ReadAll (s ∷ ss) (a ++ fillers ss) t vs
extended s ss a g p q t c =
    let next : (single s || calm_first (fillers ss)) ≡ true = (and_parts (single s || calm_first (fillers ss)) (good ss) (and_parts (fit s) _ g).1).0 in
    let v = p (first (fillers ss) t) (ready_next s (fillers ss) t next c) in
    let vs = q t (or_true (is_none ss) (calm t) c) in
    ((v.0, vs.0), reading.next a (fillers ss) refl v.1 vs.1)

pub all : (ss : List Symbol) → good ss ≡ true → Each ss → FilledAll ss
all [] g each t r = (tt, reading.none)
all (s ∷ ss) g each t r = extended s ss (filler s) g each.0 (all ss (good_rest s ss g) each.1) t r

-- ---- the line of the first token

-- s takes the first of its tokens, and the others are those of the symbols of its line
pub by_takes : (s : Symbol) (t : Token) {line : Line Value s} → fit s ≡ true → step s (first (filler s) t) ≡ Takes line → filler s ≡ first (filler s) t ∷ fillers line.symbols → Each line.symbols → ready s t ≡ true → (v : Value s) × Read s (filler s) t v
by_takes s t {line} f e same each r =
    let u : Token = first (filler s) t in
    let q = all line.symbols (good_taken s u line f e) each t (ready_taken s u t line f e r) in
    (line.value q.0, subst (λ (w : List Token). Read s w t (line.value q.0)) (sym same) (reading.takes line q.0 refl e q.1))

-- the tokens of s are those of the symbols of its line
pub by_begins : (s : Symbol) (t : Token) {line : Line Value s} → fit s ≡ true → step s (first (filler s) t) ≡ Begins line → filler s ≡ fillers line.symbols → Each line.symbols → ready s t ≡ true → (v : Value s) × Read s (filler s) t v
by_begins s t {line} f e same each r =
    let u : Token = first (filler s) t in
    let q = all line.symbols (good_begun s u line f e) each t (or_true (is_none line.symbols) (calm t) (calm_begun s u t line f e r)) in
    (line.value q.0, reading.begins line q.0 refl e (subst (λ (w : List Token). ReadAll line.symbols w t q.0) (sym same) q.1))
