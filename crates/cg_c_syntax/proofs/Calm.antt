-- Tokens that are read as a fit symbol are read as it before each calm token.
use Rattle.std.proofs.Common.{◌≡◌, ℕ, zero, suc, List, [], ◌∷◌, ◌++◌, Option, Some, None, Bool, true, false, refl, sym, ◌∙◌}
use Rattle.std.specs.Prelude.{◌&&◌, ◌||◌, not, codes, if◌then◌else◌, is_some}
use Rattle.std.proofs.lemmas.Bool.{and_parts}
use Rattle.cg_c_syntax.specs.declared.expression.Binary.{Binary}
use Rattle.cg_c_syntax.specs.Tokens.{Token}
use Rattle.cg_c_syntax.specs.Tree.{NoExprs}
use Rattle.cg_c_syntax.specs.Words.{is_the_word, is_the_mark, binary_of, at_level}
use Rattle.cg_c_syntax.specs.Symbols.{Symbol, Chosen, Further, Indices, Else, Value}
use Rattle.cg_c_syntax.specs.Grammar.{step, begins, operator_step}
use Rattle.cg_c_syntax.specs.Reading as reading
use Rattle.cg_c_syntax.specs.Reading.{Values, Line, Begins, first}
use Rattle.cg_c_syntax.proofs.Fillers.{calm, fit, nullable, ready, ready_all, is_none, single, good, fillers, calm_first, solid}
use Rattle.cg_c_syntax.proofs.Freed.{Read, ReadAll, or_true, good_taken, ready_taken, good_begun, solid_begun, calm_begun}

-- ---- where no token is read

pub skip : {A : Type 0} (b : Bool) (x y : A) → not b ≡ true → (if b then x else y) ≡ y
skip true x y p = let bad : false ≡ true = p in cc
skip false x y p = refl

stood : (s : Symbol) (t : Token) (value : Unit {0} → Value s) → step s t ≡ begins [] value → (v : Value s) × Read s [] t v
stood s t value e = (value tt, reading.begins (record { symbols = []; value = value }) tt refl e reading.none)

no_operator : (level depth place : ℕ) (op : Option Binary) → not (is_some op) ≡ true → operator_step (suc level) depth place (at_level (suc level) op) ≡ begins [] (λ v. λ e. e)
no_operator level depth place (Some op) p = let bad : false ≡ true = p in cc
no_operator level depth place None p = refl

-- what a calm token is not: ?, [, else, an operator
pub record Quiet (t : Token) : Type 0 where
  pub chosen : not (is_the_mark (codes "?") t) ≡ true
  pub index : not (is_the_mark (codes "[") t) ≡ true
  pub other : not (is_the_word (codes "else") t) ≡ true
  pub operator : not (is_some (binary_of t)) ≡ true

quiet : (t : Token) → calm t ≡ true → Quiet t
quiet t c =
    let p = and_parts (not (is_the_mark (codes "?") t)) (not (is_the_mark (codes "[") t) && (not (is_the_word (codes "else") t) && not (is_some (binary_of t)))) c in
    let q = and_parts (not (is_the_mark (codes "[") t)) (not (is_the_word (codes "else") t) && not (is_some (binary_of t))) p.1 in
    let r = and_parts (not (is_the_word (codes "else") t)) (not (is_some (binary_of t))) q.1 in
    record { chosen = p.0; index = q.0; other = r.0; operator = r.1 }

-- a symbol that may be read as no token
pub stands : (s : Symbol) (t : Token) → fit s ≡ true → nullable s ≡ true → calm t ≡ true → (v : Value s) × Read s [] t v
stands (Chosen depth) t f n c = stood (Chosen depth) t (λ v. λ e. e) (skip (is_the_mark (codes "?") t) _ _ (quiet t c).chosen)
stands (Further zero depth) t f n c = let bad : false ≡ true = f in cc
stands (Further (suc level) depth) t f n c =
    stood (Further (suc level) depth) t (λ v. λ e. e) (no_operator level depth t.place (binary_of t) (quiet t c).operator)
stands (Indices zero depth) t f n c = stood (Indices zero depth) t (λ v. NoExprs) refl
stands (Indices (suc most) depth) t f n c = stood (Indices (suc most) depth) t (λ v. NoExprs) (skip (is_the_mark (codes "[") t) _ _ (quiet t c).index)
stands (Else depth) t f n c = stood (Else depth) t (λ v. None) (skip (is_the_word (codes "else") t) _ _ (quiet t c).other)
stands _ t f n c = let bad : false ≡ true = n in cc

front_empty : (a b w : List Token) → w ≡ a ++ b → w ≡ [] → a ≡ []
front_empty [] b w e empty = refl
front_empty (u ∷ a) b w e empty = let bad : [] ≡ u ∷ (a ++ b) = sym empty ∙ e in cc

first_holds : (a b : Bool) → (a || b) ≡ true → (b ≡ true → ⊥) → a ≡ true
first_holds true b p q = refl
first_holds false b p q = absurd (q p)

apart : (b : Bool) → not b ≡ true → b ≡ true → ⊥
apart true p q = let bad : false ≡ true = p in cc
apart false p q = cc

mutual
  -- what is read as no token may be
  pub bare : {s : Symbol} {a : List Token} {t : Token} {v : Value s} → Read s a t v → a ≡ [] → fit s ≡ true → nullable s ≡ true
  bare (reading.takes line vs free e h) empty f = cc
  bare {s = s} {a = a} {t = t} (reading.begins line vs free e h) empty f =
      first_holds (nullable s) (solid line.symbols) (solid_begun s (first a t) line f e) (λ p. never_bare h empty p (good_begun s (first a t) line f e))

  -- symbols are not read as no token, where the first of them may not be
  pub never_bare : {ss : List Symbol} {w : List Token} {t : Token} {vs : Values Value ss} → ReadAll ss w t vs → w ≡ [] → solid ss ≡ true → good ss ≡ true → ⊥
  never_bare reading.none empty p g = let bad : false ≡ true = p in cc
  never_bare {ss = s ∷ ss} {w = w} (reading.next a b e h hs) empty p g = apart (nullable s) p (bare h (front_empty a b w e empty) (and_parts (fit s) _ g).0)

-- ---- before another token

pub good_first : (s : Symbol) (ss : List Symbol) → good (s ∷ ss) ≡ true → fit s ≡ true
good_first s ss g = (and_parts (fit s) _ g).0

pub good_rest : (s : Symbol) (ss : List Symbol) → good (s ∷ ss) ≡ true → good ss ≡ true
good_rest s ss g = (and_parts (single s || calm_first (fillers ss)) (good ss) (and_parts (fit s) _ g).1).1

mutual
  pub again : {s : Symbol} {a : List Token} {t : Token} {v : Value s} → Read s a t v → (t' : Token) → fit s ≡ true → ready s t' ≡ true → (v' : Value s) × Read s a t' v'
  again {s = s} {a = u ∷ a} (reading.takes line vs free e h) t' f r =
      let q = again_all h t' (good_taken s u line f e) (ready_taken s u t' line f e r) in
      (line.value q.0, reading.takes line q.0 refl e q.1)
  again {s = s} {a = u ∷ a} (reading.begins line vs free e h) t' f r =
      let q = again_all h t' (good_begun s u line f e) (or_true (is_none line.symbols) (calm t') (calm_begun s u t' line f e r)) in
      (line.value q.0, reading.begins line q.0 refl e q.1)
  again {s = s} {a = []} {t = t} (reading.begins line vs free e h) t' f r = stands s t' f (bare (reading.begins line vs free e h) refl f) (calm_begun s t t' line f e r)

  pub again_all : {ss : List Symbol} {w : List Token} {t : Token} {vs : Values Value ss} → ReadAll ss w t vs → (t' : Token) → good ss ≡ true → ready_all ss t' ≡ true → (vs' : Values Value ss) × ReadAll ss w t' vs'
  again_all reading.none t' g r = (tt, reading.none)
  again_all {ss = s ∷ ss} (reading.next a (u ∷ b) e h hs) t' g r =
      let q = again_all hs t' (good_rest s ss g) (or_true (is_none ss) (calm t') r) in
      ((_, q.0), reading.next a (u ∷ b) e h q.1)
  again_all {ss = s ∷ ss} (reading.next a [] e h hs) t' g r =
      let p = again h t' (good_first s ss g) (or_true (single s) (calm t') r) in
      let q = again_all hs t' (good_rest s ss g) (or_true (is_none ss) (calm t') r) in
      ((p.0, q.0), reading.next a [] e p.1 q.1)
