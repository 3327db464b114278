-- Grammars that one token decides: what a symbol does at the next token, and what tokens are read as it.
use Rattle.std.specs.Prelude.{◌≡◌, ℕ, List, [], ◌∷◌, ◌++◌, Option, Some, None}

-- the values of symbols, one after another
abbrev pub Values : {S : Type 0} → (S → Type 0) → List S → Type 0
Values V [] = Unit {0}
Values V (s ∷ ss) = V s × Values V ss

-- a line of the grammar: the symbols that stand in the place of a symbol, and its value by theirs
pub record Line {S : Type 0} (V : S → Type 0) (s : S) : Type 0 where
  pub symbols : List S
  pub value : Values V symbols → V s

-- what a symbol does at the next token: it takes the token, and a line is what follows; a line begins with the token;
-- no line does
pub data Step {S : Type 0} (V : S → Type 0) (s : S) : Type 0 where
  Takes : Line V s → Step V s
  Begins : Line V s → Step V s
  Stops : Step V s

-- the first of the tokens, or the one after them
abbrev pub first : {T : Type 0} → List T → T → T
first [] t = t
first (u ∷ a) t = u

-- Reads s a t v: where t is the next token, the tokens a are read as s, with the value v. A step may be barred at a
-- token, for a place.
mutual
  pub data Reads {S T : Type 0} (V : S → Type 0) (step : (s : S) → T → Step V s) (barred : S → T → Option ℕ) : (s : S) → List T → T → V s → Type 0 where
    takes : {s : S} {u : T} {a : List T} {t : T} (line : Line V s) (vs : Values V line.symbols) → barred s u ≡ None → step s u ≡ Takes line → ReadsAll V step barred line.symbols a t vs
        → Reads V step barred s (u ∷ a) t (line.value vs)
    begins : {s : S} {a : List T} {t : T} (line : Line V s) (vs : Values V line.symbols) → barred s (first a t) ≡ None → step s (first a t) ≡ Begins line → ReadsAll V step barred line.symbols a t vs
        → Reads V step barred s a t (line.value vs)

  pub data ReadsAll {S T : Type 0} (V : S → Type 0) (step : (s : S) → T → Step V s) (barred : S → T → Option ℕ) : (ss : List S) → List T → T → Values V ss → Type 0 where
    none : {t : T} → ReadsAll V step barred [] [] t tt
    next : {s : S} {ss : List S} {w : List T} {t : T} {v : V s} {vs : Values V ss} (a b : List T) → w ≡ a ++ b → Reads V step barred s a (first b t) v → ReadsAll V step barred ss b t vs
        → ReadsAll V step barred (s ∷ ss) w t (v, vs)

-- Fails s a t q: after the tokens a, s does not go on with the token t; or the step at t is barred, for the place in q
mutual
  pub data Fails {S T : Type 0} (V : S → Type 0) (step : (s : S) → T → Step V s) (barred : S → T → Option ℕ) : S → List T → T → Option ℕ → Type 0 where
    bars : {s : S} {t : T} {place : ℕ} → barred s t ≡ Some place → Fails V step barred s [] t (Some place)
    stops : {s : S} {t : T} → barred s t ≡ None → step s t ≡ Stops → Fails V step barred s [] t None
    takes : {s : S} {u : T} {a : List T} {t : T} {q : Option ℕ} (line : Line V s) → barred s u ≡ None → step s u ≡ Takes line → FailsAll V step barred line.symbols a t q
        → Fails V step barred s (u ∷ a) t q
    begins : {s : S} {a : List T} {t : T} {q : Option ℕ} (line : Line V s) → barred s (first a t) ≡ None → step s (first a t) ≡ Begins line → FailsAll V step barred line.symbols a t q
        → Fails V step barred s a t q

  pub data FailsAll {S T : Type 0} (V : S → Type 0) (step : (s : S) → T → Step V s) (barred : S → T → Option ℕ) : List S → List T → T → Option ℕ → Type 0 where
    here : {s : S} {ss : List S} {a : List T} {t : T} {q : Option ℕ} → Fails V step barred s a t q → FailsAll V step barred (s ∷ ss) a t q
    later : {s : S} {ss : List S} {w : List T} {t : T} {q : Option ℕ} (a b : List T) (v : V s) → w ≡ a ++ b → Reads V step barred s a (first b t) v → FailsAll V step barred ss b t q
        → FailsAll V step barred (s ∷ ss) w t q
