-- The place where a list of tokens ceases to be the beginning of a file.
use Rattle.std.specs.Prelude.{◌≡◌, ℕ, ◌-◌, Option, List, [], ◌∷◌, ◌++◌, length, drop}
use Rattle.cg_tokens.specs.Tokens.{Placed, tokens_of, texts, place_of}

-- the tokens are the last ones of the list
abbrev pub AreLast : {T : Type 0} → List T → List T → Type 0
AreLast rest all = drop (length all - length rest) all ≡ rest

-- some file begins with these tokens
abbrev pub Begins : {T : Type 0} → (List T → Type 0) → List T → Type 0
Begins {T} IsFile front = (more : List T) × IsFile (front ++ more)

-- no file continues with the first of these tokens; where there is none, the tokens before are not a file
abbrev pub Ends : {T : Type 0} → (List T → Type 0) → List T → List T → Type 0
Ends IsFile front [] = IsFile front → ⊥
Ends IsFile front (t ∷ rest) = Begins IsFile (front ++ t ∷ []) → ⊥

-- the fault is at the head of rest, or at the end: some file begins with the tokens before it, and no file continues
-- with it
pub record FaultAt {T : Type 0} (IsFile : List T → Type 0) (tokens rest : List T) : Type 0 where
  pub front : List T
  pub whole : tokens ≡ front ++ rest
  pub before : Begins IsFile front
  pub after : Ends IsFile front rest

-- The bytes are not a file, and this is the place of the first token with which no file continues, or their length
-- where they end early.
pub record FaultIn (double : Option ℕ) (IsFile : List (List ℕ) → Type 0) (bytes : List ℕ) (place : ℕ) : Type 0 where
  pub front : List Placed
  pub rest : List Placed
  pub whole : tokens_of double bytes ≡ front ++ rest
  pub before : Begins IsFile (texts front)
  pub after : Ends IsFile (texts front) (texts rest)
  pub at : place ≡ place_of (length bytes) rest
