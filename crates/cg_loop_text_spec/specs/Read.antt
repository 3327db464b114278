-- What reading guarantees of the tokens before and after it.
use Rattle.std.specs.Prelude.{◌≡◌, ℕ, ◌<◌, length, Bool, false, List, [], ◌∷◌, ◌++◌, codes, Some, is_some}
use Rattle.cg_tokens.specs.Table.{run}
use Rattle.cg_tokens.specs.Tokens.{Placed}
use Rattle.cg_loop_syntax.specs.Well.{most_open}
use Rattle.cg_loop_text_spec.specs.Words.{added_by, compared_by}
use Rattle.cg_loop_text_spec.specs.Rules.{Closer, Guarded, Further, Symbol, Exactly, Operand, Named, After, Close, Lines, same, rule}

abbrev pub begins_with : List ℕ → List Placed → Bool
begins_with s [] = false
begins_with s (t ∷ rest) = same t.text s

abbrev pub begins_adding : List Placed → Bool
begins_adding [] = false
begins_adding (t ∷ rest) = is_some (added_by t.text)

abbrev pub begins_comparing : List Placed → Bool
begins_comparing [] = false
begins_comparing (t ∷ rest) = is_some (compared_by t.text)

-- the first token has the given text, and new is what follows it
pub record Takes (text : List ℕ) (old new : List Placed) : Type 0 where
  pub token : Placed
  pub is : token.text ≡ text
  pub whole : old ≡ token ∷ new

-- whatever follows the symbols on the stack, the tokens are read as the symbols up to new
pub record Reads (symbols : List Symbol) (old new : List Placed) : Type 0 where
  pub ran : (stack : List Symbol) → run rule (symbols ++ stack) old ≡ run rule stack new

-- whatever follows the symbols on the stack, the tokens continue the symbols up to new, and no further
pub record Stops (symbols : List Symbol) (old new : List Placed) : Type 0 where
  pub ran : (stack : List Symbol) → run rule (symbols ++ stack) old ≡ Some new

-- whatever closes the expression and follows it, an operand is read up to new
pub record ReadsAtom (room : ℕ) (old new : List Placed) : Type 0 where
  pub ran : (c : Closer) (compared : Bool) (stack : List Symbol) → run rule (Operand c compared room ∷ stack) old ≡ run rule (After c compared room ∷ stack) new

pub record StopsAtom (room : ℕ) (old new : List Placed) : Type 0 where
  pub ran : (c : Closer) (compared : Bool) (stack : List Symbol) → run rule (Operand c compared room ∷ stack) old ≡ Some new

-- an index, or none
pub record ReadsIndex (room : ℕ) (old new : List Placed) : Type 0 where
  pub ran : (c : Closer) (compared : Bool) (stack : List Symbol) → run rule (Named c compared room ∷ stack) old ≡ run rule (After c compared room ∷ stack) new

pub record StopsIndex (room : ℕ) (old new : List Placed) : Type 0 where
  pub ran : (c : Closer) (compared : Bool) (stack : List Symbol) → run rule (Named c compared room ∷ stack) old ≡ Some new

-- an expression is read up to its end
pub record ReadsExpr (room : ℕ) (old new : List Placed) : Type 0 where
  pub ran : (c : Closer) (stack : List Symbol) → run rule (Operand c false room ∷ stack) old ≡ run rule (Close c room ∷ stack) new

pub record StopsExpr (room : ℕ) (old new : List Placed) : Type 0 where
  pub ran : (c : Closer) (stack : List Symbol) → run rule (Operand c false room ∷ stack) old ≡ Some new

-- an expression and n more are read, with the bracket after them
pub record ReadsArgs (room n : ℕ) (old new : List Placed) : Type 0 where
  pub ran : (stack : List Symbol) → run rule (Operand (Further n) false room ∷ stack) old ≡ run rule stack new

pub record StopsArgs (room n : ℕ) (old new : List Placed) : Type 0 where
  pub ran : (stack : List Symbol) → run rule (Operand (Further n) false room ∷ stack) old ≡ Some new

-- a guard, or none, is read up to the ; after it
pub record ReadsGuard (old new : List Placed) : Type 0 where
  pub ran : (stack : List Symbol) → run rule (Close Guarded most_open ∷ stack) old ≡ run rule (Exactly (codes ";") ∷ stack) new

pub record StopsGuard (old new : List Placed) : Type 0 where
  pub ran : (stack : List Symbol) → run rule (Close Guarded most_open ∷ stack) old ≡ Some new

-- lines are read, after which declarations may follow or not
pub record ReadsLines (before after : Bool) (old new : List Placed) : Type 0 where
  pub ran : (stack : List Symbol) → run rule (Lines before ∷ stack) old ≡ run rule (Lines after ∷ stack) new

-- a token that has a byte
abbrev pub IsSolid : Placed → Type 0
IsSolid t = 0 < length t.text
