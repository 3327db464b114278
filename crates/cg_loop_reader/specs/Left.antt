-- The tokens that a reader has left of its text, and the uses of names and ports that it has recorded.
use Rattle.std.specs.Prelude.{◌≡◌, ◌≤◌, ℕ, List, [], ◌∷◌, ◌++◌, length, map, true, Option, Some}
use Rattle.cg_word.specs.declared.op.Op.{Op}
use Rattle.cg_tokens.specs.declared.token.Token.{Token}
use Rattle.cg_tokens.specs.Tokens.{Placed, tokens_at, seen, end_of}
use Rattle.cg_loop_syntax.specs.Uses as uses
use Rattle.cg_loop_text_spec.specs.Words.{is_number, number_of}
use Rattle.cg_loop_syntax.specs.Well.{is_loop_name}
use Rattle.cg_loop_text_spec.specs.Rules.{Symbol}
use Rattle.cg_loop_text_spec.specs.Read.{Stops}
use Rattle.cg_loop_reader.specs.Used.{use_of}
use Rattle.cg_loop_reader.specs.declared.reader.Reader.{Reader}
use Rattle.cg_loop_reader.specs.declared.reader.Numeral.{Numeral}
use Rattle.cg_loop_reader.specs.declared.fault.Misfit.{Misfit}
use Rattle.cg_loop_reader.specs.declared.fault.Misfit.TheVariants.{Memory, Text}
use Rattle.cg_loop_reader.specs.Doubled.{double}

-- the token after the last one, which has no bytes
abbrev pub last_token : List ℕ → Placed
last_token bytes = record { text = []; place = length bytes }

abbrev pub left : Reader → List Placed
left r = tokens_at double r.bytes.now r.at ++ last_token r.bytes.now ∷ []

abbrev pub noted : Reader → List uses.Use
noted r = map use_of r.uses.items

-- the next token is this one
pub record IsNext (r : Reader) (token : Token) : Type 0 where
  pub next : tokens_at double r.bytes.now r.at ≡ seen token ∷ tokens_at double r.bytes.now (end_of (seen token))
  pub within : end_of (seen token) ≤ length r.bytes.now

-- no use is recorded meanwhile
pub record Keeps (old new : Reader) : Type 0 where
  pub bytes : new.bytes ≡ old.bytes
  pub noted : noted new ≡ noted old

-- a token of the given text is taken
pub record Takes (text : List ℕ) (old new : Reader) : Type 0 where
  pub token : Placed
  pub is : token.text ≡ text
  pub spelled : left old ≡ token ∷ left new
  pub kept : Keeps old new

-- a sign of the given operation is taken
pub record TakesSign (by : List ℕ → Option Op) (op : Op) (old new : Reader) : Type 0 where
  pub token : Placed
  pub is : by token.text ≡ Some op
  pub spelled : left old ≡ token ∷ left new
  pub kept : Keeps old new

-- a name is taken
pub record TakesName (token : Token) (old new : Reader) : Type 0 where
  pub is : is_loop_name token.text.now ≡ true
  pub spelled : left old ≡ seen token ∷ left new
  pub kept : Keeps old new

-- a number is taken
pub record TakesNumber (number : Numeral) (old new : Reader) : Type 0 where
  pub token : Placed
  pub is : is_number token.text ≡ true
  pub value : number_of token.text ≡ number.value
  pub place : token.place ≡ number.place
  pub spelled : left old ≡ token ∷ left new
  pub kept : Keeps old new

-- the use `more` is recorded after the others
pub record Notes (more : uses.Use) (old new : Reader) : Type 0 where
  pub noted : noted new ≡ noted old ++ more ∷ []
  pub left : left new ≡ left old
  pub bytes : new.bytes ≡ old.bytes

abbrev pub Misses : Misfit → List Symbol → Reader → Reader → Type 0
Misses Memory symbols old new = Unit {0}
Misses Text symbols old new = Stops symbols (left old) (left new)
