-- The tokens that values of the program stand for.
use Rattle.std.specs.Prelude.{◌≡◌, ℕ, List, [], ◌∷◌, if◌then◌else◌}
use Rattle.cg_c_syntax.specs.declared.token.Kind.{Kind}
use Rattle.cg_c_syntax.specs.declared.token.Line.{Line}
use Rattle.cg_c_syntax.specs.Tokens as tokens
use Rattle.cg_c_syntax.specs.Tokens.{tokens_at, is_last}
use Rattle.cg_c_reader.specs.declared.tokens.Token.{Token}
use Rattle.cg_c_reader.specs.declared.tokens.Cut.{Cut}

-- the token that a value of the program denotes
abbrev pub seen : Token → tokens.Token
seen t = record { kind = t.kind; text = t.text.now; place = t.place }

-- what follows a token of the kind
abbrev pub rest_after : Kind → List tokens.Token → List tokens.Token
rest_after kind rest = if is_last kind then [] else rest

-- the first of the tokens from the place on, and where the others begin
pub record Cuts (bytes : List ℕ) (line : Line) (place : ℕ) (cut : Cut) : Type 0 where
  pub tokens : tokens_at bytes line place ≡ seen cut.token ∷ rest_after cut.token.kind (tokens_at bytes cut.next.line cut.next.place)
