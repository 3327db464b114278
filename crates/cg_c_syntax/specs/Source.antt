-- The source that bytes encode, and the fault of bytes that encode none.
use Rattle.std.specs.Prelude.{◌≡◌, ℕ, List, [], ◌∷◌, ◌++◌, Option, Some, None}
use Rattle.cg_c_syntax.specs.Tokens.{Token, tokens_of}
use Rattle.cg_c_syntax.specs.Tree.{Source}
use Rattle.cg_c_syntax.specs.Symbols.{Symbol, File, TextEnds, Value}
use Rattle.cg_c_syntax.specs.Grammar.{step, barred}
use Rattle.cg_c_syntax.specs.Reading.{ReadsAll, FailsAll}

-- a file, and the end of the text after it
abbrev pub text : List Symbol
text = File ∷ TextEnds ∷ []

-- the tokens of the bytes are those of the source
pub record IsSource (bytes : List ℕ) (source : Source) : Type 0 where
  pub front : List Token
  pub end : Token
  pub whole : tokens_of bytes ≡ front ++ end ∷ []
  pub reads : ReadsAll Value step barred text front end (source, (tt, tt))

-- the grammar goes on up to this token, but not with it; or a construct begins there, or just before, at the place in q,
-- while sixty are open
pub record FailsAt (bytes : List ℕ) (t : Token) (q : Option ℕ) : Type 0 where
  pub front : List Token
  pub rest : List Token
  pub whole : tokens_of bytes ≡ front ++ t ∷ rest
  pub fails : FailsAll Value step barred text front t q

-- F1: the grammar does not go on with the token at this place, or no token begins there
pub record IsTextFault (bytes : List ℕ) (place : ℕ) : Type 0 where
  pub token : Token
  pub fails : FailsAt bytes token None
  pub at : place ≡ token.place

-- F2: a construct begins at this place while sixty are open
pub record IsDepthFault (bytes : List ℕ) (place : ℕ) : Type 0 where
  pub token : Token
  pub fails : FailsAt bytes token (Some place)

-- ---- laws

-- bytes have one source at most
abbrev pub OneSource : Type 0
OneSource = (bytes : List ℕ) (P Q : Source) → IsSource bytes P → IsSource bytes Q → P ≡ Q

-- bytes that have a source have no fault
abbrev pub NoFault : Type 0
NoFault = (bytes : List ℕ) (P : Source) (t : Token) (q : Option ℕ) → IsSource bytes P → FailsAt bytes t q → ⊥

-- bytes fail at one token, and in one way
abbrev pub OneFault : Type 0
OneFault = (bytes : List ℕ) (t t' : Token) (q q' : Option ℕ) → FailsAt bytes t q → FailsAt bytes t' q' → (t ≡ t') × (q ≡ q')

-- no source begins with the tokens up to and with the one at which bytes fail
abbrev pub NoneGoesOn : Type 0
NoneGoesOn = (front more : List Token) (t : Token) (q : Option ℕ) (other : List ℕ) (P : Source) → FailsAll Value step barred text front t q → tokens_of other ≡ front ++ t ∷ more → IsSource other P → ⊥

-- no limit of open constructs
abbrev pub unbarred : Symbol → Token → Option ℕ
unbarred s t = None

-- without the limit, these tokens and others after them are those of a source
pub record GoesOn (front : List Token) : Type 0 where
  pub more : List Token
  pub end : Token
  pub source : Source
  pub reads : ReadsAll Value step unbarred text (front ++ more) end (source, (tt, tt))

-- but for the limit, some source begins with the tokens before the one at which bytes fail
abbrev pub SomeGoesOn : Type 0
SomeGoesOn = (front : List Token) (t : Token) (q : Option ℕ) → FailsAll Value step barred text front t q → GoesOn front
