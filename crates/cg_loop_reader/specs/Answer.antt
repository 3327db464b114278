-- The loop body that bytes encode, and the fault of bytes that encode none.
use Rattle.std.specs.Prelude.{◌≡◌, ℕ, List, length, Some, None, Result, Ok, Err}
use Rattle.cg_tokens.specs.Faults.{FaultAt}
use Rattle.cg_tokens.specs.Tokens.{Placed, tokens_of, place_of}
use Rattle.cg_loop_syntax.specs.declared.fault.LoopFault.{LoopFault}
use Rattle.cg_loop_syntax.specs.declared.fault.LoopFault.TheVariants.{Memory, Text, TooLarge}
use Rattle.cg_loop_syntax.specs.declared.body.LoopBody.{LoopBody}
use Rattle.cg_loop_syntax.specs.Loop.{Body}
use Rattle.cg_loop_syntax.specs.Uses.{Use, fault_of}
use Rattle.cg_loop_syntax.specs.Body.{body_of}
use Rattle.cg_loop_text_spec.specs.Grammar as grammar
use Rattle.cg_loop_text_spec.specs.Grammar.{IsText, IsFile, text_tokens}
use Rattle.cg_loop_text_spec.specs.Meaning.{text_body, text_uses}
use Rattle.cg_loop_reader.specs.declared.read.Parts.{Parts}
use Rattle.cg_loop_reader.specs.Doubled.{double}
use Rattle.cg_loop_reader.specs.Whole.{ArePartsOf}

-- the tokens of the bytes are those of this tree
pub record IsTree (bytes : List ℕ) (text : grammar.Text) : Type 0 where
  pub is : IsText text
  pub tokens : tokens_of double bytes ≡ text_tokens text

-- the bytes encode the body: their tree denotes it, and its names and ports have no fault
pub record Spells (bytes : List ℕ) (P : Body) : Type 0 where
  pub text : grammar.Text
  pub tree : IsTree bytes text
  pub body : P ≡ text_body text
  pub ruled : fault_of (text_uses text) ≡ None

-- the parts were read to the end of the bytes, and these uses were recorded
pub record IsReadTo (parts : Parts) (bytes : List ℕ) (noted : List Use) : Type 0 where
  pub text : grammar.Text
  pub tree : IsTree bytes text
  pub uses : noted ≡ text_uses text
  pub stand : ArePartsOf text parts

-- Q1: the bytes have no tree, and this is the place of the first token with which no loop body continues, or their
-- length if they end early
pub record FaultIn (bytes : List ℕ) (place : ℕ) : Type 0 where
  pub rest : List Placed
  pub fault : FaultAt IsFile (tokens_of double bytes) rest
  pub at : place ≡ place_of (length bytes) rest

-- Q2 to Q6: the bytes have a tree, and this is the fault of the lowest number of its names and ports, at its first
-- place
pub record IsUseFault (e : LoopFault) (bytes : List ℕ) : Type 0 where
  pub text : grammar.Text
  pub tree : IsTree bytes text
  pub fault : fault_of (text_uses text) ≡ Some e

abbrev pub IsFault : LoopFault → List ℕ → Type 0
IsFault Memory bytes = Unit {0}
IsFault (Text place) bytes = FaultIn bytes place
IsFault (TooLarge x) bytes = ⊥
IsFault e bytes = IsUseFault e bytes

-- the answer is this body, or out of memory
abbrev pub Gives : Body → Result LoopBody LoopFault → Type 0
Gives P (Ok body) = body_of body ≡ P
Gives P (Err e) = e ≡ Memory

-- the answer is this fault, or out of memory
abbrev pub GivesFault : LoopFault → Result LoopBody LoopFault → Type 0
GivesFault e (Ok body) = ⊥
GivesFault e (Err Memory) = Unit {0}
GivesFault e (Err f) = f ≡ e
