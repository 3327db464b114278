-- What a loop does, iteration by iteration: no nodes, edges or addresses.
use Rattle.std.specs.Prelude.{ℕ, zero, suc, ◌%◌, bytes_eq, eqb, nat_lt, if◌then◌else◌, Bool, true, List, [], ◌∷◌, ◌++◌, Option, Some, None, take, drop, slice_index, slice_index_or, slice_set}
use Rattle.cg_word.specs.Word.{words, apply_of}
use Rattle.cg_model.specs.Work.{Image}
use Rattle.cg_loop_syntax.specs.Loop.{Expr, Num, Turn, In, Scalar, Item, Two, Three, Stmt, Bind, Assign, Put, Emit, Body, extent, carry}

-- the words of arrays and of scalars by name, and the output streams by port
pub record State : Type 0 where
  pub arrays : List ℕ → List ℕ
  pub scalars : List ℕ → ℕ
  pub outs : ℕ → List ℕ

-- with another value for one name
abbrev pub updated : {X : Type 0} → (List ℕ → X) → List ℕ → X → List ℕ → X
updated f x v y = if bytes_eq y x then v else f y

-- with word w appended to the stream of port p
abbrev pub sent_to : (ℕ → List ℕ) → ℕ → ℕ → ℕ → List ℕ
sent_to outs p w q = if eqb q p then outs q ++ w ∷ [] else outs q

-- an expression's value in iteration i
abbrev pub eval : Image → ℕ → State → Expr → ℕ
eval image i s (Num w) = w
eval image i s Turn = i % words
eval image i s (In p) = slice_index (slice_index_or image.streams p []) i
eval image i s (Scalar x) = s.scalars x
eval image i s (Item a e) = slice_index (s.arrays a) (eval image i s e)
eval image i s (Two op a b) = apply_of op (eval image i s a) (eval image i s b) 0
eval image i s (Three op a b c) = apply_of op (eval image i s a) (eval image i s b) (eval image i s c)

-- a guard is absent or not 0
abbrev pub allows : Image → ℕ → State → Option Expr → Bool
allows image i s None = true
allows image i s (Some g) = nat_lt 0 (eval image i s g)

-- a store sets the word at its index if that is inside the array
abbrev pub exec : Image → ℕ → State → Stmt → State
exec image i s (Bind x e) = record s { scalars = updated s.scalars x (eval image i s e) }
exec image i s (Assign x e) = record s { scalars = updated s.scalars x (eval image i s e) }
exec image i s (Put a ix v g) =
    if allows image i s g then record s { arrays = updated s.arrays a (slice_set (s.arrays a) (eval image i s ix) (eval image i s v)) } else s
exec image i s (Emit p v g) = if allows image i s g then record s { outs = sent_to s.outs p (eval image i s v) } else s

abbrev pub exec_all : Image → ℕ → State → List Stmt → State
exec_all image i s [] = s
exec_all image i s (st ∷ ss) = exec_all image i (exec image i s st) ss

abbrev pub word_or_zero : Option ℕ → ℕ
word_or_zero None = 0
word_or_zero (Some w) = w

abbrev pub if_some : Option ℕ → ℕ → ℕ
if_some None w = 0
if_some (Some start) w = w

-- arrays begin with their words of the memory, carries with their declared words
abbrev pub start : Body → Image → State
start P image =
    record {
      arrays = λ a. take (extent P.decls a).len (drop (extent P.decls a).at image.memory);
      scalars = λ x. word_or_zero (carry P.decls x);
      outs = λ p. [];
    }

-- only carries keep their words from iteration to iteration
abbrev pub next_turn : Body → State → State
next_turn P s = record s { scalars = λ x. if_some (carry P.decls x) (s.scalars x) }

-- what n iterations leave
unfoldable pub loop_left : Body → ℕ → Image → State
loop_left P zero image = start P image
loop_left P (suc n) image = next_turn P (exec_all image n (loop_left P n image) P.stmts)
