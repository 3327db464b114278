-- Worked rows of the meaning of programs: what calls leave, worked out by hand.
use Rattle.std.proofs.Common.{◌≡◌, ℕ, List, [], ◌∷◌, Option, Some, None, refl}
use Rattle.cg_word.specs.Word.{apply_of}
use Rattle.cg_model.specs.Work.{Image}
use Rattle.cg_c_syntax.specs.declared.expression.Binary.TheVariants.{AndThen, OrElse, Add, Sub, Less, ShiftRight}
use Rattle.cg_c_syntax.specs.declared.expression.Pick.TheVariants.{Min}
use Rattle.cg_c_syntax.specs.declared.statement.Signedness.TheVariants.{Signed}
use Rattle.cg_c_check.specs.declared.program.Array.{Array}
use Rattle.cg_c_check.specs.declared.program.Range.{Range}
use Rattle.cg_c_check.specs.Program.{Expr, Literal, Word, Counter, Element, Input, Picked, Two, Choice, NoExprs, MoreExprs, TheWord, TheElement, Stmt, Words, IfElse, Output, Assign, Stmts, NoStmts, MoreStmts, Level, Program}
use Rattle.cg_c_meaning.specs.Meaning.{place_in, repeated, nested, stmt, value, c_left}

-- int a[4]; int b[1]; a word x, number 0
abbrev array : ℕ → ℕ → Array
array start length = record { name = []; dimensions = length ∷ []; start = start; table = None }

abbrev number : ℕ → Expr
number w = Literal (record { word = w; signedness = Signed })

abbrev x : Expr
x = Word 0 Signed

abbrev a : Expr → Expr
a i = Element 0 0 Signed (MoreExprs i NoExprs)

abbrev set_b : Expr → Stmt
set_b e = Assign (TheElement 1 0 Signed (MoreExprs (number 0) NoExprs)) None e

abbrev one : Stmt → Stmts
one s = MoreStmts s NoStmts

abbrev up_to : ℕ → Range
up_to n = record { first = 0; step = 1; trips = n }

abbrev program : List Level → Stmts → Program
program levels body = record { name = []; arrays = array 0 4 ∷ array 4 1 ∷ []; words = Signed ∷ []; levels = levels; body = body }

abbrev fifteen : List (List ℕ)
fifteen = [] ∷ [] ∷ [] ∷ [] ∷ [] ∷ [] ∷ [] ∷ [] ∷ [] ∷ [] ∷ [] ∷ [] ∷ [] ∷ [] ∷ [] ∷ []

abbrev image : List ℕ → List ℕ → Image
image memory stream = record { memory = memory; streams = stream ∷ fifteen }

-- int x = 0; for (int i = 0; i < n; i++) x += a[i]; b[0] = x;
abbrev sum : ℕ → Program
sum n =
    program
    (record { before = one (Words (record { number = 0; value = number 0 } ∷ [])); range = up_to n; after = one (set_b x) } ∷ [])
    (one (Assign (TheWord 0 Signed) (Some Add) (a (Counter 0))))

-- 1 + 2 + 3 + 4 is 10
a_sum : c_left (sum 4) (image (1 ∷ 2 ∷ 3 ∷ 4 ∷ 0 ∷ []) []) ≡ Some (image (1 ∷ 2 ∷ 3 ∷ 4 ∷ 10 ∷ []) [])
unfolding c_left nested repeated stmt value apply_of
a_sum = refl

-- C says nothing of a[4], the word of b
an_index_too_far : c_left (sum 5) (image (1 ∷ 2 ∷ 3 ∷ 4 ∷ 0 ∷ []) []) ≡ None
unfolding c_left nested repeated stmt value
an_index_too_far = refl

-- for (int i = 0; i < 1; i++) b[0] = e;
abbrev set_once : Expr → Program
set_once e = program (record { before = NoStmts; range = up_to 1; after = NoStmts } ∷ []) (one (set_b e))

abbrev set_to : ℕ → Option Image
set_to w = Some (image (1 ∷ 2 ∷ 3 ∷ 4 ∷ w ∷ []) [])

abbrev start : Image
start = image (1 ∷ 2 ∷ 3 ∷ 4 ∷ 7 ∷ []) []

-- x && a[9] of x = 0 is 0, and 1 && a[9] is nothing
right_of_and : c_left (set_once (Two AndThen Signed x (a (number 9)))) start ≡ set_to 0
unfolding c_left nested repeated stmt value
right_of_and = refl

right_of_and_is_done : c_left (set_once (Two AndThen Signed (number 1) (a (number 9)))) start ≡ None
unfolding c_left nested repeated stmt value
right_of_and_is_done = refl

-- 5 || a[9] is 1, and x || a[2] is 1
right_of_or : c_left (set_once (Two OrElse Signed (number 5) (a (number 9)))) start ≡ set_to 1
unfolding c_left nested repeated stmt value
right_of_or = refl

right_of_or_is_done : c_left (set_once (Two OrElse Signed x (a (number 2)))) start ≡ set_to 1
unfolding c_left nested repeated stmt value
right_of_or_is_done = refl

-- x ? a[9] : a[3]
other_arm : c_left (set_once (Choice Signed x (a (number 9)) (a (number 3)))) start ≡ set_to 4
unfolding c_left nested repeated stmt value
other_arm = refl

-- for (int i = 0; i < 3; i++) out(0, in(0) >> 1); of -6 and 9: -3, 4, and 0 past the end
halves : c_left (program (record { before = NoStmts; range = up_to 3; after = NoStmts } ∷ []) (one (Output 0 (Two ShiftRight Signed (Input 0) (number 1))))) (image (0 ∷ 0 ∷ 0 ∷ 0 ∷ 0 ∷ []) (4294967290 ∷ 9 ∷ [])) ≡ Some (image (0 ∷ 0 ∷ 0 ∷ 0 ∷ 0 ∷ []) (4294967293 ∷ 4 ∷ 0 ∷ []))
unfolding c_left nested repeated stmt value apply_of
halves = refl

-- for (int i = 0; i < 2; i++) { out(0, 10); for (int j = 5; j < 11; j += 3) if (j < 7) out(0, i); else out(0, j); out(0, 20); }
in_order : c_left
    (program
    (record { before = NoStmts; range = up_to 2; after = NoStmts }
    ∷ record { before = one (Output 0 (number 10)); range = record { first = 5; step = 3; trips = 2 }; after = one (Output 0 (number 20)) } ∷ [])
    (one (IfElse (Two Less Signed (Counter 1) (number 7)) (Output 0 (Counter 0)) (Output 0 (Counter 1)))))
    (image [] []) ≡ Some (image [] (10 ∷ 0 ∷ 8 ∷ 20 ∷ 10 ∷ 1 ∷ 8 ∷ 20 ∷ []))
unfolding c_left nested repeated stmt value
in_order = refl

-- of int c[2][3], c[1][2] is element 5, row by row, and there is no c[1][3]
row_by_row : place_in (2 ∷ 3 ∷ []) 0 (1 ∷ 2 ∷ []) ≡ Some 5
row_by_row = refl

no_fourth_column : place_in (2 ∷ 3 ∷ []) 0 (1 ∷ 3 ∷ []) ≡ None
no_fourth_column = refl

-- min(-1, 2) is -1
least : c_left (set_once (Picked Min (number 4294967295) (number 2))) start ≡ set_to 4294967295
unfolding c_left nested repeated stmt value apply_of
least = refl

-- b[0] -= 9 of 7 is -2
of_the_old_word : c_left (program (record { before = NoStmts; range = up_to 1; after = NoStmts } ∷ []) (one (Assign (TheElement 1 0 Signed (MoreExprs (number 0) NoExprs)) (Some Sub) (number 9)))) start ≡ set_to 4294967294
unfolding c_left nested repeated stmt value apply_of
of_the_old_word = refl
