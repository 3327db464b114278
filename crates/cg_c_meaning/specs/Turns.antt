-- Programs in turns: a turn is one iteration of the innermost loop, with the statements before and after those loops that
-- begin or end with it.
use Rattle.std.specs.Prelude.{◌≡◌, ℕ, ◌+◌, ◌*◌, ◌/◌, ◌%◌, nat_lt, Bool, true, ◌==◌, if◌then◌else◌, List, [], ◌∷◌, Option}
use Rattle.std.specs.List.{list_all}
use Rattle.cg_model.specs.Work.{Image}
use Rattle.cg_c_check.specs.Program.{Stmts, Level, Program}
use Rattle.cg_c_meaning.specs.Meaning.{Run, ◌>>◌, give, Context, inside, stmts, counter, repeated, context_of, beginning, left_by, c_left}

-- the number of turns of loops in one another: the product of their numbers of iterations
abbrev pub turns_of : List Level → ℕ
turns_of [] = 1
turns_of (l ∷ ls) = l.range.trips * turns_of ls

abbrev pub when : Bool → Run (Unit {0}) → Run (Unit {0})
when holds run = if holds then run else give tt

-- turn t: what is before a loop in its first turn, the turn of the loops in it, what is after it in its last
unfoldable pub turn : Context → List Level → Stmts → (t : ℕ) → Run (Unit {0})
turn x [] body t = stmts x body
turn x (l ∷ ls) body t = do
  when (t == 0) (stmts x l.before)
  turn (inside x (counter l.range (t / turns_of ls))) ls body (t % turns_of ls)
  when (t + 1 == turns_of (l ∷ ls)) (stmts x l.after)

-- each loop has an iteration
abbrev pub all_turn : List Level → Bool
all_turn levels = list_all (λ (l : Level). nat_lt 0 l.range.trips) levels

-- what the turns of a program leave
abbrev pub turns_left : Program → Image → Option Image
turns_left p image = left_by (repeated (turns_of p.levels) (turn (context_of p image) p.levels p.body) (beginning image))

-- where each loop has an iteration, the turns one after another do what the function does
abbrev pub TurnsAreTheCall : Type 0
TurnsAreTheCall = (p : Program) (image : Image) → all_turn p.levels ≡ true → turns_left p image ≡ c_left p image
