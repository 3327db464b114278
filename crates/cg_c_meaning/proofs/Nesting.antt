-- Loops in one another are their turns, one after another.
use Rattle.std.proofs.Common.{◌≡◌, ℕ, ◌*◌, ◌/◌, ◌%◌, ◌<◌, nat_lt, true, List, [], ◌∷◌, refl, ap, ◌∙◌, arith, ltb-true, mul-pos}
use Rattle.std.proofs.lemmas.Bool.{and_parts}
use Rattle.cg_c_check.specs.Program.{Stmts, Level}
use Rattle.cg_c_meaning.specs.Meaning.{◌>>◌, Context, inside, stmts, counter, repeated, nested, context_of, beginning, left_by, c_left}
use Rattle.cg_c_meaning.specs.Turns.{turns_of, turn, all_turn, TurnsAreTheCall}
use Rattle.cg_c_meaning.proofs.Repeated.{Step, repeated_same, repeated_digits, edges_apart}

has_turn : (levels : List Level) → all_turn levels ≡ true → 0 < turns_of levels
has_turn [] h = omega arith
has_turn (l ∷ ls) h =
    let parts = and_parts (nat_lt 0 l.range.trips) (all_turn ls) h in
    mul-pos (ltb-true 0 l.range.trips parts.0) (has_turn ls parts.1)

one_loop : (x : Context) (l : Level) (ls : List Level) (body : Stmts) → 0 < turns_of (l ∷ ls) → ((y : Context) → repeated (turns_of ls) (turn y ls body) ≡ nested y ls body) → repeated (turns_of (l ∷ ls)) (turn x (l ∷ ls) body) ≡ nested x (l ∷ ls) body
unfolding turn nested
one_loop x l ls body some within =
    let f : ℕ → ℕ → Step = λ j k. turn (inside x (counter l.range j)) ls body k in
    edges_apart (l.range.trips * turns_of ls) some (stmts x l.before) (stmts x l.after) (λ t. f (t / turns_of ls) (t % turns_of ls))
    ∙ ap (λ (a : Step). stmts x l.before >> (a >> stmts x l.after))
    (repeated_digits l.range.trips (turns_of ls) f
    ∙ repeated_same l.range.trips (λ j. repeated (turns_of ls) (f j)) (λ j. nested (inside x (counter l.range j)) ls body) (λ j _. within (inside x (counter l.range j))))

innermost : (x : Context) (body : Stmts) → repeated 1 (turn x [] body) ≡ nested x [] body
unfolding repeated turn nested
innermost x body = refl

pub turns_nest : (levels : List Level) (body : Stmts) → all_turn levels ≡ true → (x : Context) → repeated (turns_of levels) (turn x levels body) ≡ nested x levels body
turns_nest [] body h x = innermost x body
turns_nest (l ∷ ls) body h x = one_loop x l ls body (has_turn (l ∷ ls) h) (turns_nest ls body (and_parts (nat_lt 0 l.range.trips) (all_turn ls) h).1)

pub turns_call : TurnsAreTheCall
unfolding c_left
turns_call p image h = ap (λ (run : Step). left_by (run (beginning image))) (turns_nest p.levels p.body h (context_of p image))
