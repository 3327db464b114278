-- Typed loops, by their parts.
use Rattle.std.proofs.Common.{◌≡◌, ℕ, suc, ◌*◌, ◌-◌, nat_lt, true, false, List, [], ◌∷◌, length, drop, Option, Some, None, Ok, Err, refl, sym, ap, ◌∙◌, rules, Box, Global}
use Rattle.cg_c_syntax.specs.declared.statement.Stmt.{Stmt as WrittenStmt}
use Rattle.cg_c_syntax.specs.declared.statement.Loop.{Loop as WrittenLoop, Loop', out-Loop, the_lemmas as loop_lemmas}
use Rattle.cg_c_syntax.specs.declared.statement.Nest.{Nest as WrittenNest, Nest', out-Nest, the_lemmas as nest_lemmas}
use Rattle.cg_c_syntax.specs.declared.statement.Nest as nests
use Rattle.cg_c_syntax.specs.Tree as trees
use Rattle.cg_c_syntax.specs.Written as written
use Rattle.cg_c_check.specs.declared.fault.CheckFault.TheVariants.{BadLoop}
use Rattle.cg_c_check.specs.declared.names.Meaning.TheVariants as meanings
use Rattle.cg_c_check.specs.Program.{Stmts}
use Rattle.cg_c_check.specs.Faults.{CheckFault}
use Rattle.cg_c_check.specs.Names.{Names, declared}
use Rattle.cg_c_check.specs.Loops.{most_loops, Range, range_of}
use Rattle.cg_c_check.specs.Walk.{State}
use Rattle.cg_c_check.specs.Statements.{stmts}
use Rattle.cg_c_check.specs.Check.{Nested, nest, looped}
use Rattle.cg_c_check.proofs.Kept.{looped_kept}

-- ---- the program's loops

-- the head of a loop
abbrev pub head_of : WrittenLoop → trees.Head
head_of L = let l = out-Loop L in record { counter = l.counter; start = written.expr_of l.start; inclusive = l.inclusive; bound = written.expr_of l.bound; step = written.step_of l.step }

pub loop_is : (L : WrittenLoop) → written.loop_of L ≡ trees.For (out-Loop L).place (head_of L) (written.nest_of (out-Loop L).body)
loop_is (Loop' place counter start inclusive bound step body) = search (rules, loop_lemmas)

abbrev nest_by : List WrittenStmt → Option (Box WrittenLoop Global) → List WrittenStmt → trees.Nest
nest_by first None last = trees.Bare (written.stmts_of first)
nest_by first (Some b) last = trees.Holds (written.stmts_of first) (written.loop_of b.value) (written.stmts_of last)

nest_is : (N : WrittenNest) → written.nest_of N ≡ nest_by (out-Nest N).before.items (out-Nest N).inner (out-Nest N).after.items
nest_is (Nest' first nests.None' last) = search (rules, nest_lemmas)
nest_is (Nest' first (nests.Some' p inner) last) = search (rules, nest_lemmas)

pub bare_is : (N : WrittenNest) → (out-Nest N).inner ≡ None → written.nest_of N ≡ trees.Bare (written.stmts_of (out-Nest N).before.items)
bare_is N none = nest_is N ∙ ap (λ z. nest_by (out-Nest N).before.items z (out-Nest N).after.items) none

pub holds_is : (N : WrittenNest) (b : Box WrittenLoop Global) (l : WrittenLoop) → (out-Nest N).inner ≡ Some b → l ≡ b.value → written.nest_of N ≡ trees.Holds (written.stmts_of (out-Nest N).before.items) (written.loop_of l) (written.stmts_of (out-Nest N).after.items)
holds_is N b l some same =
    nest_is N ∙ ap (λ z. nest_by (out-Nest N).before.items z (out-Nest N).after.items) some
    ∙ ap (λ z. trees.Holds (written.stmts_of (out-Nest N).before.items) (written.loop_of z) (written.stmts_of (out-Nest N).after.items)) (sym same)

-- ---- loops

pub looped_deep : (depth turns place : ℕ) (head : trees.Head) (body : trees.Nest) (s : State) → nat_lt depth most_loops ≡ false → looped depth turns (trees.For place head body) s ≡ Err (BadLoop place)
unfolding looped
looped_deep depth turns place head body s deep = rw deep refl

pub looped_fails_1 : (depth turns place : ℕ) (head : trees.Head) (body : trees.Nest) (s : State) (f : CheckFault) → nat_lt depth most_loops ≡ true → range_of s.names turns place head ≡ Err f → looped depth turns (trees.For place head body) s ≡ Err f
unfolding looped
looped_fails_1 depth turns place head body s f few h = rw (few, h) refl

pub looped_fails_2 : (depth turns place : ℕ) (head : trees.Head) (body : trees.Nest) (s : State) (r : Range) (f : CheckFault) → nat_lt depth most_loops ≡ true → range_of s.names turns place head ≡ Ok r → declared s.names head.counter (meanings.Counter depth) ≡ Err f
    → looped depth turns (trees.For place head body) s ≡ Err f
unfolding looped
looped_fails_2 depth turns place head body s r f few h g = rw (few, h, g) refl

pub looped_fails_3 : (depth turns place : ℕ) (head : trees.Head) (body : trees.Nest) (s : State) (r : Range) (N : Names) (n : ℕ) (f : CheckFault) → nat_lt depth most_loops ≡ true → range_of s.names turns place head ≡ Ok r → declared s.names head.counter (meanings.Counter depth) ≡ Ok N
    → n ≡ suc depth → nest n (turns * r.trips) body (record s { names = N }) ≡ Err f → looped depth turns (trees.For place head body) s ≡ Err f
unfolding looped
looped_fails_3 depth turns place head body s r N n f few h g next d = rw (few, h, g, ← next, d) refl

pub looped_goes : (depth turns place : ℕ) (head : trees.Head) (body : trees.Nest) (s : State) (r : Range) (N : Names) (n : ℕ) (x : Nested) (s0 : State) → nat_lt depth most_loops ≡ true → range_of s.names turns place head ≡ Ok r → declared s.names head.counter (meanings.Counter depth) ≡ Ok N
    → n ≡ suc depth → nest n (turns * r.trips) body (record s { names = N }) ≡ Ok (x, s0) → looped depth turns (trees.For place head body) s ≡ Ok ((r, x), s0)
unfolding looped
looped_goes depth turns place head body s r N n x s0 few h g next d = rw (few, h, g, ← next, d) refl

-- ---- what is in a loop

pub bare_fails : (depth turns : ℕ) (body : trees.Stmts) (s : State) (f : CheckFault) → stmts true body s ≡ Err f → nest depth turns (trees.Bare body) s ≡ Err f
unfolding nest
bare_fails depth turns body s f h = rw h refl

pub bare_goes : (depth turns : ℕ) (body : trees.Stmts) (s : State) (x : Stmts) (s0 : State) → stmts true body s ≡ Ok (x, s0) → nest depth turns (trees.Bare body) s ≡ Ok (record { levels = []; body = x }, s0)
unfolding nest
bare_goes depth turns body s x s0 h = rw h refl

pub holds_fails_1 : (depth turns : ℕ) (before : trees.Stmts) (inner : trees.Loop) (after : trees.Stmts) (s : State) (f : CheckFault) → stmts false before s ≡ Err f → nest depth turns (trees.Holds before inner after) s ≡ Err f
unfolding nest
holds_fails_1 depth turns before inner after s f h = rw h refl

pub holds_fails_2 : (depth turns : ℕ) (before : trees.Stmts) (inner : trees.Loop) (after : trees.Stmts) (s : State) (x : Stmts) (s0 : State) (f : CheckFault) → stmts false before s ≡ Ok (x, s0) → looped depth turns inner s0 ≡ Err f
    → nest depth turns (trees.Holds before inner after) s ≡ Err f
unfolding nest
holds_fails_2 depth turns before inner after s x s0 f h g = rw (h, g) refl

-- behind a loop, what was visible before it
behind_loop : (depth turns : ℕ) (inner : trees.Loop) (s0 : State) (w : Range × Nested) (s1 : State) (n : ℕ) (N : Names) → looped depth turns inner s0 ≡ Ok (w, s1) → n ≡ length s0.names → N ≡ drop (length s1.names - n) s1.names → s0.names ≡ N
behind_loop depth turns inner s0 w s1 n N g count is = looped_kept depth turns inner s0 w s1 g ∙ ap (λ n. drop (length s1.names - n) s1.names) (sym count) ∙ sym is

pub holds_fails_3 : (depth turns : ℕ) (before : trees.Stmts) (inner : trees.Loop) (after : trees.Stmts) (s : State) (x : Stmts) (s0 : State) (w : Range × Nested) (s1 : State) (n : ℕ) (N : Names) (f : CheckFault) → stmts false before s ≡ Ok (x, s0)
    → looped depth turns inner s0 ≡ Ok (w, s1) → n ≡ length s0.names → N ≡ drop (length s1.names - n) s1.names → stmts false after (record s1 { names = N }) ≡ Err f → nest depth turns (trees.Holds before inner after) s ≡ Err f
unfolding nest
holds_fails_3 depth turns before inner after s x s0 w s1 n N f h g count is d = rw (h, g, behind_loop depth turns inner s0 w s1 n N g count is, d) refl

pub holds_goes : (depth turns : ℕ) (before : trees.Stmts) (inner : trees.Loop) (after : trees.Stmts) (s : State) (x : Stmts) (s0 : State) (w : Range × Nested) (s1 : State) (n : ℕ) (N : Names) (y : Stmts) (s2 : State) → stmts false before s ≡ Ok (x, s0)
    → looped depth turns inner s0 ≡ Ok (w, s1) → n ≡ length s0.names → N ≡ drop (length s1.names - n) s1.names → stmts false after (record s1 { names = N }) ≡ Ok (y, s2)
    → nest depth turns (trees.Holds before inner after) s ≡ Ok (record { levels = record { before = x; range = w.0; after = y } ∷ w.1.levels; body = w.1.body }, s2)
unfolding nest
holds_goes depth turns before inner after s x s0 w s1 n N y s2 h g count is d = rw (h, g, behind_loop depth turns inner s0 w s1 n N g count is, d) refl
