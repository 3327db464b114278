-- Typed programs, by their parts.
use Rattle.std.proofs.Common.{◌≡◌, List, map, Ok, Err, sym, ap, ◌∙◌, refl}
use Rattle.cg_c_syntax.specs.declared.source.Global.{Global as WrittenGlobal}
use Rattle.cg_c_syntax.specs.declared.source.Source.{Source as WrittenSource}
use Rattle.cg_c_syntax.specs.declared.statement.Stmt.{Stmt as WrittenStmt}
use Rattle.cg_c_syntax.specs.Tree as trees
use Rattle.cg_c_syntax.specs.Written as written
use Rattle.cg_c_check.specs.declared.names.Meaning.TheVariants as meanings
use Rattle.cg_c_check.specs.Faults.{CheckFault}
use Rattle.cg_c_check.specs.Names.{Names, declared}
use Rattle.cg_c_check.specs.Walk.{State}
use Rattle.cg_c_check.specs.Check.{Nested, nest, globals, walked, beginning, checked}

pub walked_fails_1 : (S : WrittenSource) (gs : List WrittenGlobal) (s : State) (f : CheckFault) → gs ≡ S.globals.items → globals (map written.global_of gs) s ≡ Err f → walked (written.source_of S) s ≡ Err f
unfolding walked
walked_fails_1 S gs s f same h = rw (← same, h) refl

pub walked_fails_2 : (S : WrittenSource) (gs : List WrittenGlobal) (s s0 : State) (f : CheckFault) → gs ≡ S.globals.items → globals (map written.global_of gs) s ≡ Ok (tt, s0) → declared s0.names S.name meanings.Function ≡ Err f
    → walked (written.source_of S) s ≡ Err f
unfolding walked
walked_fails_2 S gs s s0 f same h g = rw (← same, h, g) refl

pub walked_is : (S : WrittenSource) (gs : List WrittenGlobal) (s s0 : State) (N : Names) (firsts lasts : List WrittenStmt) → gs ≡ S.globals.items → globals (map written.global_of gs) s ≡ Ok (tt, s0) → declared s0.names S.name meanings.Function ≡ Ok N
    → firsts ≡ S.before.items → lasts ≡ S.after.items → walked (written.source_of S) s ≡ nest 0 1 (trees.Holds (written.stmts_of firsts) (written.loop_of S.outer) (written.stmts_of lasts)) (record s0 { names = N })
unfolding walked
walked_is S gs s s0 N firsts lasts same h g first last = rw (← same, h, g, first, last) refl

pub checked_fails : (S : WrittenSource) (s : State) (f : CheckFault) → s ≡ beginning → walked (written.source_of S) s ≡ Err f → checked (written.source_of S) ≡ Err f
unfolding checked
checked_fails S s f is h = let k : walked (written.source_of S) beginning ≡ Err f = ap (walked (written.source_of S)) (sym is) ∙ h in rw k refl

pub checked_goes : (S : WrittenSource) (s : State) (n : Nested) (s0 : State) → s ≡ beginning → walked (written.source_of S) s ≡ Ok (n, s0)
    → checked (written.source_of S) ≡ Ok (record { name = S.name.name; arrays = s0.arrays; words = s0.words; levels = n.levels; body = n.body })
unfolding checked
checked_goes S s n s0 is h = let k : walked (written.source_of S) beginning ≡ Ok (n, s0) = ap (walked (written.source_of S)) (sym is) ∙ h in rw k refl
