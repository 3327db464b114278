-- Declarations before a function.
use Rattle.std.proofs.Common.{◌≡◌, List, [], ◌∷◌, ◌++◌, refl, ap}
use Rattle.cg_c_syntax.specs.declared.expression.Named.{Named}
use Rattle.cg_c_syntax.specs.declared.source.Global.{Global}
use Rattle.cg_c_syntax.specs.Tree.{Source}
use Rattle.cg_c_syntax.specs.Grammar.{with_global}
use Rattle.cg_c_syntax.specs.Written.{global_of}
use Rattle.cg_c_reader.specs.declared.read.Body.{Body}
use Rattle.cg_c_reader.specs.Parts.{with_globals, function_of, whole_of}

pub globals_push : (gs : List Global) (g : Global) (s : Source) → with_globals (gs ++ g ∷ []) s ≡ with_globals gs (with_global (global_of g) s)
globals_push [] g s = refl
globals_push (x ∷ gs) g s = ap (with_global (global_of x)) (globals_push gs g s)

pub globals_all : (gs : List Global) (name : Named) (b : Body) → with_globals gs (function_of name b) ≡ whole_of gs name b
globals_all [] name b = refl
globals_all (g ∷ gs) name b = ap (with_global (global_of g)) (globals_all gs name b)
