-- Loops that are typed have no inputs before and after them.
use Rattle.std.proofs.Common.{List, [], ◌∷◌}
use Rattle.cg_c_check.specs.declared.program.Array.{Array}
use Rattle.cg_c_check.specs.Program.{Level}
use Rattle.cg_c_meaning.specs.Typed.{AreTypedLevels}
use Rattle.cg_c_meaning.proofs.Taking.{none_stmts}
use Rattle.cg_c_turn.specs.Nested.{AreQuiet}
use Rattle.cg_c_turn.proofs.Everywhere.{stmts_everywhere}

pub quiet_levels : (arrays : List Array) (levels : List Level) → AreTypedLevels arrays levels → AreQuiet arrays levels
quiet_levels arrays [] h = tt
quiet_levels arrays (l ∷ ls) h =
    (stmts_everywhere arrays l.before h.0, stmts_everywhere arrays l.after h.1, none_stmts arrays l.before h.0, none_stmts arrays l.after h.1, quiet_levels arrays ls h.2)
