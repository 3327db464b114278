-- The number of nodes of a guard.
use Rattle.std.specs.Prelude.{ℕ, Option, Some, None}
use Rattle.cg_loop_syntax.specs.Loop.{Expr}
use Rattle.cg_loop_laws.specs.Translate.{cost}

abbrev pub guard_cost : Option Expr → ℕ
guard_cost None = 0
guard_cost (Some g) = cost g
