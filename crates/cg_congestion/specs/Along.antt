-- Steps along a path.
use Rattle.std.specs.Prelude.{ℕ, ◌+◌, List, Option, Some, None}
use Rattle.cg_model.specs.Array.{Arch, delay}
use Rattle.cg_model.specs.Mapping.{Position, positions_on, positions_after}

-- the time at which a value arrives on resource r that was at time t on the resource before it, or enters there
abbrev pub arrives : Arch → Option ℕ → ℕ → ℕ → ℕ
arrives A None t r = t
arrives A (Some q) t r = t + delay A r

-- the positions of the rest of a path
abbrev pub positions_from : Arch → ℕ → Option ℕ → ℕ → List ℕ → List Position
positions_from A u None t path = positions_on A u t path
positions_from A u (Some q) t path = positions_after A u q t path
