-- The price of a path.
use Rattle.std.specs.Prelude.{ℕ, ◌+◌, List, [], ◌∷◌, Some}
use Rattle.cg_model.specs.Array.{delay}
use Rattle.cg_congestion.specs.Table.{Table, link_price}

-- the price of continuing from q, where the value of u is at time t, along a path
abbrev pub price_after : Table → ℕ → ℕ → ℕ → List ℕ → ℕ
price_after T u q t [] = 0
price_after T u q t (r ∷ path) =
    link_price T (record { source = u; resource = r; time = t + delay T.arch r; from = Some q })
    + price_after T u r (t + delay T.arch r) path

-- the price of a path that the value of u enters at time t: the sum over its links, by the present table
abbrev pub price : Table → ℕ → ℕ → List ℕ → ℕ
price T u t [] = 0
price T u t (q ∷ path) = price_after T u q t path
