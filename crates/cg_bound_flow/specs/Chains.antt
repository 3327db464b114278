-- The links of each place.
use Rattle.std.specs.Prelude.{◌≡◌, ℕ, ◌+◌, ◌<◌, ◌≤◌, List, length, slice_index}
use Rattle.cg_bound_flow.specs.declared.network.Link.{Link}
use Rattle.cg_bound_flow.specs.declared.chains.Chain.{Chain}
use Rattle.cg_bound_flow.specs.declared.chains.Incidence.{Incidence}
use Rattle.cg_bound_flow.specs.Network.{link}

-- a chain over n places and m links leads to earlier links
pub record IsLinked (n m : ℕ) (c : Chain) : Type 0 where
  pub places : length c.last.items ≡ n
  pub each : length c.earlier.items ≡ m
  pub within : (x : ℕ) → slice_index c.last.items x ≤ m
  pub before : (k : ℕ) → slice_index c.earlier.items k ≤ k

-- from the last link of place x it leads through all links k at x, where end k is the place of link k
pub record IsChain (end : ℕ → ℕ) (n m : ℕ) (c : Chain) : Type 0 where
  pub linked : IsLinked n m c
  pub first : (x k : ℕ) → slice_index c.last.items x ≡ k + 1 → end k ≡ x
  pub none : (x k : ℕ) → k < m → end k ≡ x → k < slice_index c.last.items x
  pub next : (k j : ℕ) → k < m → slice_index c.earlier.items k ≡ j + 1 → end j ≡ end k
  pub between : (k j : ℕ) → k < m → j < k → end j ≡ end k → j < slice_index c.earlier.items k

-- the places where links begin and end
abbrev pub begin_of : List Link → ℕ → ℕ
begin_of links k = (link links k).from

abbrev pub end_of : List Link → ℕ → ℕ
end_of links k = (link links k).to

-- the links that begin and end at each of n places
pub record IsIncidence (links : List Link) (n : ℕ) (i : Incidence) : Type 0 where
  pub begins : IsChain (begin_of links) n (length links) i.begins
  pub ends : IsChain (end_of links) n (length links) i.ends
