-- Networks of links, each of which keeps two places apart.
use Rattle.std.specs.Prelude.{◌≡◌, ℕ, ◌+◌, ◌*◌, ◌^◌, ◌<◌, ◌≤◌, List, length, slice_index, slice_index_or}
use Rattle.cg_bound_flow.specs.declared.network.Link.{Link}
use Rattle.cg_bound_flow.specs.declared.network.Part.TheVariants.{Least}

-- the link past the last one
abbrev pub no_link : Link
no_link = record { from = 0; to = 0; gain = 0; loss = 0; part = Least 0 }

-- link k
abbrev pub link : List Link → ℕ → Link
link links k = slice_index_or links k no_link

-- links between n places, by gains and losses that are small
pub record IsGraph (n : ℕ) (links : List Link) : Type 0 where
  pub few : n ≤ 2 ^ 12
  pub short : length links ≤ 2 ^ 14
  pub from : (k : ℕ) → k < length links → (link links k).from < n
  pub to : (k : ℕ) → k < length links → (link links k).to < n
  pub gains : (k : ℕ) → k < length links → (link links k).gain ≤ 2 ^ 32
  pub losses : (k : ℕ) → k < length links → (link links k).loss ≤ 2 ^ 32

-- a link is kept by the times of its ends, and is tight on them
abbrev pub IsKept : List ℕ → Link → Type 0
IsKept at l = slice_index at l.from + l.gain ≤ slice_index at l.to + l.loss

abbrev pub IsTight : List ℕ → Link → Type 0
IsTight at l = slice_index at l.from + l.gain ≡ slice_index at l.to + l.loss

-- the first `count` links are kept, and those with a flow are tight
abbrev pub AreKept : List Link → ℕ → List ℕ → List ℕ → Type 0
AreKept links count flow at = (k : ℕ) → k < count → IsKept at (link links k) × (0 < slice_index flow k → IsTight at (link links k))
