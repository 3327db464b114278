-- The places that are reached from one place by tight links, forward, and backward if there is flow.
use Rattle.std.specs.Prelude.{◌≡◌, ℕ, ◌+◌, ◌<◌, ◌≤◌, ◌⊎◌, true, false, List, length, slice_index, slice_index_or}
use Rattle.cg_bound_flow.specs.declared.network.Link.{Link}
use Rattle.cg_bound_flow.specs.declared.reach.Step.{Step}
use Rattle.cg_bound_flow.specs.declared.reach.Reached.{Reached}
use Rattle.cg_bound_flow.specs.declared.chains.Chain.{Chain}
use Rattle.cg_bound_flow.specs.Network.{link, IsTight}
use Rattle.cg_bound_flow.specs.Chains.{IsChain}

-- the step past the last one
abbrev pub no_step : Step
no_step = record { place = 0; link = 0; back = false; before = 0 }

-- step i
abbrev pub step : List Step → ℕ → Step
step steps i = slice_index_or steps i no_step

-- step i goes over a tight link from the place of an earlier one
pub record IsMove (links : List Link) (flow at : List ℕ) (steps : List Step) (i : ℕ) (s : Step) : Type 0 where
  pub earlier : s.before < i
  pub known : s.link < length links
  pub tight : IsTight at (link links s.link)
  pub ends :
      ((s.back ≡ false) × ((link links s.link).from ≡ (step steps s.before).place) × ((link links s.link).to ≡ s.place))
      ⊎ ((s.back ≡ true) × ((link links s.link).to ≡ (step steps s.before).place) × ((link links s.link).from ≡ s.place) × (0 < slice_index flow s.link))

-- each reached place has one step, with 1 plus the step's number in `order`; all other places have 0
pub record IsLog (links : List Link) (flow at : List ℕ) (steps : List Step) (order : List ℕ) : Type 0 where
  pub each : length order ≡ length at
  pub moves : (i : ℕ) → 0 < i → i < length steps → IsMove links flow at steps i (step steps i)
  pub marks : (i : ℕ) → i < length steps → slice_index order (step steps i).place ≡ i + 1
  pub marked : (x : ℕ) → 0 < slice_index order x →
      (i : ℕ) × (i < length steps) × (slice_index order x ≡ i + 1) × ((step steps i).place ≡ x)

-- link k doesn't leave the reached places
abbrev pub IsDone : List Link → List ℕ → List ℕ → List ℕ → ℕ → Type 0
IsDone links flow at order k =
    IsTight at (link links k) →
    (0 < slice_index order (link links k).from → 0 < slice_index order (link links k).to)
    × (0 < slice_index flow k → 0 < slice_index order (link links k).to → 0 < slice_index order (link links k).from)

-- none of the first `count` links leaves the reached places
abbrev pub IsClosed : List Link → ℕ → List ℕ → List ℕ → List ℕ → Type 0
IsClosed links count flow at order = (k : ℕ) → k < count → IsDone links flow at order k

-- the places that are reached from `start`: all of them, unless `goal` is one
pub record IsReached (links : List Link) (count : ℕ) (flow at : List ℕ) (start goal : ℕ) (r : Reached) : Type 0 where
  pub log : IsLog links flow at r.steps.items r.order.items
  pub some : 0 < length r.steps.items
  pub first : (step r.steps.items 0).place ≡ start
  pub closed : slice_index r.order.items goal ≡ 0 → IsClosed links count flow at r.order.items

-- steps and marks were added
pub record IsLonger (steps : List Step) (order : List ℕ) (steps' : List Step) (order' : List ℕ) : Type 0 where
  pub longer : length steps ≤ length steps'
  pub same : (i : ℕ) → i < length steps → step steps' i ≡ step steps i
  pub wider : (x : ℕ) → 0 < slice_index order x → 0 < slice_index order' x

-- from a place in `order` link k leads to no place outside `order'`
abbrev pub IsCrossed : List Link → List ℕ → List ℕ → List ℕ → List ℕ → ℕ → Type 0
IsCrossed links flow at order order' k =
    IsTight at (link links k) →
    (0 < slice_index order (link links k).from → 0 < slice_index order' (link links k).to)
    × (0 < slice_index flow k → 0 < slice_index order (link links k).to → 0 < slice_index order' (link links k).from)

-- link k was visited
pub record IsVisited (links : List Link) (count : ℕ) (flow at : List ℕ) (steps : List Step) (order : List ℕ) (steps' : List Step) (order' : List ℕ) (k : ℕ) : Type 0 where
  pub log : IsLog links flow at steps' order'
  pub longer : IsLonger steps order steps' order'
  pub crossed : k < count → IsCrossed links flow at order order' k

-- the links of a place were visited, down from the last one to the one whose number is `more`
pub record IsFollowed (links : List Link) (count : ℕ) (flow at : List ℕ) (chain : Chain) (place : ℕ) (steps : List Step) (order : List ℕ) (steps' : List Step) (order' : List ℕ) (more : ℕ) : Type 0 where
  pub log : IsLog links flow at steps' order'
  pub longer : IsLonger steps order steps' order'
  pub within : more ≤ length links
  pub here : (end : ℕ → ℕ) → IsChain end (length at) (length links) chain → (k : ℕ) → more ≡ k + 1 → end k ≡ place
  pub crossed : (end : ℕ → ℕ) → IsChain end (length at) (length links) chain → (k : ℕ) → more ≤ k → k < count → k < length links → end k ≡ place → IsCrossed links flow at order order' k

-- those of the first `count` links that are at place x lead to no other place
abbrev pub IsWorked : List Link → ℕ → List ℕ → List ℕ → List ℕ → ℕ → Type 0
IsWorked links count flow at order x = (k : ℕ) → k < count → k < length links → IsTight at (link links k) →
    ((link links k).from ≡ x → 0 < slice_index order (link links k).to)
    × ((link links k).to ≡ x → 0 < slice_index flow k → 0 < slice_index order (link links k).from)

-- places are reached from `start`, and the links at the places of the first `done` steps lead to no other place
pub record IsSpread (links : List Link) (count : ℕ) (flow at : List ℕ) (start : ℕ) (steps : List Step) (order : List ℕ) (done : ℕ) : Type 0 where
  pub log : IsLog links flow at steps order
  pub some : 0 < length steps
  pub first : (step steps 0).place ≡ start
  pub within : done ≤ length steps
  pub worked : (i : ℕ) → i < done → IsWorked links count flow at order (step steps i).place
