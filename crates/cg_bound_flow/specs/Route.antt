-- Links that are made kept one after another, and values that are routed one after another.
use Rattle.std.specs.Prelude.{◌≡◌, ℕ, ◌+◌, ◌-◌, ◌*◌, ◌^◌, ◌<◌, ◌≤◌, eqb, Bool, true, false, List, length, slice_index, slice_index_or, Option, Some, None}
use Rattle.cg_bound_registers.specs.Pressure.{one_if}
use Rattle.cg_bound_flow.specs.declared.network.Link.{Link}
use Rattle.cg_bound_flow.specs.declared.network.Part.TheVariants.{Stay}
use Rattle.cg_bound_flow.specs.declared.settle.Blocked.{Blocked}
use Rattle.cg_bound_flow.specs.Network.{link, AreKept}
use Rattle.cg_bound_flow.specs.Reach.{IsReached}
use Rattle.cg_bound_flow.specs.Push.{into, out_of, IsPushed}

-- the first `count` links are kept, by times that are small
pub record IsSettling (links : List Link) (flow : List ℕ) (n count : ℕ) (at : List ℕ) : Type 0 where
  pub kept : AreKept links count flow at
  pub each : length at ≡ n
  pub near : (x : ℕ) → slice_index at x ≤ count * 2 ^ 45

-- all links are kept; or one isn't, although its beginning is reached from its end
abbrev pub IsSettled : List Link → List ℕ → ℕ → List ℕ → Option Blocked → Type 0
IsSettled links flow n at None = IsSettling links flow n (length links) at
IsSettled links flow n at (Some b) =
    (b.link < length links) × (length at ≡ n) × IsReached links b.link flow at (link links b.link).to (link links b.link).from b.reached
    × (0 < slice_index b.reached.order.items (link links b.link).from)
    × (slice_index at (link links b.link).to + (link links b.link).loss < slice_index at (link links b.link).from + (link links b.link).gain)

-- one value is routed from place a to place b
pub record IsRouted (links : List Link) (flow at : List ℕ) (a b : ℕ) (flow' at' : List ℕ) : Type 0 where
  pub kept : AreKept links (length links) flow' at'
  pub each : length at' ≡ length at
  pub flows : length flow' ≡ length flow
  pub near : (most : ℕ) → ((x : ℕ) → slice_index at x ≤ most) → (x : ℕ) → slice_index at' x ≤ most + 2 ^ 45
  pub small : (k : ℕ) → slice_index flow' k ≤ slice_index flow k + 1
  pub balanced : (x : ℕ) → into links flow' x + out_of links flow x + 1 * one_if (eqb a x) ≡ into links flow x + out_of links flow' x + 1 * one_if (eqb b x)

-- the flow enters at the places of nodes whose value is routed, and leaves at the places of their last uses
pub record IsCirculation (n : ℕ) (links : List Link) (flow : List ℕ) (routed : List Bool) : Type 0 where
  pub times : (w : ℕ) → w < n → into links flow w ≡ out_of links flow w
  pub leaves : (w : ℕ) → w < n → into links flow (n + w) + one_if (slice_index_or routed w false) ≡ out_of links flow (n + w)
  pub ends : (w : ℕ) → w < n → into links flow (n + n + w) ≡ out_of links flow (n + n + w) + one_if (slice_index_or routed w false)

-- the last use of node u's value is no sooner than the value leaves
abbrev pub IsSpan : ℕ → List Link → ℕ → Type 0
IsSpan n links u = (u < n) × ((f t : List ℕ) → AreKept links (length links) f t → slice_index t (n + u) ≤ slice_index t (n + n + u))

-- some values are routed, by times and flows that are small
pub record IsRouting (n : ℕ) (links : List Link) (count : ℕ) (flow at : List ℕ) (routed : List Bool) : Type 0 where
  pub kept : AreKept links (length links) flow at
  pub each : length at ≡ n + n + n
  pub flows : length flow ≡ length links
  pub marks : length routed ≡ n
  pub near : (x : ℕ) → slice_index at x ≤ 2 ^ 59 + count * 2 ^ 45
  pub small : (k : ℕ) → slice_index flow k ≤ count
  pub circulation : IsCirculation n links flow routed
  pub spans : (w : ℕ) → slice_index_or routed w false ≡ true → IsSpan n links w

-- the values of the stays among the first `count` links are routed
abbrev pub AreRouted : ℕ → List Link → ℕ → List Bool → Type 0
AreRouted n links count routed = (k v p : ℕ) → k < count → (link links k).part ≡ Stay v p → slice_index_or routed ((link links k).to - (n + n)) false ≡ true

-- one more value is routed
pub record IsRoutedToo (n : ℕ) (links : List Link) (count u : ℕ) (flow at : List ℕ) (routed routed' : List Bool) : Type 0 where
  pub routing : IsRouting n links (count + 1) flow at routed'
  pub here : slice_index_or routed' u false ≡ true
  pub still : (w : ℕ) → slice_index_or routed w false ≡ true → slice_index_or routed' w false ≡ true

-- the links that are stays end at places of last uses
abbrev pub HasSpans : ℕ → List Link → Type 0
HasSpans n links = (k v p : ℕ) → k < length links → (link links k).part ≡ Stay v p → ((link links k).to ≡ n + n + ((link links k).to - (n + n))) × IsSpan n links ((link links k).to - (n + n))
