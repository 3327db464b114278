-- Placements: where and when each node of a kernel begins on an architecture, during the search for a modulo schedule
-- (Rau 1994). A unit may still begin several nodes in a slot, and times may break order edges.
use Rattle.std.specs.Prelude.{◌≡◌, ℕ, ◌<◌, ◌≤◌, true, List, length, map, filter, slice_index, slice_index_or, slice_set}
use Rattle.std.specs.List.{range_with_len}
use Rattle.cg_word.specs.declared.op.Op.{Op}
use Rattle.cg_word.specs.Sets.{among}
use Rattle.cg_model.specs.Limits.{most_contexts, latest_time}
use Rattle.cg_model.specs.Kernel.{Kernel, IsKernel, size, node}
use Rattle.cg_model.specs.Array.{Arch, unit}
use Rattle.cg_model.specs.declared.mapping.Place.{Place}
use Rattle.cg_place.specs.declared.moves.Move.{Move}

-- a kernel's nodes on an architecture, at an interval of ii cycles: the earliest time and the place of
-- each node
pub record Placed : Type 0 where
  pub arch : Arch
  pub kernel : Kernel
  pub ii : ℕ
  pub early : List ℕ
  pub places : List Place

-- the place of node v
abbrev pub place_in : List Place → ℕ → Place
place_in places v = slice_index_or places v (record { unit = 0; time = 0 })

-- the units that offer an operation, ascending
abbrev pub offering : Arch → Op → List ℕ
offering A op = filter (λ x. among (unit A x).ops op) (range_with_len 0 (length A.units))

-- each operation of the kernel is offered by some unit
abbrev pub IsOffered : Arch → Kernel → Type 0
IsOffered A K = (v : ℕ) → v < size K → 0 < length (offering A (node K v).op)

-- each node has an earliest time, which is one of a mapping
pub record AreEarly (K : Kernel) (early : List ℕ) : Type 0 where
  pub each : length early ≡ size K
  pub soon : (v : ℕ) → v < size K → slice_index early v ≤ latest_time

-- node v may be placed on unit x: both exist, and the unit offers the node's operation
pub record MayStand (A : Arch) (K : Kernel) (v x : ℕ) : Type 0 where
  pub known : v < size K
  pub within : x < length A.units
  pub offered : among (unit A x).ops (node K v).op ≡ true

-- what holds of each placement: of a valid kernel, at an interval of at least one cycle, each node is placed on a unit
-- that offers its operation
pub record IsPlacement (P : Placed) : Type 0 where
  pub kernel : IsKernel P.kernel
  pub some : 0 < P.ii
  pub few : P.ii ≤ most_contexts
  pub offered : IsOffered P.arch P.kernel
  pub early : AreEarly P.kernel P.early
  pub each : length P.places ≡ size P.kernel
  pub stand : (v : ℕ) → v < size P.kernel → MayStand P.arch P.kernel v (place_in P.places v).unit

-- node v at its earliest time on the first unit that offers its operation
abbrev pub first_place : Arch → Kernel → List ℕ → ℕ → Place
first_place A K early v =
    record { unit = slice_index (offering A (node K v).op) 0; time = slice_index early v }

-- each node at its earliest time on the first unit that offers its operation
abbrev pub first_places : Arch → Kernel → List ℕ → List Place
first_places A K early = map (first_place A K early) (range_with_len 0 (size K))

-- ---- moves

-- the move's node may be placed on its unit, at any time
abbrev pub IsMove : Placed → Move → Type 0
IsMove P m = MayStand P.arch P.kernel m.node m.place.unit

-- the places after a move
abbrev pub moved : List Place → Move → List Place
moved places m = slice_set places m.node m.place

-- the move that undoes a move
abbrev pub back : List Place → Move → Move
back places m = record { node = m.node; place = place_in places m.node }

-- a placement after a move
abbrev pub after : Placed → Move → Placed
after P m = record P { places = moved P.places m }

-- a move and the move that undoes it leave a placement unchanged
abbrev pub IsUndone : Type 0
IsUndone = (P : Placed) (m : Move) → after (after P m) (back P.places m) ≡ P
