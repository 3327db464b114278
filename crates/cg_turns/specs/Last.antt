-- The list of the kept accesses to a word: first the last store, or a mark where there is none, then the loads since.
use Rattle.std.specs.Prelude.{◌≡◌, List, [], ◌∷◌, Option, Some, None, nat_eq, if◌then◌else◌}
use Rattle.cg_turns.specs.declared.pair.Access.{Access}
use Rattle.cg_turns.specs.Trace.{Kept, nothing_kept, IsThinned, Takes}

-- the placeholder for the store where there is none: no node has this number
abbrev pub no_store : Access
no_store = record { node = 4294967295; turn = 0 }

-- the store in the store's entry, if there is one
abbrev pub store_at : Access → Option Access
store_at x = if nat_eq x.node no_store.node then None else Some x

-- the accesses in a list
abbrev pub kept_in : List Access → Kept
kept_in [] = nothing_kept
kept_in (x ∷ loads) = record { store = store_at x; loads = loads }

-- a list with an entry for the store
abbrev pub with_store_place : List Access → List Access
with_store_place [] = no_store ∷ []
with_store_place (x ∷ loads) = x ∷ loads

-- the loads after the store's entry were thinned
abbrev pub IsThinnedBehind : List Access → List Access → Type 0
IsThinnedBehind (x ∷ old) (y ∷ new) = (y ≡ x) × IsThinned old new
IsThinnedBehind old new = ⊥

-- a load was recorded after the store's entry
abbrev pub TakesBehind : Access → List Access → List Access → Type 0
TakesBehind x (y ∷ old) (z ∷ new) = (z ≡ y) × Takes x old new
TakesBehind x old new = ⊥
