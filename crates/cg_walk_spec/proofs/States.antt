-- Worked values of a state: a running sum, of which node 0 is on a unit of latency 2 and node 1 on one of latency 1
-- with two ports.
use Rattle.std.proofs.Common.{◌≡◌, ℕ, List, [], ◌∷◌, Option, Some, None, replicate, refl}
use Rattle.cg_word.specs.declared.op.Op.TheVariants.{Iter, Add}
use Rattle.cg_model.specs.declared.array.Kind.TheVariants.{Wire}
use Rattle.cg_model.specs.declared.kernel.Operand.TheVariants.{Edge}
use Rattle.cg_model.specs.declared.mapping.Place.{Place}
use Rattle.cg_model.specs.Kernel.{Kernel}
use Rattle.cg_model.specs.Array.{Arch}
use Rattle.cg_congestion.specs.Claims.{claims_at}
use Rattle.cg_walk_spec.specs.State.{State, edges, ends_of, state_positions, cost}
use Rattle.cg_walk_spec.specs.Walk.{edge, touching, aged_state}

sum : Kernel
sum = record {
  nodes =
      record { name = []; op = Iter; port = 0; operands = [] }
      ∷ record { name = []; op = Add; port = 0; operands = Edge 0 0 [] ∷ Edge 1 1 (0 ∷ []) ∷ [] }
      ∷ [];
  order = record { from = 0; to = 1; distance = 0 } ∷ [];
}

array : Arch
array = record {
  name = [];
  contexts = 4;
  memory = 0;
  resources = replicate 8 (record { name = []; kind = Wire; drivers = [] });
  units =
      record { name = []; ops = Iter ∷ []; latency = 2; ports = []; out = 7 }
      ∷ record { name = []; ops = Add ∷ []; latency = 1; ports = 3 ∷ 4 ∷ []; out = 5 }
      ∷ [];
  hub = [];
}

at_times : ℕ → ℕ → List Place
at_times t s = record { unit = 0; time = t } ∷ record { unit = 1; time = s } ∷ []

-- in the order of arguments
edges_of_sum : edges sum ≡ record { node = 1; arg = 0; source = 0; distance = 0 } ∷ record { node = 1; arg = 1; source = 1; distance = 1 } ∷ []
unfolding edges sum
edges_of_sum = refl

-- the source's latency, the target's port
first_ends : ends_of array 3 (at_times 0 2) (edge sum 0) ≡ record { from = 7; start = 2; to = 3; end = 2 }
unfolding edges sum array at_times
first_ends = refl

-- a turn later
second_ends : ends_of array 3 (at_times 0 2) (edge sum 1) ≡ record { from = 5; start = 3; to = 4; end = 5 }
unfolding edges sum array at_times
second_ends = refl

-- node 1 touches its operands, node 0 the one whose source it is
touching_first : touching sum 0 ≡ 0 ∷ []
unfolding edges sum
touching_first = refl

touching_second : touching sum 1 ≡ 0 ∷ 1 ∷ []
unfolding edges sum
touching_second = refl

state : ℕ → ℕ → Option (List ℕ) → Option (List ℕ) → State
state t s a b = record { places = at_times t s; routes = a ∷ b ∷ []; history = replicate 8 0 }

-- nothing routed
missing_both : cost array sum 1 (state 0 2 None None) ≡ 2000
unfolding cost state_positions edges sum array at_times state claims_at
missing_both = refl

-- one route, and node 1 begins with node 0 though an order edge is between them
broken_order : cost array sum 1 (state 2 2 (Some (7 ∷ 3 ∷ [])) None) ≡ 2000
unfolding cost state_positions edges sum array at_times state claims_at
broken_order = refl

-- both routes go by resource 6, at times that an interval of 1 makes one slot
both_by_six : cost array sum 1 (state 0 2 (Some (7 ∷ 6 ∷ 3 ∷ [])) (Some (5 ∷ 6 ∷ 4 ∷ []))) ≡ 1
unfolding cost state_positions edges sum array at_times state claims_at
both_by_six = refl

-- so the history of resource 6 grows
six_ages : (aged_state array sum 1 (state 0 2 (Some (7 ∷ 6 ∷ 3 ∷ [])) (Some (5 ∷ 6 ∷ 4 ∷ [])))).history ≡ 0 ∷ 0 ∷ 0 ∷ 0 ∷ 0 ∷ 0 ∷ 1 ∷ 0 ∷ []
unfolding state_positions edges sum array at_times state claims_at
six_ages = refl

-- at an interval of 3 they are in slots 2 and 0
apart_by_slots : cost array sum 3 (state 0 2 (Some (7 ∷ 6 ∷ 3 ∷ [])) (Some (5 ∷ 6 ∷ 4 ∷ []))) ≡ 0
unfolding cost state_positions edges sum array at_times state claims_at
apart_by_slots = refl
