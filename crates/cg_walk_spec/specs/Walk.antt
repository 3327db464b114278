-- The walk: simulated annealing (DRESC, Mei et al. 2002) over placements and routes. It starts at the first places,
-- moves a node at a time by the words of a generator, and ends at the first state of cost 0 or after a given number of
-- moves.
use Rattle.std.specs.Prelude.{◌≡◌, ℕ, suc, ◌+◌, ◌-◌, ◌*◌, ◌/◌, ◌%◌, ◌^◌, ◌<◌, ◌⊎◌, nat_lt, nat_le, eqb, min, ◌||◌, if◌then◌else◌, Bool, List, [], ◌∷◌, length, map, filter, replicate, Option, None, slice_index_or, slice_set}
use Rattle.std.specs.List.{range_with_len}
use Rattle.rand_pcg.specs.Lcg.{Lcg}
use Rattle.cg_model.specs.Kernel.{Kernel}
use Rattle.cg_model.specs.Array.{Arch}
use Rattle.cg_congestion.specs.Table.{aged}
use Rattle.cg_route.specs.Least.{IsFound}
use Rattle.cg_place.specs.declared.moves.Move.{Move}
use Rattle.cg_place.specs.Placed.{first_places, moved}
use Rattle.cg_place.specs.Draws.{drawn_move}
use Rattle.cg_walk_spec.specs.Words.{generator, after_words, word}
use Rattle.cg_walk_spec.specs.State.{State, EdgeOperand, edges, ends_of, table_of_state, cost}

-- ---- routing

-- edge operand number i
abbrev pub edge : Kernel → ℕ → EdgeOperand
edge K i = slice_index_or (edges K) i (record { node = 0; arg = 0; source = 0; distance = 0 })

-- the numbers of all edge operands
abbrev pub all_edges : Kernel → List ℕ
all_edges K = range_with_len 0 (length (edges K))

-- edge operand i with that route, or without one
abbrev pub with_route : State → ℕ → Option (List ℕ) → State
with_route S i route = record S { routes = slice_set S.routes i route }

-- the result of the search for edge operand i: the least path between its ends given the uses of all routes, or none
abbrev pub IsFoundFor : Arch → Kernel → ℕ → State → ℕ → Option (List ℕ) → Type 0
IsFoundFor A K ii S i found =
    IsFound (table_of_state A K ii S) (edge K i).source (ends_of A ii S.places (edge K i)) found

-- these edge operands are routed one after another, each seeing the claims of those before
abbrev pub IsRouted : Arch → Kernel → ℕ → List ℕ → State → State → Type 0
IsRouted A K ii [] S after = S ≡ after
IsRouted A K ii (i ∷ is) S after =
    (found : Option (List ℕ)) × IsFoundFor A K ii S i found × IsRouted A K ii is (with_route S i found) after

-- ---- the start

-- each node at its first place, nothing routed, no history
abbrev pub unrouted_start : Arch → Kernel → ℕ → List ℕ → State
unrouted_start A K ii early =
    record {
      places = first_places A K early;
      routes = map (λ e. None) (edges K);
      history = replicate (length A.resources * ii) 0;
    }

-- then all edge operands are routed in order
abbrev pub IsStart : Arch → Kernel → ℕ → List ℕ → State → Type 0
IsStart A K ii early S = IsRouted A K ii (all_edges K) (unrouted_start A K ii early) S

-- ---- moves

-- edge operand i is one of node v, or has v for its source
abbrev pub touches : Kernel → ℕ → ℕ → Bool
touches K v i = eqb (edge K i).node v || eqb (edge K i).source v

-- those edge operands, in order
abbrev pub touching : Kernel → ℕ → List ℕ
touching K v = filter (touches K v) (all_edges K)

-- without the routes of these edge operands
abbrev pub unrouted : List ℕ → State → State
unrouted [] S = S
unrouted (i ∷ is) S = unrouted is (with_route S i None)

-- the routes into and out of the move's node are removed, and the node is placed
abbrev pub moved_by : Kernel → Move → State → State
moved_by K m S =
    let S' = unrouted (touching K m.node) S in record S' { places = moved S'.places m }

-- the move that a generator's next three words determine
abbrev pub proposal : Arch → Kernel → ℕ → List ℕ → Lcg → Move
proposal A K ii early g = drawn_move A K ii early (word 0 g) (word 1 g) (word 2 g)

-- the move is tried: the edge operands of the node, and those whose source it is, are routed anew
abbrev pub IsTried : Arch → Kernel → ℕ → Move → State → State → Type 0
IsTried A K ii m S tried = IsRouted A K ii (touching K m.node) (moved_by K m S) tried

-- how much hotter the walk is at its start than at its end
abbrev pub hottest : ℕ
hottest = 64

-- how hot the walk is at move k
abbrev pub heat : ℕ → ℕ → ℕ
heat moves k = 1 + hottest * (moves - k) / moves

-- move k is accepted, by the random word `chance`: always where the cost doesn't rise, else with a chance that halves
-- with each `heat` of the rise
abbrev pub is_taken : ℕ → ℕ → ℕ → ℕ → ℕ → Bool
is_taken moves k before after chance =
    nat_le after before || nat_lt chance (2 ^ 32 / 2 ^ min 31 ((after - before) / heat moves k))

-- the state with grown histories at nodes with excess
abbrev pub aged_state : Arch → Kernel → ℕ → State → State
aged_state A K ii S = record S { history = aged (table_of_state A K ii S) }

-- the number of moves after which the histories grow
abbrev pub period : ℕ
period = 64

-- the state after move k: the histories grow after every `period` moves
abbrev pub rested : Arch → Kernel → ℕ → ℕ → State → State
rested A K ii k S = if eqb ((k + 1) % period) 0 then aged_state A K ii S else S

-- move k, by the generator's next four words: a move is tried, and accepted or rejected
abbrev pub IsMove : Arch → Kernel → ℕ → List ℕ → ℕ → ℕ → Lcg → State → State → Type 0
IsMove A K ii early moves k g S after =
    (tried : State) × IsTried A K ii (proposal A K ii early g) S tried ×
    (after ≡ rested A K ii k (if is_taken moves k (cost A K ii S) (cost A K ii tried) (word 3 g) then tried else S))

-- ---- the walk

-- after k of at most `moves` moves, the walk with that seed has that generator and that state: it makes a further move
-- where its state has a cost and moves are left
pub data Walked (A : Arch) (K : Kernel) (ii : ℕ) (early : List ℕ) (moves seed : ℕ) : ℕ → Lcg → State → Type 0 where
  start : {S : State} → IsStart A K ii early S → Walked A K ii early moves seed 0 (generator seed ii) S
  more : {k : ℕ} {g : Lcg} {S after : State} → Walked A K ii early moves seed k g S → k < moves →
      0 < cost A K ii S → IsMove A K ii early moves k g S after →
      Walked A K ii early moves seed (suc k) (after_words 4 g) after

-- the walk ends there: at the first state of cost 0, or after all its moves
abbrev pub IsEnd : Arch → Kernel → ℕ → List ℕ → ℕ → ℕ → ℕ → Lcg → State → Type 0
IsEnd A K ii early moves seed k g S =
    Walked A K ii early moves seed k g S × ((cost A K ii S ≡ 0) ⊎ (k ≡ moves))
