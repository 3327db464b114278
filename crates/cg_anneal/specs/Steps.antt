-- The parts of a step of the walk.
use Rattle.std.specs.Prelude.{◌≡◌, ℕ, if◌then◌else◌, List, [], ◌∷◌, Option, Some, None}
use Rattle.cg_model.specs.declared.mapping.Route.{Route}
use Rattle.cg_walk_spec.specs.declared.edge.EdgeOperand.{EdgeOperand}
use Rattle.rand_pcg.specs.Lcg.{Lcg}
use Rattle.cg_place.specs.declared.moves.Move.{Move}
use Rattle.cg_walk_spec.specs.State.{State, cost}
use Rattle.cg_walk_spec.specs.Walk.{with_route, IsTried, is_taken, IsMove}
use Rattle.cg_anneal.specs.Walking.{Walking, at_state}

-- these edge operands get these routes, one after another
abbrev pub put_back : List ℕ → List (Option (List ℕ)) → State → State
put_back [] routes S = S
put_back (i ∷ is) [] S = S
put_back (i ∷ is) (route ∷ routes) S = put_back is routes (with_route S i route)

-- a move was tried, and accepted or rejected by a word
pub record IsAttempt (W : Walking) (m : Move) (moves k word : ℕ) (V : Walking) : Type 0 where
  pub tried : State
  pub is_tried : IsTried W.arch W.kernel W.ii m W.state tried
  pub same : V ≡ at_state W (if is_taken moves k (cost W.arch W.kernel W.ii W.state) (cost W.arch W.kernel W.ii tried) word then tried else W.state)

-- move k of the walk was made, with the generator's next four words
pub record IsStep (W : Walking) (moves k : ℕ) (g : Lcg) (V : Walking) : Type 0 where
  pub same : V ≡ at_state W V.state
  pub move : IsMove W.arch W.kernel W.ii W.early moves k g W.state V.state

-- the route of an edge operand, if it has one
abbrev pub route_of : EdgeOperand → Option (List ℕ) → List Route
route_of e None = []
route_of e (Some path) = record { node = e.node; arg = e.arg; path = path } ∷ []
