use Rattle.cg_c_values.specs.Listed.{listed}
use Rattle.cg_c_turn.proofs.Addressing.{PlacesFrom}
use Rattle.cg_c_turn.proofs.loads.place_of.Given as goal

-- the place among the rows of the dimensions so far
abbrev pub invariant-loop-k : goal.invariant-loop-k
invariant-loop-k l = PlacesFrom (listed l.initial.values) (listed l.values) l.dimensions l.indices l.k l.place
