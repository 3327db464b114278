-- The configuration that a mapping requires of the array.
use Rattle.std.specs.Prelude.{ℕ, zero, suc, ◌+◌, ◌-◌, ◌/◌, ◌%◌, eqb, max, ◌&&◌, if◌then◌else◌, true, false, List, [], ◌∷◌, ◌++◌, length, map, replicate, Option, Some, None}
use Rattle.std.specs.List.{range_with_len}
use Rattle.cg_model.specs.Kernel.{Kernel, Node, Operand, Constant, Edge, size, node}
use Rattle.cg_model.specs.Array.{Arch, resource}
use Rattle.cg_model.specs.Mapping.{Mapping, Place, Position, place, positions}
use Rattle.cg_model.specs.Config.{Config, ArgFields, UnitFields, no_arg, off}

-- the first position of q among the drivers, counted from 0
abbrev pub place_of : ℕ → List ℕ → ℕ
place_of q [] = 0
place_of q (d ∷ ds) = if eqb d q then 0 else suc (place_of q ds)

-- the select that a route position requires: the position of its driver in the list, counted from 1
abbrev pub selected : List ℕ → Option ℕ → ℕ
selected drivers None = 0
selected drivers (Some q) = suc (place_of q drivers)

-- the select of resource r at a slot, by the first route position there; in a legal mapping all route positions there
-- require the same select
abbrev pub select_in : Arch → ℕ → ℕ → ℕ → List Position → ℕ
select_in A ii r slot [] = 0
select_in A ii r slot (p ∷ ps) =
    if eqb p.resource r && eqb (p.time % ii) slot
    then selected (resource A r).drivers p.from
    else select_in A ii r slot ps

-- the last of the first n nodes that is on unit x at a slot; a legal mapping has at most one there
abbrev pub node_on : Mapping → ℕ → ℕ → ℕ → Option ℕ
node_on M x slot zero = None
node_on M x slot (suc v) =
    if eqb (place M v).unit x && eqb ((place M v).time % M.ii) slot then Some v else node_on M x slot v

-- the first constant operand, or 0
abbrev pub constant : List Operand → ℕ
constant [] = 0
constant (Constant w ∷ os) = w
constant (Edge u d init ∷ os) = constant os

-- the list, filled up with x to length k
abbrev pub padded : {X : Type 0} → ℕ → X → List X → List X
padded k x xs = xs ++ replicate (k - length xs) x

-- the argument fields that an operand requires: for a constant the mode bit, for an edge of distance d the count d and
-- its initial words
abbrev pub arg_fields : Operand → ArgFields
arg_fields (Constant w) = record { fixed = true; count = 0; init = replicate 4 0 }
arg_fields (Edge u d init) = record { fixed = false; count = d; init = padded 4 0 init }

-- the fields that a node requires of its unit: its operation, stage, port, constant and arguments
abbrev pub node_fields : Node → ℕ → UnitFields
node_fields v stage =
    record {
      op = Some v.op;
      stage = stage;
      port = v.port;
      immediate = constant v.operands;
      args = padded 3 no_arg (map arg_fields v.operands);
    }

-- the fields that the node there requires, at stage time / ii; all off where there is no node
abbrev pub fields_by : Kernel → Mapping → Option ℕ → UnitFields
fields_by K M None = off
fields_by K M (Some v) = node_fields (node K v) ((place M v).time / M.ii)

-- 1 plus the greatest stage, or 1
abbrev pub stages_of : ℕ → List Place → ℕ
stages_of ii [] = 1
stages_of ii (p ∷ ps) = max (p.time / ii + 1) (stages_of ii ps)

-- the configuration of a mapping: selects by the positions of its routes, fields by its places, everything else zero
unfoldable pub configuration_of : Arch → Kernel → Mapping → Config
configuration_of A K M =
    record {
      ii = M.ii;
      stages = stages_of M.ii M.places;
      selects =
          map
          (λ slot.
          map (λ r. select_in A M.ii r slot (positions A K M)) (range_with_len 0 (length A.resources)))
          (range_with_len 0 M.ii);
      units =
          map
          (λ slot.
          map (λ x. fields_by K M (node_on M x slot (size K))) (range_with_len 0 (length A.units)))
          (range_with_len 0 M.ii);
    }
