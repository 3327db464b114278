-- Worked rows. Each expected value is worked out by hand.
use Rattle.std.proofs.Common.{◌≡◌, ℕ, List, [], ◌∷◌, None, refl}
use Rattle.std.specs.Prelude.{codes}
use Rattle.cg_word.specs.declared.op.Op.TheVariants.{Iter, Add, Output}
use Rattle.cg_model.specs.declared.array.Kind.TheVariants.{Register, Port, Out}
use Rattle.cg_parts.specs.declared.parts.Element.TheVariants as element
use Rattle.cg_parts.specs.declared.parts.Parts.{Parts}
use Rattle.cg_parts.specs.Parts.{entries, distinct}
use Rattle.cg_parts.specs.Rules.{fault_before_loops, unit_or_contexts_fault}
use Rattle.cg_validate.specs.Flat.{arch_of}
use Rattle.cg_validate.specs.Hub.{hub_fault}

-- a register and a unit with two ports, each driven by the unit and the register; the register's list names the unit twice
abbrev tile : List (List ℕ) → Parts
tile hub = record {
  name = codes "t1";
  contexts = 4;
  memory = 16;
  elements =
      element.Register (codes "r") (codes "u_o" ∷ codes "r" ∷ codes "u_o" ∷ [])
      ∷ element.Unit (codes "u") (Iter ∷ Add ∷ Output ∷ []) 1 ((codes "u_o" ∷ codes "r" ∷ []) ∷ (codes "u_o" ∷ codes "r" ∷ []) ∷ [])
      ∷ [];
  hub = hub;
}

-- the register is resource 0, the ports are 1 and 2, the out is 3
arch_of_tile : arch_of (tile (codes "r" ∷ [])) ≡ record {
  name = codes "t1";
  contexts = 4;
  memory = 16;
  resources =
      record { name = codes "r"; kind = Register; drivers = 3 ∷ 0 ∷ [] }
      ∷ record { name = codes "u_a"; kind = Port; drivers = 3 ∷ 0 ∷ [] }
      ∷ record { name = codes "u_b"; kind = Port; drivers = 3 ∷ 0 ∷ [] }
      ∷ record { name = codes "u_o"; kind = Out; drivers = [] }
      ∷ [];
  units = record { name = codes "u"; ops = Iter ∷ Add ∷ Output ∷ []; latency = 1; ports = 1 ∷ 2 ∷ []; out = 3 } ∷ [];
  hub = 0 ∷ [];
}
unfolding arch_of entries distinct
arch_of_tile = refl

no_fault_before_loops : fault_before_loops (tile (codes "r" ∷ [])) ≡ None
unfolding fault_before_loops entries distinct
no_fault_before_loops = refl

no_unit_or_contexts_fault : unit_or_contexts_fault (tile (codes "r" ∷ [])) ≡ None
unfolding unit_or_contexts_fault
no_unit_or_contexts_fault = refl

complete_hub : hub_fault (tile (codes "r" ∷ [])) (arch_of (tile (codes "r" ∷ []))) ≡ None
unfolding hub_fault arch_of entries distinct
complete_hub = refl
