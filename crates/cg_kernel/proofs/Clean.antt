-- Where no fault was found, none applies anywhere.
use Rattle.std.proofs.Common.{◌≡◌, ℕ, zero, suc, subst, List, [], ◌∷◌, Some, None, false, cond, refl, arith}
use Rattle.std.specs.Prelude.{slice_get}
use Rattle.std.specs.Option.{option_map, option_or}
use Rattle.cg_model.specs.First.{first_from}
use Rattle.cg_model.proofs.Options.{cond_none, or_none, map_none}
use Rattle.cg_model.proofs.Positions.{first_from_none}
use Rattle.cg_kernel.specs.Written.{WrittenNode, WrittenEdge, WrittenKernel}
use Rattle.cg_kernel.specs.Rules.{Rule, applies_to_file, applies_to_node, applies_to_edge, first_place, fault_at, first_fault, all_rules}
use Rattle.cg_kernel.specs.declared.fault.KernelPlace.TheVariants as place
use Rattle.cg_kernel.specs.declared.rule.Rule.TheVariants.{TooLarge, BadName, RepeatedName, UnknownOp, WrongOperandCount, UnknownNode, NoValue, BackEdgeWithoutDistance, BadDistance, InitCount, TwoConstants, BadPort, RepeatedOutputPort}

-- the fault applies nowhere
pub record IsAbsent (rule : Rule) (w : WrittenKernel) : Type 0 where
  pub file : applies_to_file rule w ≡ false
  pub nodes : (v : ℕ) (n : WrittenNode) → slice_get w.nodes v ≡ Some n → applies_to_node rule w v n ≡ false
  pub edges : (e : ℕ) (x : WrittenEdge) → slice_get w.order e ≡ Some x → applies_to_edge rule w x ≡ false

absent : (rule : Rule) (w : WrittenKernel) → first_place rule w ≡ None → IsAbsent rule w
unfolding first_place
absent rule w none =
    let parts = or_none (cond (applies_to_file rule w) (Some place.File) None) (option_or (option_map place.Node (first_from (applies_to_node rule w) 0 w.nodes)) (option_map place.Order (first_from (λ e edge. applies_to_edge rule w edge) 0 w.order))) none in
    let lists = or_none (option_map place.Node (first_from (applies_to_node rule w) 0 w.nodes)) (option_map place.Order (first_from (λ e edge. applies_to_edge rule w edge) 0 w.order)) parts.1 in
    record {
      file = (cond_none (applies_to_file rule w) place.File None parts.0).0;
      nodes = λ v n at. first_from_none (applies_to_node rule w) 0 w.nodes v v n (map_none place.Node _ lists.0) at (omega arith);
      edges = λ e x at. first_from_none (λ e edge. applies_to_edge rule w edge) 0 w.order e e x (map_none place.Order _ lists.1) at (omega arith);
    }

-- each of the faults that were looked for is absent
among : (rules : List Rule) (i : ℕ) (rule : Rule) (w : WrittenKernel) → slice_get rules i ≡ Some rule → first_fault rules w ≡ None → IsAbsent rule w
among [] i rule w at none = let bad : None ≡ Some rule = at in absurd (cc)
among (r ∷ rs) zero rule w at none =
    let same : r ≡ rule = cc in
    let P : Rule → Type 0 = λ x. IsAbsent x w in
    subst P same (absent r w (map_none (fault_at r) (first_place r w) (or_none (option_map (fault_at r) (first_place r w)) (first_fault rs w) none).0))
among (r ∷ rs) (suc i) rule w at none = among rs i rule w at (or_none (option_map (fault_at r) (first_place r w)) (first_fault rs w) none).1

-- none of the faults applies anywhere
pub record IsClean (w : WrittenKernel) : Type 0 where
  pub too_large : IsAbsent TooLarge w
  pub bad_name : IsAbsent BadName w
  pub repeated_name : IsAbsent RepeatedName w
  pub unknown_op : IsAbsent UnknownOp w
  pub wrong_count : IsAbsent WrongOperandCount w
  pub unknown_node : IsAbsent UnknownNode w
  pub no_value : IsAbsent NoValue w
  pub back_edge : IsAbsent BackEdgeWithoutDistance w
  pub bad_distance : IsAbsent BadDistance w
  pub init_count : IsAbsent InitCount w
  pub two_constants : IsAbsent TwoConstants w
  pub bad_port : IsAbsent BadPort w
  pub repeated_port : IsAbsent RepeatedOutputPort w

pub clean : (w : WrittenKernel) → first_fault all_rules w ≡ None → IsClean w
clean w none = record {
  too_large = among all_rules 1 TooLarge w refl none;
  bad_name = among all_rules 2 BadName w refl none;
  repeated_name = among all_rules 3 RepeatedName w refl none;
  unknown_op = among all_rules 4 UnknownOp w refl none;
  wrong_count = among all_rules 5 WrongOperandCount w refl none;
  unknown_node = among all_rules 6 UnknownNode w refl none;
  no_value = among all_rules 7 NoValue w refl none;
  back_edge = among all_rules 8 BackEdgeWithoutDistance w refl none;
  bad_distance = among all_rules 9 BadDistance w refl none;
  init_count = among all_rules 10 InitCount w refl none;
  two_constants = among all_rules 11 TwoConstants w refl none;
  bad_port = among all_rules 12 BadPort w refl none;
  repeated_port = among all_rules 13 RepeatedOutputPort w refl none;
}
