-- The report texts of violations.
use Rattle.std.specs.Prelude.{ℕ, List, ◌++◌, codes, decimal}
use Rattle.cg_model.specs.Kernel.{Kernel, node}
use Rattle.cg_model.specs.Array.{Arch, resource}
use Rattle.cg_check.specs.declared.rule.Rule.{Rule}
use Rattle.cg_check.specs.declared.rule.Rule.TheVariants.{L1, L2, L3, L4, L5, L6, L7}
use Rattle.cg_check.specs.declared.rule.RulePlace.{RulePlace}
use Rattle.cg_check.specs.declared.rule.RulePlace.TheVariants as at

abbrev pub rule_code : Rule → List ℕ
rule_code L1 = codes "L1"
rule_code L2 = codes "L2"
rule_code L3 = codes "L3"
rule_code L4 = codes "L4"
rule_code L5 = codes "L5"
rule_code L6 = codes "L6"
rule_code L7 = codes "L7"

-- nodes and resources by their names
abbrev pub place_text : Arch → Kernel → RulePlace → List ℕ
place_text A K at.Mapping = codes "mapping"
place_text A K (at.Node v) = codes "node " ++ (node K v).name
place_text A K (at.Order e) = codes "order " ++ decimal e
place_text A K (at.Arg v a) = codes "arg " ++ ((node K v).name ++ (codes " " ++ decimal a))
place_text A K (at.Resource r s) = codes "resource " ++ ((resource A r).name ++ (codes " slot " ++ decimal s))

-- code and place
abbrev pub rule_text : Arch → Kernel → Rule → RulePlace → List ℕ
rule_text A K rule place = rule_code rule ++ (codes " " ++ place_text A K place)
