-- The lines of violations, with the names of the nodes or resources that meet.
use Rattle.std.specs.Prelude.{ℕ, ◌%◌, Bool, ◌&&◌, not, eqb, if◌then◌else◌, List, [], ◌∷◌, ◌++◌, Option, Some, None, take, flat_map, codes, decimal}
use Rattle.cg_model.specs.First.{first_such}
use Rattle.cg_model.specs.Kernel.{Kernel, node}
use Rattle.cg_model.specs.Array.{Arch, resource, unit}
use Rattle.cg_model.specs.Mapping.{Mapping, Position, place, positions}
use Rattle.cg_check.specs.declared.rule.Rule.{Rule}
use Rattle.cg_check.specs.declared.rule.Rule.TheVariants.{L3, L6}
use Rattle.cg_check.specs.declared.rule.RulePlace.{RulePlace}
use Rattle.cg_check.specs.declared.rule.RulePlace.TheVariants as at
use Rattle.cg_check.specs.declared.rule.Violation.{Violation}
use Rattle.cg_check.specs.declared.stop.Sharing.{Sharing}
use Rattle.cg_check.specs.declared.stop.Sharing.TheVariants.{Value, Way}
use Rattle.cg_check.specs.Rules.{same_value, same_way, is_on, first_below}
use Rattle.cg_check.specs.Texts.{rule_code}
use Rattle.cg_violations.specs.Violations.{violations_of}

-- ---- nodes and positions that meet

-- node w has the unit and the slot of node v
abbrev pub meets : Mapping → ℕ → ℕ → Bool
meets M v w = eqb (place M w).unit (place M v).unit && eqb ((place M w).time % M.ii) ((place M v).time % M.ii)

-- the first node before v that has v's unit and slot
abbrev pub first_meeting : Mapping → ℕ → Option ℕ
first_meeting M v = first_below (λ w. if meets M v w then Some w else None) v

-- the first of these positions on resource r in slot s
abbrev pub first_on : ℕ → List Position → ℕ → ℕ → Option Position
first_on ii ps r s = first_such (is_on ii r s) ps

-- the first there that isn't alike with the given one, and so a later one if that is the first there
abbrev pub first_unlike : (Position → Position → Bool) → ℕ → List Position → ℕ → ℕ → Option Position → Option Position
first_unlike alike ii ps r s None = None
first_unlike alike ii ps r s (Some p) = first_such (λ q. is_on ii r s q && not (alike p q)) ps

-- ---- names

-- of a node; empty if there is none
abbrev pub node_name : Kernel → Option ℕ → List ℕ
node_name K None = []
node_name K (Some v) = (node K v).name

-- of the node whose value is at a position
abbrev pub source_name : Kernel → Option Position → List ℕ
source_name K None = []
source_name K (Some p) = (node K p.source).name

-- of the resource from which a position comes; a dash if it begins its path
abbrev pub from_name : Arch → Option ℕ → List ℕ
from_name A None = codes "-"
from_name A (Some q) = (resource A q).name

abbrev pub way_name : Arch → Option Position → List ℕ
way_name A None = []
way_name A (Some p) = from_name A p.from

-- ---- lines

-- a node that shares its unit and slot: the unit and the slot, the first node there, and the node itself
abbrev pub shared_text : Arch → Kernel → Mapping → ℕ → List ℕ
shared_text A K M v =
    codes "unit " ++ ((unit A (place M v).unit).name ++ (codes " slot " ++ (decimal ((place M v).time % M.ii) ++ (codes " " ++
    (node_name K (first_meeting M v) ++ (codes " " ++ (node K v).name))))))

-- at L3 the text of the shared unit and slot, else the node by its name
abbrev pub node_text : Arch → Kernel → Mapping → Rule → ℕ → List ℕ
node_text A K M L3 v = shared_text A K M v
node_text A K M _ v = codes "node " ++ (node K v).name

-- two that meet on a resource in a slot, by name
abbrev pub meeting_text : Arch → ℕ → ℕ → List ℕ → List ℕ → List ℕ
meeting_text A r s first second =
    codes "resource " ++ ((resource A r).name ++ (codes " slot " ++ (decimal s ++ (codes " " ++ (first ++ (codes " " ++ second))))))

-- what positions that meet must share by the rule
abbrev pub sharing_of : Rule → Sharing
sharing_of L6 = Value
sharing_of _ = Way

-- at L6 the nodes whose values meet, else the resources from which they come
abbrev pub resource_text : Arch → Kernel → ℕ → List Position → Sharing → ℕ → ℕ → List ℕ
resource_text A K ii ps Value r s =
    meeting_text A r s (source_name K (first_on ii ps r s)) (source_name K (first_unlike same_value ii ps r s (first_on ii ps r s)))
resource_text A K ii ps Way r s =
    meeting_text A r s (way_name A (first_on ii ps r s)) (way_name A (first_unlike same_way ii ps r s (first_on ii ps r s)))

-- the place at which a rule is violated
abbrev pub place_text : Arch → Kernel → Mapping → Rule → RulePlace → List ℕ
place_text A K M rule at.Mapping = codes "mapping"
place_text A K M rule (at.Node v) = node_text A K M rule v
place_text A K M rule (at.Order e) = codes "order " ++ decimal e
place_text A K M rule (at.Arg v a) = codes "edge " ++ ((node K v).name ++ (codes "." ++ decimal a))
place_text A K M rule (at.Resource r s) = resource_text A K M.ii (positions A K M) (sharing_of rule) r s

-- a violation as a line
unfoldable pub fault_line : Arch → Kernel → Mapping → Violation → List ℕ
fault_line A K M v = codes "fault " ++ (rule_code v.rule ++ (codes " " ++ (place_text A K M v.rule v.place ++ 10 ∷ [])))

-- the lines of the first `most` violations
unfoldable pub fault_lines : Arch → Kernel → Mapping → ℕ → List ℕ
fault_lines A K M most = flat_map (fault_line A K M) (take most (violations_of A K M))
