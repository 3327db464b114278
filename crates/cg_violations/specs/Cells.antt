-- Violations by the marks and the claims in tables.
use Rattle.std.specs.Prelude.{ℕ, ◌+◌, ◌*◌, List, take}
use Rattle.cg_list_laws.specs.Below.{lists_below}
use Rattle.cg_model.specs.declared.mapping.Place.{Place}
use Rattle.cg_check.specs.declared.rule.Rule.{Rule}
use Rattle.cg_check.specs.declared.rule.Rule.TheVariants.{L3}
use Rattle.cg_check.specs.declared.rule.RulePlace.TheVariants as at
use Rattle.cg_check.specs.declared.rule.Violation.{Violation}
use Rattle.cg_check.specs.declared.stop.Cell.{Cell}
use Rattle.cg_check.specs.Rules.{is_shared}
use Rattle.cg_check.specs.Slots.{place_in}
use Rattle.cg_check.specs.Claims.{cell, is_clash}
use Rattle.cg_violations.specs.Violations.{violation_if}

-- a rule on resource r in slot s, if the table has a clash there
abbrev pub cell_violation : List Cell → ℕ → Rule → ℕ → ℕ → List Violation
cell_violation table ii rule r s = violation_if (is_clash (cell table (r * ii + s))) rule (at.Resource r s)

-- a rule on resource r, in all slots in which the table has a clash
abbrev pub row_violations : List Cell → ℕ → Rule → ℕ → List Violation
row_violations table ii rule r = lists_below (cell_violation table ii rule r) ii

-- L3, of place v among these
abbrev pub shared_violation : ℕ → List Place → ℕ → List Violation
shared_violation ii places v = violation_if (is_shared ii (take v places) (place_in places v)) L3 (at.Node v)
