-- Positions of routes, claimed one after another in a table of resources and slots.
use Rattle.std.specs.Prelude.{ℕ, ◌+◌, ◌*◌, ◌%◌, Bool, true, false, if◌then◌else◌, List, [], ◌∷◌, Option, Some, None, slice_index_or, slice_set}
use Rattle.cg_model.specs.Array.{Arch, delay}
use Rattle.cg_model.specs.Mapping.{Position}
use Rattle.cg_check.specs.Rules.{Rule, L6, L7, same_value, same_way, first_below}
use Rattle.cg_check.specs.declared.rule.RulePlace.{RulePlace}
use Rattle.cg_check.specs.declared.rule.RulePlace.TheVariants as at
pub use Rattle.cg_check.specs.declared.stop.Stop.{Stop}
pub use Rattle.cg_check.specs.declared.stop.Sharing.{Sharing}
pub use Rattle.cg_check.specs.declared.stop.Sharing.TheVariants.{Value, Way}
pub use Rattle.cg_check.specs.declared.stop.Cell.{Cell}
pub use Rattle.cg_check.specs.declared.stop.Cell.TheVariants.{Free, Held, Clash}

-- the position of a stop
abbrev pub position_of : Stop → Position
position_of s = record { source = s.source; resource = s.resource; time = s.time; from = s.from }

abbrev pub stop_of : Position → Stop
stop_of p = record { source = p.source; resource = p.resource; time = p.time; from = p.from }

-- the next stop on a path
abbrev pub next_of : Arch → Stop → ℕ → Stop
next_of A s r = record { source = s.source; resource = r; time = s.time + delay A r; from = Some s.resource }

-- they share what they must
abbrev pub alike : Sharing → Position → Position → Bool
alike Value p q = same_value p q
alike Way p q = same_way p q

-- the rule of a sharing
abbrev pub rule_of : Sharing → Rule
rule_of Value = L6
rule_of Way = L7

-- the cell of a resource in a slot after one more position there
abbrev pub with_claim : Sharing → Cell → Position → Cell
with_claim sharing Free p = Held (stop_of p)
with_claim sharing (Held q) p = if alike sharing (position_of q) p then Held q else Clash
with_claim sharing Clash p = Clash

-- cell i of a table
abbrev pub cell : List Cell → ℕ → Cell
cell table i = slice_index_or table i Free

-- the cell of a position: those of a resource are adjacent, by slot
abbrev pub index_of : ℕ → Position → ℕ
index_of ii p = p.resource * ii + p.time % ii

-- a table after one more position; one past the end changes nothing
unfoldable pub claimed : Sharing → ℕ → List Cell → Position → List Cell
claimed sharing ii table p = slice_set table (index_of ii p) (with_claim sharing (cell table (index_of ii p)) p)

-- a table after more positions
abbrev pub claims : Sharing → ℕ → List Cell → List Position → List Cell
claims sharing ii table [] = table
claims sharing ii table (p ∷ ps) = claims sharing ii (claimed sharing ii table p) ps

abbrev pub is_clash : Cell → Bool
is_clash Free = false
is_clash (Held q) = false
is_clash Clash = true

-- resource r in slot s, if it has a clash there
abbrev pub clash_at : List Cell → ℕ → ℕ → ℕ → Option RulePlace
clash_at table ii r s = if is_clash (cell table (r * ii + s)) then Some (at.Resource r s) else None

-- the least slot in which a resource has a clash
abbrev pub clash_on : List Cell → ℕ → ℕ → Option RulePlace
clash_on table ii r = first_below (clash_at table ii r) ii

-- the least resource that has a clash
abbrev pub clash_in : List Cell → ℕ → ℕ → Option RulePlace
clash_in table ii resources = first_below (clash_on table ii) resources
