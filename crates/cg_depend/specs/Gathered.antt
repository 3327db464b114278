-- The state of the code while it gathers the edges.
use Rattle.std.specs.Prelude.{◌≡◌, ℕ, ◌+◌, ◌<◌, ◌≤◌, ◌++◌, Bool, true, false, List, [], ◌∷◌, length, Option, Some, None, option_map, slice_index_or}
use Rattle.cg_model.specs.declared.kernel.OrderEdge.{OrderEdge}
use Rattle.cg_word.specs.declared.op.Op.{Op}
use Rattle.cg_word.specs.Word.{is_access, is_store}
use Rattle.cg_model.specs.Kernel.{Kernel, node, size}
use Rattle.cg_model.specs.Limits.{most_order_edges}
use Rattle.cg_depend.specs.declared.addresses.Address.{Address}
use Rattle.cg_depend.specs.declared.accesses.Role.{Role}
use Rattle.cg_depend.specs.declared.accesses.Role.TheVariants.{Apart, Loads, Stores}
use Rattle.cg_depend.specs.declared.gather.Needed.{Needed}
use Rattle.cg_depend.specs.Affine.{AffinePair, pair_of, address_pair}
use Rattle.cg_depend.specs.Depend.{Ask, Added}

-- the pair of an address
abbrev pub pair_in : Address → AffinePair
pair_in l = pair_of l.base l.stride

-- the role of a node that stores or not, and accesses the memory or not
abbrev pub role_by : Bool → Bool → Role
role_by true accesses = Stores
role_by false true = Loads
role_by false false = Apart

abbrev pub role_of : Op → Role
role_of op = role_by (is_store op) (is_access op)

-- both access the memory, and at least one stores
abbrev pub meet : Role → Role → Bool
meet Apart other = false
meet Loads Apart = false
meet Loads Loads = false
meet Loads Stores = true
meet Stores Apart = false
meet Stores Loads = true
meet Stores Stores = true

-- each node has its role
pub record HasRoles (K : Kernel) (roles : List Role) : Type 0 where
  pub long : length roles ≡ size K
  pub each : (v : ℕ) → v < size K → slice_index_or roles v Apart ≡ role_of (node K v).op

-- each node has the pair of its address
pub record HasAddresses (K : Kernel) (addresses : List (Option Address)) : Type 0 where
  pub long : length addresses ≡ size K
  pub each : (v : ℕ) → v < size K → option_map pair_in (slice_index_or addresses v None) ≡ address_pair K v

abbrev pub ask : ℕ → ℕ → ℕ → Ask
ask source target least = record { source = source; target = target; least = least }

-- the list of one item or none
abbrev pub list_of : Option OrderEdge → List OrderEdge
list_of None = []
list_of (Some e) = e ∷ []

-- from `old` to `new` the edges es were added: all are counted, and kept while there are at most 4,096
pub record Gains (es : List OrderEdge) (old new : Needed) : Type 0 where
  pub total : new.total ≡ old.total + length es
  pub kept : new.total ≤ most_order_edges → new.edges.items ≡ old.edges.items ++ es

-- from `old` to `new` the edges that answer the questions qs were added
abbrev pub Answers : Kernel → List Ask → Needed → Needed → Type 0
Answers K qs old new = (es : List OrderEdge) × Added K qs es × Gains es old new

-- these questions of the kernel were asked: the total number of its order edges and of the edges that answer them is
-- known, and, unless there are too many, the edges that answer them
pub record IsGathered (K : Kernel) (qs : List Ask) (needed : Needed) : Type 0 where
  pub edges : List OrderEdge
  pub are : Added K qs edges
  pub total : needed.total ≡ length K.order + length edges
  pub kept : needed.total ≤ most_order_edges → needed.edges.items ≡ edges
