-- The JSON value that a mapping is printed as.
use Rattle.std.specs.Prelude.{ℕ, ◌+◌, List, [], ◌∷◌, map, codes, slice_index_or}
use Rattle.serde_json.specs.Data.{Data, string, array, object, no_members, member}
use Rattle.serde_json.specs.View.{items_of}
pub use Rattle.cg_json.specs.Members.{word_data}
use Rattle.cg_model.specs.Array.{Arch}
use Rattle.cg_model.specs.declared.array.Kind.TheVariants.{Wire}
use Rattle.cg_model.specs.declared.array.Resource.{Resource}
use Rattle.cg_model.specs.declared.array.Unit.{Unit}
use Rattle.cg_model.specs.Kernel.{Kernel}
use Rattle.cg_model.specs.Mapping.{Mapping}
use Rattle.cg_model.specs.declared.kernel.Node.{Node}
use Rattle.cg_model.specs.declared.mapping.Place.{Place}
use Rattle.cg_model.specs.declared.mapping.Route.{Route}
use Rattle.cg_mapping.specs.Complete.{name_at}

-- the name of unit x, and the name of resource r
abbrev pub unit_name : List Unit → ℕ → List ℕ
unit_name units x = (slice_index_or units x (record { name = []; ops = []; latency = 1; ports = []; out = 0 })).name

abbrev pub resource_name : List Resource → ℕ → List ℕ
resource_name resources r = (slice_index_or resources r (record { name = []; kind = Wire; drivers = [] })).name

-- the place of node v, with its keys in alphabetical order
abbrev pub place_data : List Node → List Unit → ℕ → Place → Data
place_data nodes units v p = object
    (member (codes "node") (string (name_at nodes v))
    (member (codes "time") (word_data p.time)
    (member (codes "unit") (string (unit_name units p.unit)) no_members)))

-- the places of the nodes from v on
abbrev pub places_data : List Node → List Unit → ℕ → List Place → List Data
places_data nodes units v [] = []
places_data nodes units v (p ∷ ps) = place_data nodes units v p ∷ places_data nodes units (v + 1) ps

-- a resource of a path
abbrev pub step_data : List Resource → ℕ → Data
step_data resources r = string (resource_name resources r)

abbrev pub route_data : List Node → List Resource → Route → Data
route_data nodes resources r = object
    (member (codes "arg") (word_data r.arg)
    (member (codes "path") (array (items_of (map (step_data resources) r.path)))
    (member (codes "to") (string (name_at nodes r.node)) no_members)))

abbrev pub mapping_data : List Node → List Unit → List Resource → Mapping → Data
mapping_data nodes units resources M = object
    (member (codes "format") (string (codes "cgm1"))
    (member (codes "ii") (word_data M.ii)
    (member (codes "places") (array (items_of (places_data nodes units 0 M.places)))
    (member (codes "routes") (array (items_of (map (route_data nodes resources) M.routes))) no_members))))

-- the value that a mapping of the kernel on the architecture is printed as
unfoldable pub data_of : Arch → Kernel → Mapping → Data
data_of A K M = mapping_data K.nodes A.units A.resources M
