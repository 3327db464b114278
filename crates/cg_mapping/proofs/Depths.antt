-- What is printed has no float, and is shallow.
use Rattle.std.proofs.Common.{◌≡◌, ℕ, ◌+◌, ◌≤◌, ◌||◌, List, [], ◌∷◌, map, false, refl, ap, ◌∙◌, arith}
use Rattle.serde_json.specs.Data.{depth, items_depth}
use Rattle.serde_json.specs.View.{items_of}
use Rattle.serde_json.specs.Written.{has_float, items_have_float}
use Rattle.cg_model.specs.Array.{Arch}
use Rattle.cg_model.specs.Kernel.{Kernel}
use Rattle.cg_model.specs.Mapping.{Mapping}
use Rattle.cg_model.specs.declared.array.Resource.{Resource}
use Rattle.cg_model.specs.declared.array.Unit.{Unit}
use Rattle.cg_model.specs.declared.kernel.Node.{Node}
use Rattle.cg_model.specs.declared.mapping.Place.{Place}
use Rattle.cg_model.specs.declared.mapping.Route.{Route}
use Rattle.cg_mapping.specs.Printed.{step_data, places_data, route_data, data_of}
use Rattle.cg_json.proofs.Depths.{items_no_float, items_depth-at_most}

places_no_float : (nodes : List Node) (units : List Unit) (v : ℕ) (ps : List Place) → items_have_float (items_of (places_data nodes units v ps)) ≡ false
places_no_float nodes units v [] = refl
places_no_float nodes units v (p ∷ ps) = places_no_float nodes units (v + 1) ps

route_no_float : (nodes : List Node) (resources : List Resource) (r : Route) → has_float (route_data nodes resources r) ≡ false
route_no_float nodes resources r = ap (λ b. b || false) (items_no_float (step_data resources) r.path (λ _. refl))

pub data_of-no_float : (A : Arch) (K : Kernel) (M : Mapping) → has_float (data_of A K M) ≡ false
unfolding data_of
data_of-no_float A K M =
    ap (λ b. b || (items_have_float (items_of (map (route_data K.nodes A.resources) M.routes)) || false)) (places_no_float K.nodes A.units 0 M.places)
    ∙ ap (λ b. b || false) (items_no_float (route_data K.nodes A.resources) M.routes (route_no_float K.nodes A.resources))

places_depth : (nodes : List Node) (units : List Unit) (v : ℕ) (ps : List Place) → items_depth (items_of (places_data nodes units v ps)) ≤ 1
places_depth nodes units v [] = omega arith
places_depth nodes units v (p ∷ ps) = let rest = places_depth nodes units (v + 1) ps in omega (arith, rest)

route_depth : (nodes : List Node) (resources : List Resource) (r : Route) → depth (route_data nodes resources r) ≤ 2
route_depth nodes resources r = let path = items_depth-at_most (step_data resources) 0 r.path (λ _. omega arith) in omega (arith, path)

pub data_of-depth : (A : Arch) (K : Kernel) (M : Mapping) → depth (data_of A K M) ≤ 127
unfolding data_of
data_of-depth A K M =
    let places = places_depth K.nodes A.units 0 M.places in
    let routes = items_depth-at_most (route_data K.nodes A.resources) 2 M.routes (route_depth K.nodes A.resources) in
    omega (arith, places, routes)
