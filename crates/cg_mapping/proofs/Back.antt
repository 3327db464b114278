-- What is printed of a mapping reads back as that mapping.
use Rattle.std.proofs.Common.{◌≡◌, ℕ, zero, suc, ◌+◌, ◌<◌, ◌≤◌, ◌^◌, ◌==◌, List, [], ◌∷◌, length, map, Some, None, Ok, Bool, true, false, cond, refl, ap, sym, ◌∙◌, arith, lit<, IsUtf8}
use Rattle.std.specs.Prelude.{slice_get}
use Rattle.std.specs.Option.{option_map, option_and_then, option_map_or}
use Rattle.std.specs.List.{position_from, range_with_len}
use Rattle.std.proofs.lemmas.Bool.{le-ltb, eq-eqb, eqb-true, and_parts, and_from}
use Rattle.std.proofs.lemmas.List.{length-map}
use Rattle.std.proofs.lemmas.List.FromFn.{length-range_with_len}
use Rattle.std.proofs.lemmas.Option.{slice_get_within, slice_get-get_or, get_or_from_slice_get}
use Rattle.serde_json.specs.Find.{as_str}
use Rattle.serde_json.specs.Read.{read}
use Rattle.serde_json.specs.View.{items_of}
use Rattle.cg_model.specs.Limits.{latest_time}
use Rattle.cg_model.specs.Array.{Arch, IsArch}
use Rattle.cg_model.specs.Kernel.{Kernel, IsKernel, size, node, no_node}
use Rattle.cg_model.specs.Mapping.{Mapping, End, end_of, ends_from, IsShaped}
use Rattle.cg_model.specs.declared.array.Resource.{Resource}
use Rattle.cg_model.specs.declared.array.Unit.{Unit}
use Rattle.cg_model.specs.declared.kernel.Node.{Node}
use Rattle.cg_model.specs.declared.mapping.Place.{Place}
use Rattle.cg_model.specs.declared.mapping.Route.{Route}
use Rattle.cg_reading.specs.Items.{all_of, all_or_first, and_rest}
use Rattle.cg_json.specs.Members.{listed}
use Rattle.cg_json.proofs.Reading.{value_of-read, listed-items_of}
use Rattle.cg_json.proofs.Elements.{all_of-map, all_or_first-map, word_back}
use Rattle.cg_mapping.specs.Written.{WrittenPlace, WrittenRoute, WrittenMapping, place_in, place_from, route_in, route_from, joined, written_from, written_of}
use Rattle.cg_mapping.specs.Rules.{NodePlace, NamedMapping, first_of, place_has_other, route_has_other, is_late, is_long, unknown_key, too_large}
use Rattle.cg_mapping.specs.Names as names
use Rattle.cg_mapping.specs.Names.{node_number, unit_number, resource_number, takes_edge, is_edge, place_of, place_at, route_of, route_at, end_at, named_of}
use Rattle.cg_mapping.specs.Complete.{is_of_node, only_place, ends_at, only_route, node_fault, arg_fault, places_of, routes_of, mapping_from, mapping_of, name_at}
use Rattle.cg_mapping.specs.Answer.{answer_within, answer_named, answer_known, answer_written, answer_in, answer_of}
use Rattle.cg_mapping.specs.Limits.{greatest_interval, longest_path}
use Rattle.cg_mapping.specs.Sound.{NamesParts, IsWithinLimits}
use Rattle.cg_mapping.specs.Printed.{unit_name, resource_name, places_data, step_data, route_data, data_of}
use Rattle.cg_mapping.proofs.Answered.{edge_few}
use Rattle.cg_mapping.proofs.Once.{number_back, only_back, each_back, edge_from, ends_once}
use Rattle.cg_model.proofs.Lookups.{get_map}

-- ---- what is written of a mapping

abbrev pub written_places : List Node → List Unit → ℕ → List Place → List WrittenPlace
written_places nodes units v [] = []
written_places nodes units v (p ∷ ps) = record { node = name_at nodes v; unit = unit_name units p.unit; time = p.time; other_keys = false } ∷ written_places nodes units (v + 1) ps

abbrev pub written_route : List Node → List Resource → Route → WrittenRoute
written_route nodes resources r = record { to = name_at nodes r.node; arg = r.arg; path = map (resource_name resources) r.path; other_keys = false }

abbrev pub written : Arch → Kernel → Mapping → WrittenMapping
written A K M = record { ii = M.ii; places = written_places K.nodes A.units 0 M.places; routes = map (written_route K.nodes A.resources) M.routes; other_keys = false }

-- ---- what holds of it

-- a mapping that can be printed and read back
pub record IsKept (A : Arch) (K : Kernel) (M : Mapping) : Type 0 where
  pub arch : IsArch A
  pub kernel : IsKernel K
  pub shape : IsShaped K M
  pub parts : NamesParts A M
  pub limits : IsWithinLimits M

-- a route goes to an edge operand
record GoesToEdge (K : Kernel) (r : Route) : Type 0 where
  node : r.node < size K
  edge : takes_edge K r.node r.arg ≡ true

to_edge : (A : Arch) (K : Kernel) (M : Mapping) → IsKept A K M → (i : ℕ) (r : Route) → slice_get M.routes i ≡ Some r → GoesToEdge K r
unfolding takes_edge
to_edge A K M kept i r here =
    let end = ap (λ es. slice_get es i) (sym kept.shape.routes) ∙ get_map end_of M.routes i r here in
    let found = edge_from 0 K.nodes i (end_of r) end in
    let same : found.0 ≡ r.node = let h = found.1.1.0 in omega (arith, h) in
    let there : slice_get K.nodes r.node ≡ Some found.1.0 = ap (slice_get K.nodes) (sym same) ∙ found.1.1.1 in
    record {
      node = slice_get_within K.nodes r.node found.1.0 there;
      edge = ap (λ o. option_map_or (λ (n : Node). option_map_or is_edge (slice_get n.operands r.arg) false) o false) there ∙ found.1.1.2;
    }

few_args : (A : Arch) (K : Kernel) (M : Mapping) → IsKept A K M → (i : ℕ) (r : Route) → slice_get M.routes i ≡ Some r → r.arg < 3
few_args A K M kept i r here = edge_few K kept.kernel r.node r.arg (to_edge A K M kept i r here).edge

-- ---- each part is written as it was

small : (n m : ℕ) → n ≤ m → m < 2 ^ 32 → n < 2 ^ 32
small n m h k = omega (arith, h, k)

places_back : (nodes : List Node) (units : List Unit) (k v : ℕ) (ps : List Place) → ((i : ℕ) (p : Place) → slice_get ps i ≡ Some p → p.time ≤ latest_time) → all_or_first place_in k (places_data nodes units v ps) ≡ Ok (written_places nodes units v ps)
places_back nodes units k v [] soon = refl
places_back nodes units k v (p ∷ ps) soon =
    ap (λ o. and_rest k (place_from (Some (name_at nodes v)) (Some (unit_name units p.unit)) o false) (all_or_first place_in (k + 1) (places_data nodes units (v + 1) ps))) (word_back p.time (small p.time latest_time (soon 0 p refl) (lit< tt)))
    ∙ ap (and_rest k (Some (record { node = name_at nodes v; unit = unit_name units p.unit; time = p.time; other_keys = false }))) (places_back nodes units (k + 1) (v + 1) ps (λ i q here. soon (suc i) q here))

path_back : (resources : List Resource) (path : List ℕ) → all_of as_str (listed (items_of (map (step_data resources) path))) ≡ Some (map (resource_name resources) path)
path_back resources path = all_of-map as_str (step_data resources) (resource_name resources) path (λ _ _ _. refl)

route_back : (nodes : List Node) (resources : List Resource) (r : Route) → r.arg < 3 → route_in (route_data nodes resources r) ≡ Some (written_route nodes resources r)
route_back nodes resources r few =
    ap (λ o. route_from (Some (name_at nodes r.node)) o (all_of as_str (listed (items_of (map (step_data resources) r.path)))) false) (word_back r.arg (let h : r.arg ≤ 2 = omega arith in small r.arg 2 h (lit< tt)))
    ∙ ap (λ o. route_from (Some (name_at nodes r.node)) (Some r.arg) o false) (path_back resources r.path)

written_of-data_of : (A : Arch) (K : Kernel) (M : Mapping) → IsKept A K M → written_of (data_of A K M) ≡ Ok (written A K M)
unfolding written_of data_of
written_of-data_of A K M kept =
    ap (λ o. written_from (Some tt) o (Some (listed (items_of (places_data K.nodes A.units 0 M.places)))) (Some (listed (items_of (map (route_data K.nodes A.resources) M.routes)))) false) (word_back M.ii (small M.ii greatest_interval kept.limits.interval (lit< tt)))
    ∙ ap (λ ps. joined M.ii false (all_or_first place_in 0 ps) (all_or_first route_in 0 (listed (items_of (map (route_data K.nodes A.resources) M.routes))))) (listed-items_of (places_data K.nodes A.units 0 M.places))
    ∙ ap (λ ps. joined M.ii false ps (all_or_first route_in 0 (listed (items_of (map (route_data K.nodes A.resources) M.routes))))) (places_back K.nodes A.units 0 0 M.places kept.limits.times)
    ∙ ap (joined M.ii false (Ok (written_places K.nodes A.units 0 M.places))) (all_or_first-map route_in (route_data K.nodes A.resources) (written_route K.nodes A.resources) 0 M.routes (λ i r here. route_back K.nodes A.resources r (few_args A K M kept i r here)))

-- ---- no unknown key

position_nowhere : {X : Type 0} (t : X → Bool) (i : ℕ) (xs : List X) → ((k : ℕ) (x : X) → slice_get xs k ≡ Some x → t x ≡ false) → position_from t i xs ≡ None
position_nowhere t i [] h = refl
position_nowhere t i (x ∷ xs) h = ap (λ b. cond b (Some i) (position_from t (i + 1) xs)) (h 0 x refl) ∙ position_nowhere t (i + 1) xs (λ k y here. h (suc k) y here)

places_known : (nodes : List Node) (units : List Unit) (i v : ℕ) (ps : List Place) → position_from place_has_other i (written_places nodes units v ps) ≡ None
places_known nodes units i v [] = refl
places_known nodes units i v (p ∷ ps) = places_known nodes units (i + 1) (v + 1) ps

routes_known : (nodes : List Node) (resources : List Resource) (i : ℕ) (rs : List Route) → position_from route_has_other i (map (written_route nodes resources) rs) ≡ None
routes_known nodes resources i [] = refl
routes_known nodes resources i (r ∷ rs) = routes_known nodes resources (i + 1) rs

keys_known : (A : Arch) (K : Kernel) (M : Mapping) → unknown_key (written A K M) ≡ None
unfolding unknown_key
keys_known A K M =
    ap (λ o. first_of false o (position_from route_has_other 0 (map (written_route K.nodes A.resources) M.routes))) (places_known K.nodes A.units 0 0 M.places)
    ∙ ap (first_of false None) (routes_known K.nodes A.resources 0 M.routes)

-- ---- each name stands for its number

node_again : (K : Kernel) → IsKernel K → (v : ℕ) → v < size K → node_number K (name_at K.nodes v) ≡ Some v
unfolding node_number
node_again K valid v h = number_back (λ (n : Node). n.name) K.nodes v (node K v) (slice_get-get_or K.nodes v no_node h)
    (λ j m here same. valid.named.apart j v (slice_get_within K.nodes j m here) h (ap (λ x. x.name) (get_or_from_slice_get K.nodes j m no_node here) ∙ same))

unit_again : (A : Arch) → IsArch A → (x : ℕ) → x < length A.units → unit_number A (unit_name A.units x) ≡ Some x
unfolding unit_number
unit_again A valid x h = number_back (λ (u : Unit). u.name) A.units x _ (slice_get-get_or A.units x _ h)
    (λ j u here same. valid.names.units_apart j x (slice_get_within A.units j u here) h (ap (λ y. y.name) (get_or_from_slice_get A.units j u _ here) ∙ same))

resource_again : (A : Arch) → IsArch A → (r : ℕ) → r < length A.resources → resource_number A (resource_name A.resources r) ≡ Some r
unfolding resource_number
resource_again A valid r h = number_back (λ (s : Resource). s.name) A.resources r _ (slice_get-get_or A.resources r _ h)
    (λ j s here same. valid.names.resources_apart j r (slice_get_within A.resources j s here) h (ap (λ y. y.name) (get_or_from_slice_get A.resources j s _ here) ∙ same))

-- the places of the nodes from v on
abbrev pub numbered : ℕ → List Place → List NodePlace
numbered v [] = []
numbered v (p ∷ ps) = record { node = v; place = p } ∷ numbered (v + 1) ps

places_again : (A : Arch) (K : Kernel) → IsArch A → IsKernel K → (k v : ℕ) (ps : List Place) → v + length ps ≤ size K → ((i : ℕ) (p : Place) → slice_get ps i ≡ Some p → p.unit < length A.units)
    → all_or_first (place_of A K) k (written_places K.nodes A.units v ps) ≡ Ok (numbered v ps)
places_again A K valid valid' k v [] few units = refl
places_again A K valid valid' k v (p ∷ ps) few units =
    ap (λ o. and_rest k (place_at o (unit_number A (unit_name A.units p.unit)) p.time) (all_or_first (place_of A K) (k + 1) (written_places K.nodes A.units (v + 1) ps))) (node_again K valid' v (omega (arith, few)))
    ∙ ap (λ o. and_rest k (place_at (Some v) o p.time) (all_or_first (place_of A K) (k + 1) (written_places K.nodes A.units (v + 1) ps))) (unit_again A valid p.unit (units 0 p refl))
    ∙ ap (and_rest k (Some (record { node = v; place = p }))) (places_again A K valid valid' (k + 1) (v + 1) ps (omega (arith, few)) (λ i q here. units (suc i) q here))

path_again : (A : Arch) → IsArch A → (path : List ℕ) → ((k r : ℕ) → slice_get path k ≡ Some r → r < length A.resources) → all_of (resource_number A) (map (resource_name A.resources) path) ≡ Some path
path_again A valid [] known = refl
path_again A valid (r ∷ path) known =
    ap (λ o. option_and_then (λ x. option_map (λ xs. x ∷ xs) (all_of (resource_number A) (map (resource_name A.resources) path))) o) (resource_again A valid r (known 0 r refl))
    ∙ ap (option_map (λ xs. r ∷ xs)) (path_again A valid path (λ k s here. known (suc k) s here))

route_again : (A : Arch) (K : Kernel) → IsArch A → IsKernel K → (r : Route) → GoesToEdge K r → ((k s : ℕ) → slice_get r.path k ≡ Some s → s < length A.resources) → route_of A K (written_route K.nodes A.resources r) ≡ Some r
route_again A K valid valid' r goes known =
    ap (λ o. route_at (end_at K r.arg o) r.arg (all_of (resource_number A) (map (resource_name A.resources) r.path))) (node_again K valid' r.node goes.node)
    ∙ ap (λ b. route_at (cond b (Some r.node) None) r.arg (all_of (resource_number A) (map (resource_name A.resources) r.path))) goes.edge
    ∙ ap (route_at (Some r.node) r.arg) (path_again A valid r.path known)

routes_again : (A : Arch) (K : Kernel) → IsArch A → IsKernel K → (k : ℕ) (rs : List Route) → ((i : ℕ) (r : Route) → slice_get rs i ≡ Some r → GoesToEdge K r)
    → ((i j s : ℕ) (r : Route) → slice_get rs i ≡ Some r → slice_get r.path j ≡ Some s → s < length A.resources) → all_or_first (route_of A K) k (map (written_route K.nodes A.resources) rs) ≡ Ok rs
routes_again A K valid valid' k [] goes known = refl
routes_again A K valid valid' k (r ∷ rs) goes known =
    ap (λ o. and_rest k o (all_or_first (route_of A K) (k + 1) (map (written_route K.nodes A.resources) rs))) (route_again A K valid valid' r (goes 0 r refl) (λ j s there. known 0 j s r refl there))
    ∙ ap (and_rest k (Some r)) (routes_again A K valid valid' (k + 1) rs (λ i q here. goes (suc i) q here) (λ i j s q here there. known (suc i) j s q here there))

-- what its names stand for
abbrev named : Mapping → NamedMapping
named M = record { ii = M.ii; places = numbered 0 M.places; routes = M.routes }

named_again : (A : Arch) (K : Kernel) (M : Mapping) → IsKept A K M → named_of A K (written A K M) ≡ Ok (named M)
unfolding named_of
named_again A K M kept =
    ap (λ ps. names.joined M.ii ps (all_or_first (route_of A K) 0 (map (written_route K.nodes A.resources) M.routes)))
    (places_again A K kept.arch kept.kernel 0 0 M.places (let h = kept.shape.places in omega (arith, h)) kept.parts.units)
    ∙ ap (names.joined M.ii (Ok (numbered 0 M.places))) (routes_again A K kept.arch kept.kernel 0 M.routes (to_edge A K M kept) (λ i j s r here there. kept.parts.paths i j s r here there))

-- ---- nothing is too large

numbered_get : (v : ℕ) (ps : List Place) (i : ℕ) (q : NodePlace) → slice_get (numbered v ps) i ≡ Some q → (q.node ≡ v + i) × (slice_get ps i ≡ Some q.place)
numbered_get v [] i q here = let bad : None ≡ Some q = here in absurd (cc)
numbered_get v (p ∷ ps) zero q here =
    let same : record { node = v; place = p } ≡ q = cc in
    ((let h = ap (λ x. x.node) same in omega (arith, h)), ap (λ x. Some x.place) same)
numbered_get v (p ∷ ps) (suc i) q here = let rest = numbered_get (v + 1) ps i q here in ((let h = rest.0 in omega (arith, h)), rest.1)

numbered_at : (v : ℕ) (ps : List Place) (i : ℕ) (p : Place) → slice_get ps i ≡ Some p → slice_get (numbered v ps) i ≡ Some (record { node = v + i; place = p })
numbered_at v [] i p here = let bad : None ≡ Some p = here in absurd (cc)
numbered_at v (q ∷ ps) zero p here = let same : q ≡ p = cc in let n : v ≡ v + 0 = omega arith in ap (λ x. Some (record { node = v; place = x })) same ∙ ap (λ m. Some (record { node = m; place = p })) n
numbered_at v (q ∷ ps) (suc i) p here = let n : v + 1 + i ≡ v + suc i = omega arith in numbered_at (v + 1) ps i p here ∙ ap (λ m. Some (record { node = m; place = p })) n

fits_again : (M : Mapping) → IsWithinLimits M → too_large (named M) ≡ None
unfolding too_large
fits_again M limits =
    ap (λ b. first_of b (position_from is_late 0 (numbered 0 M.places)) (position_from is_long 0 M.routes)) (le-ltb greatest_interval M.ii limits.interval)
    ∙ ap (λ o. first_of false o (position_from is_long 0 M.routes)) (position_nowhere is_late 0 (numbered 0 M.places) (λ k q here. le-ltb latest_time q.place.time (limits.times k q.place (numbered_get 0 M.places k q here).1)))
    ∙ ap (first_of false None) (position_nowhere is_long 0 M.routes (λ k r here. le-ltb longest_path (length r.path) (limits.paths k r here)))

-- ---- one place a node, one route an edge operand

range_get : (a n i k : ℕ) → slice_get (range_with_len a n) i ≡ Some k → k ≡ a + i
range_get a zero i k here = let bad : None ≡ Some k = here in absurd (cc)
range_get a (suc n) zero k here = let same : a ≡ k = cc in omega (arith, same)
range_get a (suc n) (suc i) k here = let rest = range_get (a + 1) n i k here in omega (arith, rest)

one_place : (ps : List Place) (i v : ℕ) (p : Place) → v ≡ i → slice_get ps i ≡ Some p → only_place (numbered 0 ps) v ≡ Some p
one_place ps i v p same here =
    let q : NodePlace = record { node = 0 + i; place = p } in
    let own : (0 + i == v) ≡ true = eq-eqb (0 + i) v (omega (arith, same)) in
    ap (option_map (λ q. q.place)) (only_back (is_of_node v) (numbered 0 ps) i q (numbered_at 0 ps i p here) own
    (λ j x there e. let n = (numbered_get 0 ps j x there).0 in let is = eqb-true x.node v e in omega (arith, n, is, same)))

places_complete : (A : Arch) (K : Kernel) (M : Mapping) → IsKept A K M → places_of K (numbered 0 M.places) ≡ Ok M.places
unfolding places_of
places_complete A K M kept =
    each_back (only_place (numbered 0 M.places)) (node_fault K.nodes) (range_with_len 0 (length K.nodes)) M.places (kept.shape.places ∙ sym (length-range_with_len 0 (length K.nodes)))
    (λ i v p here there. one_place M.places i v p (let h = range_get 0 (length K.nodes) i v here in omega (arith, h)) there)

one_route : (A : Arch) (K : Kernel) (M : Mapping) → IsKept A K M → (i : ℕ) (e : End) (r : Route) → slice_get (ends_from 0 K.nodes) i ≡ Some e → slice_get M.routes i ≡ Some r → only_route M.routes e ≡ Some r
one_route A K M kept i e r end here =
    let own : Some (end_of r) ≡ Some e = sym (get_map end_of M.routes i r here) ∙ ap (λ es. slice_get es i) kept.shape.routes ∙ end in
    let is : end_of r ≡ e = cc in
    only_back (ends_at e) M.routes i r here (and_from _ _ (eq-eqb r.node e.node (ap (λ x. x.node) is)) (eq-eqb r.arg e.arg (ap (λ x. x.arg) is)))
    (λ j s there passes.
    let both = and_parts (s.node == e.node) (s.arg == e.arg) passes in
    let same : end_of s ≡ e = ap (λ v. record { node = v; arg = s.arg }) (eqb-true s.node e.node both.0) ∙ ap (λ p. record { node = e.node; arg = p }) (eqb-true s.arg e.arg both.1) in
    ends_once 0 K.nodes j i e (ap (λ es. slice_get es j) (sym kept.shape.routes) ∙ get_map end_of M.routes j s there ∙ ap Some same) end)

routes_complete : (A : Arch) (K : Kernel) (M : Mapping) → IsKept A K M → routes_of K M.routes ≡ Ok M.routes
unfolding routes_of
routes_complete A K M kept =
    each_back (only_route M.routes) (arg_fault K.nodes) (ends_from 0 K.nodes) M.routes
    (sym (length-map M.routes end_of) ∙ ap length kept.shape.routes)
    (λ i e r here there. one_route A K M kept i e r here there)

complete_again : (A : Arch) (K : Kernel) (M : Mapping) → IsKept A K M → mapping_of K (named M) ≡ Ok M
complete_again A K M kept =
    ap (λ ps. mapping_from M.ii ps (routes_of K M.routes)) (places_complete A K M kept) ∙ ap (mapping_from M.ii (Ok M.places)) (routes_complete A K M kept)

-- bytes that stand for the value of a mapping are answered with that mapping
pub answer-back : (A : Arch) (K : Kernel) (M : Mapping) → IsKept A K M → (bytes : List ℕ) → IsUtf8 bytes → read bytes ≡ Some (data_of A K M) → answer_of A K bytes ≡ Ok M
unfolding answer_of
answer-back A K M kept bytes utf8 is =
    ap (answer_in A K) (value_of-read bytes (data_of A K M) utf8 is)
    ∙ ap (answer_written A K) (written_of-data_of A K M kept)
    ∙ ap (answer_known A K (written A K M)) (keys_known A K M)
    ∙ ap (answer_named K) (named_again A K M kept)
    ∙ ap (answer_within K (named M)) (fits_again M kept.limits)
    ∙ complete_again A K M kept
