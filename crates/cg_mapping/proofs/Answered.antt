-- What holds of a mapping that is answered.
use Rattle.std.proofs.Common.{◌≡◌, ℕ, zero, suc, ◌+◌, ◌<◌, ◌≤◌, ◌==◌, List, [], ◌∷◌, length, map, Option, Some, None, Result, Ok, Err, Bool, true, false, cond, refl, ap, sym, ◌∙◌, arith}
use Rattle.std.specs.Prelude.{slice_get, count_by, nat_lt, IfOk}
use Rattle.std.specs.Option.{option_map, option_map_or, option_or}
use Rattle.std.specs.List.{position_from, range_with_len}
use Rattle.std.proofs.lemmas.Bool.{eqb-true, ltb-false, and_parts}
use Rattle.std.proofs.lemmas.Option.{slice_get_within}
use Rattle.std.proofs.lemmas.List.FromFn.{length-range_with_len}
use Rattle.serde_json.specs.Data.{Data}
use Rattle.cg_model.specs.Answers.{Gives}
use Rattle.cg_model.specs.First.{first_such}
use Rattle.cg_model.specs.Limits.{latest_time}
use Rattle.cg_model.specs.Array.{Arch}
use Rattle.cg_model.specs.Kernel.{Kernel, IsKernel}
use Rattle.cg_model.specs.Mapping.{Mapping, End, end_of, ends_from, IsShaped}
use Rattle.cg_model.specs.declared.mapping.Place.{Place}
use Rattle.cg_model.specs.declared.mapping.Route.{Route}
use Rattle.cg_model.proofs.Options.{cond_none, or_none, map_none, some_cond}
use Rattle.cg_model.proofs.Positions.{position_from-within}
use Rattle.cg_model.specs.declared.kernel.Node.{Node}
use Rattle.cg_reading.specs.Items as items
use Rattle.cg_reading.specs.Numbers.{has_name}
use Rattle.cg_mapping.specs.Written.{MappingPlace, WrittenMapping, written_of}
use Rattle.cg_mapping.specs.Rules.{NodePlace, NamedMapping, is_late, is_long, too_large, unknown_key}
use Rattle.cg_model.proofs.Mappings.{operands_few}
use Rattle.cg_mapping.specs.Names.{is_edge, node_number, unit_number, resource_number, takes_edge, place_at, place_of, end_at, route_at, route_of, joined, named_of}
use Rattle.cg_mapping.specs.Complete.{MappingFault, only_such, is_of_node, only_place, ends_at, only_route, and_rest, each_or_fault, node_fault, arg_fault, places_of, routes_of, mapping_from, mapping_of}
use Rattle.cg_mapping.specs.Answer.{answer_within, answer_named, answer_known, answer_written, answer_in, answer_of}
use Rattle.cg_mapping.specs.Limits.{greatest_interval, longest_path}
use Rattle.cg_mapping.specs.Sound.{NamesParts, IsWithinLimits}
use Rattle.cg_mapping.specs.Ends.{AreShort}
use Rattle.cg_mapping.specs.declared.fault.MappingPlace.TheVariants as at
use Rattle.cg_mapping.specs.declared.fault.MappingFault.TheVariants as fault
use Rattle.cg_json.proofs.Elements.{read_item}

-- ---- each item of a list was read

pub all_of-item : {D T : Type 0} (read : D → Option T) (ds : List D) (xs : List T) (i : ℕ) (x : T) → items.all_of read ds ≡ Some xs → slice_get xs i ≡ Some x → (d : D) × (read d ≡ Some x)
all_of-item read [] xs i x all at =
    let none : [] ≡ xs = cc in
    let bad : None ≡ Some x = ap (λ l. slice_get l i) none ∙ at in absurd (cc)
all_of-item read (d ∷ ds) xs zero x all at =
    let first = read_item (read d) (items.all_of read ds) xs all in
    let here : Some first.0 ≡ Some x = ap (λ l. slice_get l 0) first.1.1.2 ∙ at in
    (d, first.1.1.0 ∙ here)
all_of-item read (d ∷ ds) xs (suc i) x all at =
    let first = read_item (read d) (items.all_of read ds) xs all in
    all_of-item read ds first.1.0 i x first.1.1.1 (ap (λ l. slice_get l (suc i)) first.1.1.2 ∙ at)

read_next : {T : Type 0} (k : ℕ) (o : Option T) (rest : Result (List T) ℕ) (xs : List T) → items.and_rest k o rest ≡ Ok xs
    → (x : T) × ((ys : List T) × ((o ≡ Some x) × (rest ≡ Ok ys) × (x ∷ ys ≡ xs)))
read_next k None rest xs e = let bad : Err k ≡ Ok xs = e in absurd (cc)
read_next k (Some x) (Err j) xs e = let bad : Err j ≡ Ok xs = e in absurd (cc)
read_next k (Some x) (Ok ys) xs e = (x, (ys, (refl, refl, (cc))))

pub all_or_first-item : {D T : Type 0} (read : D → Option T) (k : ℕ) (ds : List D) (xs : List T) (i : ℕ) (x : T) → items.all_or_first read k ds ≡ Ok xs → slice_get xs i ≡ Some x → (d : D) × (read d ≡ Some x)
all_or_first-item read k [] xs i x all at =
    let none : [] ≡ xs = cc in
    let bad : None ≡ Some x = ap (λ l. slice_get l i) none ∙ at in absurd (cc)
all_or_first-item read k (d ∷ ds) xs zero x all at =
    let first = read_next k (read d) (items.all_or_first read (k + 1) ds) xs all in
    let here : Some first.0 ≡ Some x = ap (λ l. slice_get l 0) first.1.1.2 ∙ at in
    (d, first.1.1.0 ∙ here)
all_or_first-item read k (d ∷ ds) xs (suc i) x all at =
    let first = read_next k (read d) (items.all_or_first read (k + 1) ds) xs all in
    all_or_first-item read (k + 1) ds first.1.0 i x first.1.1.1 (ap (λ l. slice_get l (suc i)) first.1.1.2 ∙ at)

-- ---- each thing gave something

given : {T : Type 0} (f : MappingFault) (o : Option T) (rest : Result (List T) MappingFault) (xs : List T) → and_rest f o rest ≡ Ok xs
    → (x : T) × ((ys : List T) × ((o ≡ Some x) × (rest ≡ Ok ys) × (x ∷ ys ≡ xs)))
given f None rest xs e = let bad : Err f ≡ Ok xs = e in absurd (cc)
given f (Some x) (Err g) xs e = let bad : Err g ≡ Ok xs = e in absurd (cc)
given f (Some x) (Ok ys) xs e = (x, (ys, (refl, refl, (cc))))

pub each-item : {K T : Type 0} (give : K → Option T) (f : K → MappingFault) (ks : List K) (xs : List T) (i : ℕ) (x : T) → each_or_fault give f ks ≡ Ok xs → slice_get xs i ≡ Some x → (k : K) × (give k ≡ Some x)
each-item give f [] xs i x all at =
    let none : [] ≡ xs = cc in
    let bad : None ≡ Some x = ap (λ l. slice_get l i) none ∙ at in absurd (cc)
each-item give f (k ∷ ks) xs zero x all at =
    let first = given (f k) (give k) (each_or_fault give f ks) xs all in
    let here : Some first.0 ≡ Some x = ap (λ l. slice_get l 0) first.1.1.2 ∙ at in
    (k, first.1.1.0 ∙ here)
each-item give f (k ∷ ks) xs (suc i) x all at =
    let first = given (f k) (give k) (each_or_fault give f ks) xs all in
    each-item give f ks first.1.0 i x first.1.1.1 (ap (λ l. slice_get l (suc i)) first.1.1.2 ∙ at)

each-length : {K T : Type 0} (give : K → Option T) (f : K → MappingFault) (ks : List K) (xs : List T) → each_or_fault give f ks ≡ Ok xs → length xs ≡ length ks
each-length give f [] xs all = let none : [] ≡ xs = cc in sym (ap length none)
each-length give f (k ∷ ks) xs all =
    let first = given (f k) (give k) (each_or_fault give f ks) xs all in
    sym (ap length first.1.1.2) ∙ ap suc (each-length give f ks first.1.0 first.1.1.1)

each-keys : {K T : Type 0} (give : K → Option T) (f : K → MappingFault) (key : T → K) (ks : List K) (xs : List T) → ((k : K) (x : T) → give k ≡ Some x → key x ≡ k) → each_or_fault give f ks ≡ Ok xs → map key xs ≡ ks
each-keys give f key [] xs own all = let none : [] ≡ xs = cc in sym (ap (map key) none)
each-keys give f key (k ∷ ks) xs own all =
    let first = given (f k) (give k) (each_or_fault give f ks) xs all in
    sym (ap (map key) first.1.1.2) ∙ ap (λ y. y ∷ map key first.1.0) (own k first.0 first.1.1.0) ∙ ap (λ ys. k ∷ ys) (each-keys give f key ks first.1.0 own first.1.1.1)

-- ---- the one item

found_here : {X : Type 0} (b : Bool) (t : X → Bool) (x y : X) (xs : List X) (o : Option X) → t x ≡ b → o ≡ first_such t xs → (first_such t xs ≡ Some y → (t y ≡ true) × ((i : ℕ) × (slice_get xs i ≡ Some y)))
    → cond b (Some x) o ≡ Some y → (t y ≡ true) × ((i : ℕ) × (slice_get (x ∷ xs) i ≡ Some y))
found_here true t x y xs o is same later e = let here : x ≡ y = cc in (sym (ap t here) ∙ is, (zero, e))
found_here false t x y xs o is same later e = let l = later (sym same ∙ e) in (l.0, (suc l.1.0, l.1.1))

first_such-item : {X : Type 0} (t : X → Bool) (xs : List X) (y : X) → first_such t xs ≡ Some y → (t y ≡ true) × ((i : ℕ) × (slice_get xs i ≡ Some y))
first_such-item t [] y e = let bad : None ≡ Some y = e in absurd (cc)
first_such-item t (x ∷ xs) y e = found_here (t x) t x y xs (first_such t xs) refl refl (first_such-item t xs y) e

by_count : {X : Type 0} (b : Bool) (o : Option X) (y : X) → cond b o None ≡ Some y → o ≡ Some y
by_count true o y e = e
by_count false o y e = let bad : None ≡ Some y = e in absurd (cc)

only-item : {X : Type 0} (t : X → Bool) (xs : List X) (y : X) → only_such t xs ≡ Some y → (t y ≡ true) × ((i : ℕ) × (slice_get xs i ≡ Some y))
only-item t xs y e = first_such-item t xs y (by_count (count_by t xs == 1) (first_such t xs) y e)

some_map : {X Y : Type 0} (f : X → Y) (o : Option X) (y : Y) → option_map f o ≡ Some y → (x : X) × ((o ≡ Some x) × (f x ≡ y))
some_map f None y e = let bad : None ≡ Some y = e in absurd (cc)
some_map f (Some x) y e = (x, (refl, cc))

-- ---- a test that passes nowhere

pub position_from-none : {X : Type 0} (t : X → Bool) (i : ℕ) (xs : List X) (k : ℕ) (x : X) → position_from t i xs ≡ None → slice_get xs k ≡ Some x → t x ≡ false
position_from-none t i [] k x none at = let bad : None ≡ Some x = at in absurd (cc)
position_from-none t i (y ∷ ys) zero x none at = let same : y ≡ x = cc in ap t (sym same) ∙ (cond_none (t y) i _ none).0
position_from-none t i (y ∷ ys) (suc k) x none at = position_from-none t (i + 1) ys k x (cond_none (t y) i _ none).1 at

-- ---- how a mapping came to be

-- what its file writes, and what the names there stand for
pub record Came (A : Arch) (K : Kernel) (M : Mapping) : Type 0 where
  pub written : WrittenMapping
  pub named : NamedMapping
  pub names : named_of A K written ≡ Ok named
  pub fits : too_large named ≡ None
  pub complete : mapping_of K named ≡ Ok M

came_within : (A : Arch) (K : Kernel) (M : Mapping) (w : WrittenMapping) (m : NamedMapping) (o : Option MappingPlace) → named_of A K w ≡ Ok m → too_large m ≡ o → answer_within K m o ≡ Ok M → Came A K M
came_within A K M w m (Some p) is fits e = let bad : Err (fault.TooLarge p) ≡ Ok M = e in absurd (cc)
came_within A K M w m None is fits e = record { written = w; named = m; names = is; fits = fits; complete = e }

came_named : (A : Arch) (K : Kernel) (M : Mapping) (w : WrittenMapping) (r : Result NamedMapping MappingPlace) → named_of A K w ≡ r → answer_named K r ≡ Ok M → Came A K M
came_named A K M w (Err p) is e = let bad : Err (fault.UnknownName p) ≡ Ok M = e in absurd (cc)
came_named A K M w (Ok m) is e = came_within A K M w m (too_large m) is refl e

came_known : (A : Arch) (K : Kernel) (M : Mapping) (w : WrittenMapping) (o : Option MappingPlace) → answer_known A K w o ≡ Ok M → Came A K M
came_known A K M w (Some p) e = let bad : Err (fault.UnknownKey p) ≡ Ok M = e in absurd (cc)
came_known A K M w None e = came_named A K M w (named_of A K w) refl e

came_written : (A : Arch) (K : Kernel) (M : Mapping) (r : Result WrittenMapping MappingPlace) → answer_written A K r ≡ Ok M → Came A K M
came_written A K M (Err p) e = let bad : Err (fault.WrongShape p) ≡ Ok M = e in absurd (cc)
came_written A K M (Ok w) e = came_known A K M w (unknown_key w) e

came_in : (A : Arch) (K : Kernel) (M : Mapping) (o : Option Data) → answer_in A K o ≡ Ok M → Came A K M
came_in A K M None e = let bad : Err fault.NotJson ≡ Ok M = e in absurd (cc)
came_in A K M (Some d) e = came_written A K M (written_of d) e

pub came : (A : Arch) (K : Kernel) (M : Mapping) (bytes : List ℕ) → answer_of A K bytes ≡ Ok M → Came A K M
unfolding answer_of
came A K M bytes e = came_in A K M _ e

-- ---- what the names stand for

-- the parts of a mapping whose names all stand for something
pub record Parts (A : Arch) (K : Kernel) (w : WrittenMapping) (m : NamedMapping) : Type 0 where
  pub places : items.all_or_first (place_of A K) 0 w.places ≡ Ok m.places
  pub routes : items.all_or_first (route_of A K) 0 w.routes ≡ Ok m.routes

parts_by : (ii : ℕ) (m : NamedMapping) (ps : Result (List NodePlace) ℕ) (rs : Result (List Route) ℕ) → joined ii ps rs ≡ Ok m → (ps ≡ Ok m.places) × (rs ≡ Ok m.routes)
parts_by ii m (Ok ps) (Ok rs) e = let same : record { ii = ii; places = ps; routes = rs } ≡ m = cc in (ap (λ x. Ok x.places) same, ap (λ x. Ok x.routes) same)
parts_by ii m (Ok ps) (Err r) e = let bad : Err (at.Route r) ≡ Ok m = e in absurd (cc)
parts_by ii m (Err p) rs e = let bad : Err (at.Place p) ≡ Ok m = e in absurd (cc)

pub parts : (A : Arch) (K : Kernel) (w : WrittenMapping) (m : NamedMapping) → named_of A K w ≡ Ok m → Parts A K w m
unfolding named_of
parts A K w m e = let p = parts_by w.ii m _ _ e in record { places = p.0; routes = p.1 }

unit_by : (A : Arch) (v x : Option ℕ) (time : ℕ) (p : NodePlace) → ((k : ℕ) → x ≡ Some k → k < length A.units) → place_at v x time ≡ Some p → p.place.unit < length A.units
unit_by A None x time p within e = let bad : None ≡ Some p = e in absurd (cc)
unit_by A (Some v) None time p within e = let bad : None ≡ Some p = e in absurd (cc)
unit_by A (Some v) (Some x) time p within e =
    let same : record { node = v; place = record { unit = x; time = time } } ≡ p = cc in
    let is = ap (λ q. q.place.unit) same in
    let h = within x refl in
    omega (arith, is, h)

unit_within : (A : Arch) (name : List ℕ) (k : ℕ) → unit_number A name ≡ Some k → k < length A.units
unfolding unit_number
unit_within A name k e = let h = position_from-within (λ u. has_name name (Some u.name)) 0 A.units k e in omega (arith, h)

resource_within : (A : Arch) (name : List ℕ) (k : ℕ) → resource_number A name ≡ Some k → k < length A.resources
unfolding resource_number
resource_within A name k e = let h = position_from-within (λ u. has_name name (Some u.name)) 0 A.resources k e in omega (arith, h)

-- a route that was named: its operand is an edge, its path was looked up
route_by : (A : Arch) (p : ℕ) (v : Option ℕ) (path : Option (List ℕ)) (r : Route) → route_at v p path ≡ Some r → (v ≡ Some r.node) × (p ≡ r.arg) × (path ≡ Some r.path)
route_by A p None path r e = let bad : None ≡ Some r = e in absurd (cc)
route_by A p (Some v) None r e = let bad : None ≡ Some r = e in absurd (cc)
route_by A p (Some v) (Some path) r e =
    let same : record { node = v; arg = p; path = path } ≡ r = cc in
    (ap (λ x. Some x.node) same, ap (λ x. x.arg) same, ap (λ x. Some x.path) same)

edge_by : (K : Kernel) (p : ℕ) (o : Option ℕ) (v : ℕ) → end_at K p o ≡ Some v → takes_edge K v p ≡ true
edge_by K p None v e = let bad : None ≡ Some v = e in absurd (cc)
edge_by K p (Some u) v e = let c = some_cond (takes_edge K u p) u v e in ap (λ w. takes_edge K w p) (sym c.1) ∙ c.0

some_true : {X : Type 0} (t : X → Bool) (o : Option X) → option_map_or t o false ≡ true → (x : X) × ((o ≡ Some x) × (t x ≡ true))
some_true t None e = let bad : false ≡ true = e in absurd (cc)
some_true t (Some x) e = (x, (refl, e))

-- a node has few operands
pub edge_few : (K : Kernel) → IsKernel K → (v p : ℕ) → takes_edge K v p ≡ true → p < 3
unfolding takes_edge
edge_few K valid v p e =
    let n = some_true (λ (n : Node). option_map_or is_edge (slice_get n.operands p) false) (slice_get K.nodes v) e in
    let o = some_true is_edge (slice_get n.0.operands p) n.1.1 in
    let few = operands_few K valid v n.0 n.1.0 in
    let below = slice_get_within n.0.operands p o.0 o.1.0 in
    omega (arith, few, below)

-- the operands to which routes go are few a node
pub short_routes : (A : Arch) (K : Kernel) (w : WrittenMapping) (m : NamedMapping) → IsKernel K → named_of A K w ≡ Ok m → AreShort m.routes
short_routes A K w m valid e = record {
  short = λ i r at.
      let from = all_or_first-item (route_of A K) 0 w.routes m.routes i r (parts A K w m e).routes at in
      let found = route_by A from.0.arg _ _ r from.1 in
      let edge = edge_few K valid r.node from.0.arg (edge_by K from.0.arg _ r.node found.0) in
      let is = found.1 in
      omega (arith, edge, is);
}

-- ---- the parts of a complete mapping

abbrev pub IsMade : Kernel → NamedMapping → Mapping → Type 0
IsMade K m M = (m.ii ≡ M.ii) × (places_of K m.places ≡ Ok M.places) × (routes_of K m.routes ≡ Ok M.routes)

made_by : (ii : ℕ) (M : Mapping) (ps : Result (List Place) MappingFault) (rs : Result (List Route) MappingFault) → mapping_from ii ps rs ≡ Ok M → (ii ≡ M.ii) × (ps ≡ Ok M.places) × (rs ≡ Ok M.routes)
made_by ii M (Ok ps) (Ok rs) e = let same : record { ii = ii; places = ps; routes = rs } ≡ M = cc in (ap (λ x. x.ii) same, ap (λ x. Ok x.places) same, ap (λ x. Ok x.routes) same)
made_by ii M (Ok ps) (Err f) e = let bad : Err f ≡ Ok M = e in absurd (cc)
made_by ii M (Err f) rs e = let bad : Err f ≡ Ok M = e in absurd (cc)

made : (K : Kernel) (m : NamedMapping) (M : Mapping) → mapping_of K m ≡ Ok M → IsMade K m M
made K m M e = made_by m.ii M (places_of K m.places) (routes_of K m.routes) e

-- a place of the mapping is one of the file
pub place_from_file : (K : Kernel) (ps : List NodePlace) (places : List Place) (v : ℕ) (p : Place) → places_of K ps ≡ Ok places → slice_get places v ≡ Some p → (q : NodePlace) × (((i : ℕ) × (slice_get ps i ≡ Some q)) × (q.place ≡ p))
unfolding places_of
place_from_file K ps places v p e at =
    let given = each-item (only_place ps) (node_fault K.nodes) (range_with_len 0 (length K.nodes)) places v p e at in
    let found = some_map (λ q. q.place) (only_such (is_of_node given.0) ps) p given.1 in
    (found.0, ((only-item (is_of_node given.0) ps found.0 found.1.0).1, found.1.1))

-- a route of the mapping is one of the file
pub route_from_file : (K : Kernel) (rs routes : List Route) (i : ℕ) (r : Route) → routes_of K rs ≡ Ok routes → slice_get routes i ≡ Some r → (k : ℕ) × (slice_get rs k ≡ Some r)
unfolding routes_of
route_from_file K rs routes i r e at =
    let given = each-item (only_route rs) (arg_fault K.nodes) (ends_from 0 K.nodes) routes i r e at in
    (only-item (ends_at given.0) rs r given.1).1

own_end : (rs : List Route) (e : End) (r : Route) → only_route rs e ≡ Some r → end_of r ≡ e
own_end rs e r found =
    let both = and_parts (r.node == e.node) (r.arg == e.arg) (only-item (ends_at e) rs r found).0 in
    ap (λ v. record { node = v; arg = r.arg }) (eqb-true r.node e.node both.0) ∙ ap (λ p. record { node = e.node; arg = p }) (eqb-true r.arg e.arg both.1)

shaped : (K : Kernel) (m : NamedMapping) (M : Mapping) → IsMade K m M → IsShaped K M
unfolding places_of routes_of
shaped K m M is = record {
  places = each-length (only_place m.places) (node_fault K.nodes) (range_with_len 0 (length K.nodes)) M.places is.1 ∙ length-range_with_len 0 (length K.nodes);
  routes = each-keys (only_route m.routes) (arg_fault K.nodes) end_of (ends_from 0 K.nodes) M.routes (own_end m.routes) is.2;
}

names_parts : (A : Arch) (K : Kernel) (w : WrittenMapping) (m : NamedMapping) (M : Mapping) → Parts A K w m → IsMade K m M → NamesParts A M
names_parts A K w m M of is = record {
  units = λ v p at.
      let q = place_from_file K m.places M.places v p is.1 at in
      let from = all_or_first-item (place_of A K) 0 w.places m.places q.1.0.0 q.0 of.places q.1.0.1 in
      let below = unit_by A (node_number K from.0.node) (unit_number A from.0.unit) from.0.time q.0 (unit_within A from.0.unit) from.1 in
      let same = ap (λ x. x.unit) q.1.1 in
      omega (arith, below, same);
  paths = λ i k r route at there.
      let found = route_from_file K m.routes M.routes i route is.2 at in
      let from = all_or_first-item (route_of A K) 0 w.routes m.routes found.0 route of.routes found.1 in
      let path = (route_by A from.0.arg _ _ route from.1).2 in
      let name = all_of-item (resource_number A) from.0.path route.path k r path there in
      resource_within A name.0 r name.1;
}

-- no number is too large
record Fits (m : NamedMapping) : Type 0 where
  interval : m.ii ≤ greatest_interval
  times : (i : ℕ) (p : NodePlace) → slice_get m.places i ≡ Some p → p.place.time ≤ latest_time
  paths : (i : ℕ) (r : Route) → slice_get m.routes i ≡ Some r → length r.path ≤ longest_path

fits : (m : NamedMapping) → too_large m ≡ None → Fits m
unfolding too_large
fits m none =
    let file = or_none (cond (nat_lt greatest_interval m.ii) (Some at.File) None) (option_or (option_map at.Place (position_from is_late 0 m.places)) (option_map at.Route (position_from is_long 0 m.routes))) none in
    let lists = or_none (option_map at.Place (position_from is_late 0 m.places)) (option_map at.Route (position_from is_long 0 m.routes)) file.1 in
    record {
      interval = ltb-false greatest_interval m.ii (cond_none (nat_lt greatest_interval m.ii) at.File None file.0).0;
      times = λ i p at'. ltb-false latest_time p.place.time (position_from-none is_late 0 m.places i p (map_none at.Place _ lists.0) at');
      paths = λ i r at'. ltb-false longest_path (length r.path) (position_from-none is_long 0 m.routes i r (map_none at.Route _ lists.1) at');
    }

within_limits : (K : Kernel) (m : NamedMapping) (M : Mapping) → Fits m → IsMade K m M → IsWithinLimits M
within_limits K m M of is = record {
  interval = let h = of.interval in let same = is.0 in omega (arith, h, same);
  times = λ v p at'.
      let q = place_from_file K m.places M.places v p is.1 at' in
      let h = of.times q.1.0.0 q.0 q.1.0.1 in
      let same = ap (λ x. x.time) q.1.1 in
      omega (arith, h, same);
  paths = λ i r at'. let found = route_from_file K m.routes M.routes i r is.2 at' in of.paths found.0 r found.1;
}

-- ---- what was answered

gave : {F : Type 0} (memory : F) (r : Result Mapping F) (answer : Result Mapping F) (P : Mapping → Type 0) → ((M : Mapping) → answer ≡ Ok M → P M) → Gives memory r answer → IfOk r P
gave memory (Ok M) answer P h is = h M (sym is)
gave memory (Err f) answer P h is = tt

pub answered-shaped : (A : Arch) (K : Kernel) (bytes : List ℕ) (r : Result Mapping MappingFault) → Gives fault.Memory r (answer_of A K bytes) → IfOk r (λ M. IsShaped K M)
answered-shaped A K bytes r is = gave fault.Memory r _ (λ M. IsShaped K M) (λ M e. let c = came A K M bytes e in shaped K c.named M (made K c.named M c.complete)) is

pub answered-names : (A : Arch) (K : Kernel) (bytes : List ℕ) (r : Result Mapping MappingFault) → Gives fault.Memory r (answer_of A K bytes) → IfOk r (λ M. NamesParts A M)
answered-names A K bytes r is = gave fault.Memory r _ (λ M. NamesParts A M) (λ M e. let c = came A K M bytes e in names_parts A K c.written c.named M (parts A K c.written c.named c.names) (made K c.named M c.complete)) is

pub answered-within : (A : Arch) (K : Kernel) (bytes : List ℕ) (r : Result Mapping MappingFault) → Gives fault.Memory r (answer_of A K bytes) → IfOk r IsWithinLimits
answered-within A K bytes r is = gave fault.Memory r _ IsWithinLimits (λ M e. let c = came A K M bytes e in within_limits K c.named M (fits c.named c.fits) (made K c.named M c.complete)) is
