-- A table in which places or positions were noted holds in each cell the first that belongs there.
use Rattle.std.proofs.Common.{◌≡◌, ◌≢◌, ℕ, suc, ◌+◌, ◌*◌, ◌%◌, ◌<◌, Bool, true, false, cond, List, [], ◌∷◌, ◌++◌, length, replicate, drop, get_or, Option, Some, None, refl, sym, ap, ◌∙◌, subst, arith, add-one, ⊎_elim, eqb-true, eq-eqb}
use Rattle.std.specs.Prelude.{◌&&◌, eqb, flat_map, option_map}
use Rattle.std.specs.Option.{option_or}
use Rattle.std.proofs.lemmas.Bool.{and_parts, and_from, cases_Bool, both_ways}
use Rattle.std.proofs.lemmas.List.{get_or-set_same, get_or-set_other, length-set, get_or-replicate, length-replicate}
use Rattle.std.proofs.lemmas.Nat.{mul-add-lt, mod_below}
use Rattle.std.proofs.Math.Seq.{drop-cons}
use Rattle.cg_model.specs.First.{first_from, first_such}
use Rattle.cg_model.specs.declared.mapping.Place.{Place}
use Rattle.cg_model.specs.declared.mapping.Route.{Route}
use Rattle.cg_model.specs.Mapping.{Position, positions}
use Rattle.cg_model.proofs.Mappings.{places_apart}
use Rattle.cg_check.specs.Legal.{Mapped}
use Rattle.cg_occupancy.specs.declared.stay.Stay.{Stay}
use Rattle.cg_occupancy.specs.Marks.{stands_in, stays_in, start_at, stay_at, position_of}
use Rattle.cg_occupancy.specs.Tables.{HasStarts, HasStays, cell, index_of, noted, with_places, with_positions, stay_of}

-- ---- one item

or_nothing : {T : Type 0} (o : Option T) → option_or o None ≡ o
or_nothing None = refl
or_nothing (Some x) = refl

-- a cell keeps what it has, or takes the item where the item is for it
noted_cell : {T : Type 0} (table : List (Option T)) (ii rows r t x s : ℕ) (item : T) → 0 < ii → length table ≡ rows * ii → x < rows → s < ii →
    cell (noted table (index_of ii r t) item) (x * ii + s) ≡ option_or (cell table (x * ii + s)) (cond (eqb r x && eqb (t % ii) s) (Some item) None)
unfolding noted
noted_cell {T} table ii rows r t x s item some long lx ls =
    let i = x * ii + s in
    let taken : Bool → Option T = λ b. option_or (cell table i) (cond b (Some item) None) in
    ⊎_elim (λ on.
    let (a, b) = and_parts (eqb r x) (eqb (t % ii) s) on in
    let same : index_of ii r t ≡ x * ii + s = ap (λ z. z * ii + t % ii) (eqb-true _ _ a) ∙ ap (λ z. x * ii + z) (eqb-true _ _ b) in
    let bound = mul-add-lt x ii s rows lx ls in
    let within : x * ii + s < length table = omega (arith, bound, long) in
    subst (λ j. cell (noted table j item) i ≡ taken (eqb r x && eqb (t % ii) s)) (sym same) (get_or-set_same table i (option_or (cell table i) (Some item)) None within ∙ ap taken (sym on)))
    (λ off.
    let apart : x * ii + s ≢ index_of ii r t =
    λ e. let (a, b) = places_apart ii x s r (t % ii) ls (mod_below t ii some) e in both_ways _ off (and_from _ _ (eq-eqb _ _ (sym a)) (eq-eqb _ _ (sym b))) in
    get_or-set_other table (index_of ii r t) i (option_or (cell table (index_of ii r t)) (Some item)) None apart ∙ sym (or_nothing (cell table i)) ∙ ap taken (sym off))
    (cases_Bool (eqb r x && eqb (t % ii) s))

noted_long : {T : Type 0} (table : List (Option T)) (i : ℕ) (item : T) → length (noted table i item) ≡ length table
unfolding noted
noted_long table i item = length-set table i (option_or (cell table i) (Some item))

-- what a cell has, or the next item, or the first of the later ones
or_next : {T : Type 0} (o : Option T) (b : Bool) (x : T) (p : Option T) → option_or (option_or o (cond b (Some x) None)) p ≡ option_or o (cond b (Some x) p)
or_next (Some y) b x p = refl
or_next None true x p = refl
or_next None false x p = refl

empty_cell : {T : Type 0} (rows ii x s : ℕ) → x < rows → s < ii → cell {T = T} (replicate (rows * ii) None) (x * ii + s) ≡ None
empty_cell rows ii x s lx ls =
    let bound = mul-add-lt x ii s rows lx ls in
    let within : x * ii + s < rows * ii = omega (arith, bound) in
    get_or-replicate (rows * ii) (x * ii + s) None None within

-- ---- places

places_long : (ii : ℕ) (table : List (Option ℕ)) (v : ℕ) (ps : List Place) → length (with_places ii table v ps) ≡ length table
places_long ii table v [] = refl
places_long ii table v (p ∷ ps) = places_long ii (noted table (index_of ii p.unit p.time) v) (v + 1) ps ∙ noted_long table (index_of ii p.unit p.time) v

places_cell : (ii units x s : ℕ) (table : List (Option ℕ)) (v : ℕ) (ps : List Place) → 0 < ii → length table ≡ units * ii → x < units → s < ii →
    cell (with_places ii table v ps) (x * ii + s) ≡ option_or (cell table (x * ii + s)) (first_from (λ w p. stands_in ii x s p) v ps)
places_cell ii units x s table v [] some long lx ls = sym (or_nothing (cell table (x * ii + s)))
places_cell ii units x s table v (p ∷ ps) some long lx ls =
    let next = noted table (index_of ii p.unit p.time) v in
    let later = first_from (λ w p. stands_in ii x s p) (v + 1) ps in
    places_cell ii units x s next (v + 1) ps some (noted_long table (index_of ii p.unit p.time) v ∙ long) lx ls
    ∙ ap (λ o. option_or o later) (noted_cell table ii units p.unit p.time x s v some long lx ls)
    ∙ or_next (cell table (x * ii + s)) (stands_in ii x s p) v later

pub has_starts : (m : Mapped) → 0 < m.mapping.ii → HasStarts m (with_places m.mapping.ii (replicate (length m.arch.units * m.mapping.ii) None) 0 m.mapping.places)
unfolding start_at
has_starts m some = record {
  long = places_long m.mapping.ii _ 0 m.mapping.places ∙ length-replicate (length m.arch.units * m.mapping.ii) None;
  cells = λ x s lx ls.
      let first = first_from (λ v p. stands_in m.mapping.ii x s p) 0 m.mapping.places in
      places_cell m.mapping.ii (length m.arch.units) x s _ 0 m.mapping.places some (length-replicate (length m.arch.units * m.mapping.ii) None) lx ls
      ∙ ap (λ o. option_or o first) (empty_cell (length m.arch.units) m.mapping.ii x s lx ls);
}

-- one place, and then those after it
pub places_step : (ii : ℕ) (table : List (Option ℕ)) (places : List Place) (v : ℕ) (p : Place) → v < length places → p ≡ get_or places v p →
    with_places ii (noted table (index_of ii p.unit p.time) v) (v + 1) (drop (v + 1) places) ≡ with_places ii table v (drop v places)
places_step ii table places v p l at =
    let opened : drop v places ≡ p ∷ drop (v + 1) places = drop-cons places v p l ∙ ap (λ z. z ∷ drop (suc v) places) (sym at) ∙ ap (λ n. p ∷ drop n places) (sym (add-one v)) in
    sym (ap (with_places ii table v) opened)

-- ---- positions

positions_long : (ii : ℕ) (table : List (Option Stay)) (ps : List Position) → length (with_positions ii table ps) ≡ length table
positions_long ii table [] = refl
positions_long ii table (p ∷ ps) = positions_long ii (noted table (index_of ii p.resource p.time) (stay_of p)) ps ∙ noted_long table (index_of ii p.resource p.time) (stay_of p)

map_chosen : {X Y : Type 0} (f : X → Y) (b : Bool) (x : X) (o : Option X) → cond b (Some (f x)) (option_map f o) ≡ option_map f (cond b (Some x) o)
map_chosen f true x o = refl
map_chosen f false x o = refl

positions_cell : (ii resources r s : ℕ) (table : List (Option Stay)) (ps : List Position) → 0 < ii → length table ≡ resources * ii → r < resources → s < ii →
    cell (with_positions ii table ps) (r * ii + s) ≡ option_or (cell table (r * ii + s)) (option_map stay_of (first_such (stays_in ii r s) ps))
positions_cell ii resources r s table [] some long lr ls = sym (or_nothing (cell table (r * ii + s)))
positions_cell ii resources r s table (p ∷ ps) some long lr ls =
    let next = noted table (index_of ii p.resource p.time) (stay_of p) in
    let later = first_such (stays_in ii r s) ps in
    positions_cell ii resources r s next ps some (noted_long table (index_of ii p.resource p.time) (stay_of p) ∙ long) lr ls
    ∙ ap (λ o. option_or o (option_map stay_of later)) (noted_cell table ii resources p.resource p.time r s (stay_of p) some long lr ls)
    ∙ or_next (cell table (r * ii + s)) (stays_in ii r s p) (stay_of p) (option_map stay_of later)
    ∙ ap (option_or (cell table (r * ii + s))) (map_chosen stay_of (stays_in ii r s p) p later)

and_back : (o : Option Position) → option_map position_of (option_map stay_of o) ≡ o
and_back None = refl
and_back (Some p) = refl

pub has_stays : (m : Mapped) → 0 < m.mapping.ii →
    HasStays m (with_positions m.mapping.ii (replicate (length m.arch.resources * m.mapping.ii) None) (positions m.arch m.kernel m.mapping))
unfolding stay_at
has_stays m some = record {
  long = positions_long m.mapping.ii _ (positions m.arch m.kernel m.mapping) ∙ length-replicate (length m.arch.resources * m.mapping.ii) None;
  cells = λ r s lr ls.
      let first = first_such (stays_in m.mapping.ii r s) (positions m.arch m.kernel m.mapping) in
      let is = positions_cell m.mapping.ii (length m.arch.resources) r s _ (positions m.arch m.kernel m.mapping) some (length-replicate (length m.arch.resources * m.mapping.ii) None) lr ls
      ∙ ap (λ o. option_or o (option_map stay_of first)) (empty_cell (length m.arch.resources) m.mapping.ii r s lr ls) in
      ap (option_map position_of) is ∙ and_back first;
}

-- one list after another
positions-append : (ii : ℕ) (table : List (Option Stay)) (ps qs : List Position) → with_positions ii table (ps ++ qs) ≡ with_positions ii (with_positions ii table ps) qs
positions-append ii table [] qs = refl
positions-append ii table (p ∷ ps) qs = positions-append ii (noted table (index_of ii p.resource p.time) (stay_of p)) ps qs

-- one route, and then those after it
pub routes_step : (f : Route → List Position) (ii : ℕ) (table : List (Option Stay)) (routes : List Route) (i : ℕ) (route : Route) → i < length routes → route ≡ get_or routes i route →
    with_positions ii (with_positions ii table (f route)) (flat_map f (drop (i + 1) routes)) ≡ with_positions ii table (flat_map f (drop i routes))
routes_step f ii table routes i route l at =
    let opened : flat_map f (drop i routes) ≡ f route ++ flat_map f (drop (i + 1) routes) =
    ap (flat_map f) (drop-cons routes i route l) ∙ ap (λ z. f z ++ flat_map f (drop (suc i) routes)) (sym at) ∙ ap (λ n. f route ++ flat_map f (drop n routes)) (sym (add-one i)) in
    sym (ap (with_positions ii table) opened ∙ positions-append ii table (f route) (flat_map f (drop (i + 1) routes)))

-- ---- both tables

pub starts_made : (m : Mapped) (table : List (Option ℕ)) → 0 < m.mapping.ii → table ≡ with_places m.mapping.ii (replicate (length m.arch.units * m.mapping.ii) None) 0 m.mapping.places → HasStarts m table
starts_made m table some e = subst (HasStarts m) (sym e) (has_starts m some)

pub stays_made : (m : Mapped) (table : List (Option Stay)) → 0 < m.mapping.ii →
    table ≡ with_positions m.mapping.ii (replicate (length m.arch.resources * m.mapping.ii) None) (positions m.arch m.kernel m.mapping) → HasStays m table
stays_made m table some e = subst (HasStays m) (sym e) (has_stays m some)

-- a cell is in its table
pub in_table : (table : ℕ) (rows ii x s : ℕ) → table ≡ rows * ii → x < rows → s < ii → x * ii + s < table
in_table table rows ii x s long lx ls = let bound = mul-add-lt x ii s rows lx ls in omega (arith, bound, long)
