-- One item after another, each with what it gives; and a table that tells what that is.
use Rattle.std.proofs.Common.{◌≡◌, ℕ, suc, ◌+◌, ◌-◌, ◌*◌, ◌<◌, ◌==◌, ◌&&◌, List, [], ◌∷◌, ◌++◌, append_assoc, length, map, drop, get_or, Option, Some, None, Result, Ok, Err, refl, ap, sym, ◌∙◌, arith, Decides}
use Rattle.std.specs.Option.{option_map}
use Rattle.std.specs.List.{range_with_len}
use Rattle.std.proofs.lemmas.Bool.{eqb-true, eq-eqb, and_parts, and_from}
use Rattle.std.proofs.lemmas.Bool.Decides.{same_from_decides}
use Rattle.std.proofs.lemmas.List.{at_drop_more}
use Rattle.cg_model.specs.declared.kernel.Node.{Node}
use Rattle.cg_model.specs.declared.mapping.Place.{Place}
use Rattle.cg_model.specs.declared.mapping.Route.{Route}
use Rattle.cg_reading.proofs.Lists.{before}
use Rattle.cg_mapping.specs.Complete.{MappingFault, and_rest, each_or_fault, is_of_node, only_place, each_place, node_fault, ends_at, only_route, each_route, arg_fault}
use Rattle.cg_mapping.specs.Ends.{EdgeOperand, as_end, node_of, slot_of, AreShort}
use Rattle.cg_mapping.specs.Rules.{NodePlace}
use Rattle.cg_mapping.specs.Tally.{Seen, IsTally, picked}
use Rattle.cg_mapping.specs.declared.tally.Seen.TheVariants.{Never}
use Rattle.cg_mapping.proofs.Tallies.{picked-only, seen-map}

-- ---- one item after another

open_rest : {T : Type 0} (fault : MappingFault) (xs : List T) (x : T) (rest : Result (List T) MappingFault) → before xs (and_rest fault (Some x) rest) ≡ before (xs ++ x ∷ []) rest
open_rest fault xs x (Ok ys) = ap Ok (sym (append_assoc xs (x ∷ []) ys))
open_rest fault xs x (Err other) = refl

-- an item that gives something
pub each_more : {K T : Type 0} (give : K → Option T) (fault : K → MappingFault) (xs : List T) (k : K) (ks : List K) (x : T) → give k ≡ Some x
    → before xs (each_or_fault give fault (k ∷ ks)) ≡ before (xs ++ x ∷ []) (each_or_fault give fault ks)
each_more give fault xs k ks x e = ap (λ o. before xs (and_rest (fault k) o (each_or_fault give fault ks))) e ∙ open_rest (fault k) xs x (each_or_fault give fault ks)

-- the first item that gives nothing
pub each_stop : {K T : Type 0} (give : K → Option T) (fault : K → MappingFault) (xs : List T) (k : K) (ks : List K) → give k ≡ None
    → before xs (each_or_fault give fault (k ∷ ks)) ≡ Err (fault k)
each_stop give fault xs k ks e = ap (λ o. before xs (and_rest (fault k) o (each_or_fault give fault ks))) e

-- the numbers from k to n begin with k
pub range_next : (k n : ℕ) → k < n → range_with_len k (n - k) ≡ k ∷ range_with_len (k + 1) (n - (k + 1))
range_next k n h = let more : n - k ≡ suc (n - (k + 1)) = omega arith in ap (range_with_len k) more

-- ---- what a table tells

pub place_only : (table : List Seen) (size : ℕ) (places : List NodePlace) (v : ℕ) → IsTally table size (map node_of places) → v < size
    → option_map (λ p. p.place) (picked (get_or table v Never) places) ≡ only_place places v
place_only table size places v is h =
    ap (option_map (λ p. p.place)) (picked-only (is_of_node v) places (get_or table v Never) (seen-map (λ key. key == v) node_of (is_of_node v) places (get_or table v Never) (λ i p at. refl) (is.seen v h)))

-- routes to different operands have different numbers
same_slot : (v w p q : ℕ) → p < 3 → q < 3 → (3 * v + p == 3 * w + q) ≡ ((v == w) && (p == q))
same_slot v w p q hp hq =
    let by_slot : Decides (3 * v + p == 3 * w + q) ((v ≡ w) × (p ≡ q)) =
    (λ e. let same = eqb-true (3 * v + p) (3 * w + q) e in (omega (arith, same), omega (arith, same)), λ both. let first = both.0 in let second = both.1 in eq-eqb _ _ (omega (arith, first, second))) in
    let by_parts : Decides ((v == w) && (p == q)) ((v ≡ w) × (p ≡ q)) =
    (λ e. let parts = and_parts (v == w) (p == q) e in (eqb-true v w parts.0, eqb-true p q parts.1), λ both. and_from _ _ (eq-eqb v w both.0) (eq-eqb p q both.1)) in
    same_from_decides _ _ by_slot by_parts

pub route_only : (table : List Seen) (size : ℕ) (routes : List Route) (e : EdgeOperand) → IsTally table size (map slot_of routes) → AreShort routes → e.arg < 3 → 3 * e.node + e.arg < size
    → picked (get_or table (3 * e.node + e.arg) Never) routes ≡ only_route routes (as_end e)
route_only table size routes e is short arg h =
    let s = get_or table (3 * e.node + e.arg) Never in
    picked-only (ends_at (as_end e)) routes s
    (seen-map (λ key. key == 3 * e.node + e.arg) slot_of (ends_at (as_end e)) routes s (λ i r at. same_slot r.node e.node r.arg e.arg (short.short i r at) arg) (is.seen (3 * e.node + e.arg) h))

-- ---- a step of each loop

-- what is left of the nodes from v on
abbrev pub places_left : List Node → List NodePlace → ℕ → Result (List Place) MappingFault
places_left nodes places v = each_or_fault (only_place places) (node_fault nodes) (range_with_len v (length nodes - v))

abbrev pub routes_left : List Node → List Route → List EdgeOperand → ℕ → Result (List Route) MappingFault
routes_left nodes routes ends i = each_route nodes routes (map as_end (drop i ends))

pub place_more : (nodes : List Node) (places : List NodePlace) (table : List Seen) (xs : List Place) (v : ℕ) (p : NodePlace) → IsTally table (length nodes) (map node_of places) → v < length nodes
    → Some p ≡ picked (get_or table v Never) places → before xs (places_left nodes places v) ≡ each_place nodes places
    → before (xs ++ p.place ∷ []) (places_left nodes places (v + 1)) ≡ each_place nodes places
place_more nodes places table xs v p is h found so_far =
    sym (each_more (only_place places) (node_fault nodes) xs v (range_with_len (v + 1) (length nodes - (v + 1))) p.place (sym (place_only table (length nodes) places v is h) ∙ ap (option_map (λ p. p.place)) (sym found)))
    ∙ ap (λ ks. before xs (each_or_fault (only_place places) (node_fault nodes) ks)) (sym (range_next v (length nodes) h))
    ∙ so_far

pub place_stop : (nodes : List Node) (places : List NodePlace) (table : List Seen) (xs : List Place) (v : ℕ) → IsTally table (length nodes) (map node_of places) → v < length nodes
    → None ≡ picked (get_or table v Never) places → before xs (places_left nodes places v) ≡ each_place nodes places
    → Err (node_fault nodes v) ≡ each_place nodes places
place_stop nodes places table xs v is h found so_far =
    sym (each_stop (only_place places) (node_fault nodes) xs v (range_with_len (v + 1) (length nodes - (v + 1))) (sym (place_only table (length nodes) places v is h) ∙ ap (option_map (λ p. p.place)) (sym found)))
    ∙ ap (λ ks. before xs (each_or_fault (only_place places) (node_fault nodes) ks)) (sym (range_next v (length nodes) h))
    ∙ so_far

-- an end that the table has a place for
pub record Has (size : ℕ) (e : EdgeOperand) : Type 0 where
  pub arg : e.arg < 3
  pub slot : 3 * e.node + e.arg < size

pub route_more : (nodes : List Node) (routes : List Route) (ends : List EdgeOperand) (table : List Seen) (size : ℕ) (xs : List Route) (i : ℕ) (d : EdgeOperand) (r : Route) → IsTally table size (map slot_of routes) → AreShort routes → i < length ends → Has size (get_or ends i d)
    → Some r ≡ picked (get_or table (3 * (get_or ends i d).node + (get_or ends i d).arg) Never) routes → before xs (routes_left nodes routes ends i) ≡ each_route nodes routes (map as_end ends)
    → before (xs ++ r ∷ []) (routes_left nodes routes ends (i + 1)) ≡ each_route nodes routes (map as_end ends)
route_more nodes routes ends table size xs i d r is short h has found so_far =
    sym (each_more (only_route routes) (arg_fault nodes) xs (as_end (get_or ends i d)) (map as_end (drop (i + 1) ends)) r (sym (route_only table size routes (get_or ends i d) is short has.arg has.slot) ∙ sym found))
    ∙ sym (at_drop_more (λ es. before xs (each_route nodes routes (map as_end es))) ends i d h)
    ∙ so_far

pub route_stop : (nodes : List Node) (routes : List Route) (ends : List EdgeOperand) (table : List Seen) (size : ℕ) (xs : List Route) (i : ℕ) (d : EdgeOperand) → IsTally table size (map slot_of routes) → AreShort routes → i < length ends → Has size (get_or ends i d)
    → None ≡ picked (get_or table (3 * (get_or ends i d).node + (get_or ends i d).arg) Never) routes → before xs (routes_left nodes routes ends i) ≡ each_route nodes routes (map as_end ends)
    → Err (arg_fault nodes (as_end (get_or ends i d))) ≡ each_route nodes routes (map as_end ends)
route_stop nodes routes ends table size xs i d is short h has found so_far =
    sym (each_stop (only_route routes) (arg_fault nodes) xs (as_end (get_or ends i d)) (map as_end (drop (i + 1) ends)) (sym (route_only table size routes (get_or ends i d) is short has.arg has.slot) ∙ sym found))
    ∙ sym (at_drop_more (λ es. before xs (each_route nodes routes (map as_end es))) ends i d h)
    ∙ so_far
