-- The edge operands that a move routes anew: their numbers rise, and none has a route until its turn.
use Rattle.std.proofs.Common.{◌≡◌, ℕ, zero, suc, ◌+◌, ◌<◌, Bool, true, false, List, [], ◌∷◌, ◌++◌, length, map, take, get_or, set, Option, Some, None, refl, sym, ap, ◌∙◌, subst, arith, ⊎_elim}
use Rattle.std.specs.Prelude.{slice_get, filter}
use Rattle.std.specs.List.{range_with_len}
use Rattle.std.proofs.lemmas.Bool.{cases_Bool}
use Rattle.std.proofs.lemmas.Option.{get_or_from_slice_get}
use Rattle.std.proofs.lemmas.List.{set-get_or, take_more}
use Rattle.std.proofs.lemmas.List.Elements.{All-tail, All-filter, filter_passes}
use Rattle.std.proofs.lemmas.List.FromFn.{length-range_with_len, get_or-range_with_len}
use Rattle.cg_model.specs.Kernel.{Kernel}
use Rattle.cg_model.specs.Array.{Arch}
use Rattle.cg_place.specs.declared.moves.Move.{Move}
use Rattle.cg_walk_spec.specs.State.{State, edges}
use Rattle.cg_walk_spec.specs.Walk.{all_edges, with_route, IsFoundFor, IsRouted, touches, touching, moved_by, unrouted_start}
use Rattle.cg_walk_spec.specs.Pending.{Rising, Pending}
use Rattle.cg_walk_spec.proofs.Sets.{get_set_other, range_below}
use Rattle.cg_walk_spec.proofs.Uses.{touching_known, touching_none}

range_rising : (a n : ℕ) → Rising (range_with_len a n)
range_rising a zero = tt
range_rising a (suc n) = (
  λ k d l.
      let long = length-range_with_len (a + 1) n in
      let e = get_or-range_with_len (a + 1) n k d (omega (arith, long, l)) in
      omega (arith, e),
  range_rising (a + 1) n,
)

filter_rising : (p : ℕ → Bool) (is : List ℕ) → Rising is → Rising (filter p is)
filter_rising p [] h = tt
filter_rising p (i ∷ is) h =
    let rest = filter_rising p is h.1 in
    let above = All-filter p (λ j. i < j) is h.0 in
    ⊎_elim (λ (a : p i ≡ true). rw a (above, rest)) (λ (a : p i ≡ false). rw a rest) (cases_Bool (p i))

pub all_rising : (K : Kernel) → Rising (all_edges K)
all_rising K = range_rising 0 (length (edges K))

pub touching_rising : (K : Kernel) (v : ℕ) → Rising (touching K v)
touching_rising K v = filter_rising (touches K v) (all_edges K) (all_rising K)

-- none has a route at the start
none_of : {X : Type 0} (xs : List X) (i : ℕ) → i < length xs → let none : Option (List ℕ) = None in slice_get (map (λ (x : X). none) xs) i ≡ Some none
none_of [] i l = absurd (omega arith)
none_of (x ∷ xs) zero l = refl
none_of (x ∷ xs) (suc i) l = none_of xs i (omega arith)

pub pending_start : (A : Arch) (K : Kernel) (ii : ℕ) (early : List ℕ) → Pending (all_edges K) (unrouted_start A K ii early)
pending_start A K ii early = λ k d l. none_of (edges K) (get_or (all_edges K) k d) (range_below (length (edges K)) k d l)

-- and where the routes of a node were taken away
pub pending_moved : (K : Kernel) (m : Move) (S : State) → length S.routes ≡ length (edges K) → Pending (touching K m.node) (moved_by K m S)
pending_moved K m S long =
    λ k d l. touching_none K m.node S (get_or (touching K m.node) k d) long (touching_known K m.node k d l) (filter_passes (touches K m.node) (all_edges K) k d l)

-- the first gets its route, or none, and the others have none still
pub pending_next : (i : ℕ) (is : List ℕ) (S : State) (route : Option (List ℕ)) → Rising (i ∷ is) → Pending (i ∷ is) S → Pending is (with_route S i route)
pending_next i is S route rising pending =
    λ k d l.
    let above = rising.0 k d l in
    get_set_other S.routes i (get_or is k d) route (λ e. omega (arith, e, above)) ∙ All-tail (λ j. slice_get S.routes j ≡ Some None) i is pending k d l

-- who gets what it has is as before
pub with_same_route : (S : State) (i : ℕ) (route : Option (List ℕ)) → slice_get S.routes i ≡ Some route → with_route S i route ≡ S
with_same_route S i route h =
    ap (λ rs. record S { routes = rs }) (ap (λ r. set S.routes i r) (sym (get_or_from_slice_get S.routes i route None h)) ∙ set-get_or S.routes i None)

-- ---- routing, step by step

pub routed_then : (A : Arch) (K : Kernel) (ii : ℕ) (is js : List ℕ) (S now after : State) → IsRouted A K ii is S now → IsRouted A K ii js now after → IsRouted A K ii (is ++ js) S after
routed_then A K ii [] js S now after h k = subst (λ x. IsRouted A K ii js x after) (sym h) k
routed_then A K ii (i ∷ is) js S now after h k = (h.0, h.1, routed_then A K ii is js (with_route S i h.0) now after h.2 k)

-- the first n of a list, and one more
pub routed_more : (A : Arch) (K : Kernel) (ii : ℕ) (is : List ℕ) (n : ℕ) (S now : State) (found : Option (List ℕ)) → n < length is → IsRouted A K ii (take n is) S now →
    IsFoundFor A K ii now (get_or is n 0) found → IsRouted A K ii (take (n + 1) is) S (with_route now (get_or is n 0) found)
routed_more A K ii is n S now found l h f =
    subst (λ xs. IsRouted A K ii xs S (with_route now (get_or is n 0) found)) (sym (take_more is n 0 l))
    (routed_then A K ii (take n is) (get_or is n 0 ∷ []) S now (with_route now (get_or is n 0) found) h (found, f, refl))
