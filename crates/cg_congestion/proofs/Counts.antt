-- How many claims a node has, by its list; the excess of all nodes.
use Rattle.std.proofs.Common.{◌≡◌, ℕ, suc, ◌+◌, ◌-◌, ◌*◌, ◌%◌, ◌<◌, true, false, cond, eqb, ltb, List, [], ◌∷◌, length, get_or, map, refl, sym, ap, ◌∙◌, subst, arith, ⊎_elim}
use Rattle.std.specs.Prelude.{All, AllPairs, filter}
use Rattle.std.specs.List.{range_with_len}
use Rattle.std.proofs.lemmas.Bool.{cases_Bool, and_from, eq-eqb}
use Rattle.std.proofs.lemmas.List.Elements.{All-head, All-tail}
use Rattle.std.proofs.lemmas.List.FromFn.{fill_by_all, length-map-range_with_len, get_or-map-range_with_len}
use Rattle.cg_model.specs.Array.{Arch}
use Rattle.cg_model.specs.Mapping.{Position}
use Rattle.cg_mrrg.specs.declared.links.MNode.{MNode}
use Rattle.cg_mrrg.specs.Graph.{IsNode}
use Rattle.cg_mrrg.specs.Nodes.{node_at}
use Rattle.cg_congestion.specs.Claims.{same, is_at, claims_at, excess_at, excess_below, excess}
use Rattle.cg_congestion.specs.Kept.{ClaimUse, position_of, uses_in, IsBefore, AreClaims, expand_all}
use Rattle.cg_congestion.specs.Nodes.{AreLists, beyond, table_of, IsKept}
use Rattle.cg_congestion.specs.Table.{toll, aged}
use Rattle.cg_congestion.proofs.Uses.{In, Out, same_is, in_from_uses, uses_from_in}
use Rattle.cg_congestion.proofs.Different.{number, number_out, number_le, in_at, at_in}
use Rattle.cg_congestion.proofs.Order.{uses_in_cons, before_apart, pairs_head, pairs_tail}
use Rattle.cg_congestion.proofs.Sums.{sum_places}
use Rattle.cg_congestion.proofs.Nodes.{are_claims}
use Rattle.cg_congestion.proofs.Tables.{node_within, slot_is, node_is}

abbrev positions_of : ℕ → List ClaimUse → List Position
positions_of r cs = map (position_of r) cs

in_from_uses_in : (r : ℕ) (cs : List ClaimUse) (p : Position) → 0 < uses_in r cs p → In p (positions_of r cs)
in_from_uses_in r [] p h = absurd (omega arith)
in_from_uses_in r (c ∷ cs) p h =
    ⊎_elim (λ (a : same p (position_of r c) ≡ true). rw a refl)
    (λ (a : same p (position_of r c) ≡ false).
    let z = uses_in_cons r c cs p ∙ ap (λ b. cond b c.uses 0 + uses_in r cs p) a in rw a (in_from_uses_in r cs p (omega (arith, z, h))))
    (cases_Bool (same p (position_of r c)))

-- a claim of the list is used there, and is at the node
uses_in_from : (r : ℕ) (cs : List ClaimUse) (P : Position → Type 0) (p : Position) → All (λ c. 0 < c.uses) cs → All (λ c. P (position_of r c)) cs → In p (positions_of r cs) →
    (0 < uses_in r cs p) × P p
uses_in_from r [] P p used here m = absurd (cc)
uses_in_from r (c ∷ cs) P p used here m =
    ⊎_elim
    (λ (a : same p (position_of r c) ≡ true).
    let z = uses_in_cons r c cs p ∙ ap (λ b. cond b c.uses 0 + uses_in r cs p) a in
    let u = All-head (λ c. 0 < c.uses) c cs used in
    (omega (arith, z, u), subst P (sym (same_is p (position_of r c) a)) (All-head (λ c. P (position_of r c)) c cs here)))
    (λ (a : same p (position_of r c) ≡ false).
    let m' : In p (positions_of r cs) = (rw a at m) in
    let rest = uses_in_from r cs P p (All-tail (λ c. 0 < c.uses) c cs used) (All-tail (λ c. P (position_of r c)) c cs here) m' in
    let z = uses_in_cons r c cs p ∙ ap (λ b. cond b c.uses 0 + uses_in r cs p) a in
    (omega (arith, z, rest.0), rest.1))
    (cases_Bool (same p (position_of r c)))

out_of : (r : ℕ) (cs : List ClaimUse) (p : Position) → All (λ c. same p (position_of r c) ≡ false) cs → Out p (positions_of r cs)
out_of r [] p h = refl
out_of r (c ∷ cs) p h = rw (All-head (λ c. same p (position_of r c) ≡ false) c cs h) (out_of r cs p (All-tail (λ c. same p (position_of r c) ≡ false) c cs h))

number_sorted : (r : ℕ) (cs : List ClaimUse) → AllPairs IsBefore cs → number (positions_of r cs) ≡ length cs
number_sorted r [] h = refl
number_sorted r (c ∷ cs) h =
    number_out (position_of r c) (positions_of r cs) (out_of r cs (position_of r c) (λ k d l. before_apart r c (get_or cs k d) (pairs_head IsBefore c cs h k d l)))
    ∙ ap suc (number_sorted r cs (pairs_tail IsBefore c cs h))

-- a node's list has as many claims as its positions have different ones
pub claims_are : (ii : ℕ) (ps : List Position) (n : MNode) (cs : List ClaimUse) → AreClaims ii ps n cs → claims_at ii ps n ≡ length cs
unfolding claims_at
claims_are ii ps n cs h =
    let list = h.list in
    let at : All (λ c. is_at ii n (position_of n.resource c) ≡ true) cs =
    λ k d l. and_from (eqb n.resource n.resource) (eqb ((get_or cs k d).time % ii) n.slot) (eq-eqb n.resource n.resource refl) (eq-eqb ((get_or cs k d).time % ii) n.slot (list.here k d l)) in
    let to = number_le (filter (is_at ii n) ps) (positions_of n.resource cs) (λ p m.
    let a = in_at ii n p ps m in
    let u = uses_from_in p ps a.1 in
    let e = h.exact p a.0 in
    in_from_uses_in n.resource cs p (omega (arith, u, e))) in
    let from = number_le (positions_of n.resource cs) (filter (is_at ii n) ps) (λ p m.
    let a = uses_in_from n.resource cs (λ q. is_at ii n q ≡ true) p list.used at m in
    let e = h.exact p a.1 in
    at_in ii n p ps a.1 (in_from_uses p ps (omega (arith, a.0, e)))) in
    let k = number_sorted n.resource cs list.sorted in
    omega (arith, to, from, k)

-- the number of claims of each node
pub count_is : (ii : ℕ) → 0 < ii → (k : ℕ) (nodes : List (List ClaimUse)) → k < length nodes → AreLists ii nodes → claims_at ii (expand_all ii 0 nodes) (node_at ii k) ≡ length (get_or nodes k [])
count_is ii some k nodes l lists = claims_are ii (expand_all ii 0 nodes) (node_at ii k) (get_or nodes k []) (are_claims ii some k nodes l lists)

-- the excess over all nodes
pub excess_is : (ii n : ℕ) → 0 < ii → (nodes : List (List ClaimUse)) → length nodes ≡ n * ii → AreLists ii nodes → excess ii n (expand_all ii 0 nodes) ≡ beyond nodes
excess_is ii n some nodes long lists =
    ap (excess_below ii (expand_all ii 0 nodes)) (sym long)
    ∙ sum_places (λ j. excess_at ii (expand_all ii 0 nodes) (node_at ii j)) (λ cs. length cs - 1) [] nodes 0
    (λ j i e l. let s : i ≡ j = omega (arith, e) in ap (λ z. excess_at ii (expand_all ii 0 nodes) (node_at ii z)) s ∙ ap (λ z. z - 1) (count_is ii some j nodes l lists))

-- the price of a node
pub toll_is : (A : Arch) (ii : ℕ) (nodes : List (List ClaimUse)) (history : List ℕ) (over : ℕ) (n : MNode) → IsKept A ii nodes history over → IsNode (record { arch = A; interval = ii }) n →
    1 + get_or history (n.resource * ii + n.slot % ii) 0 + 8 * length (get_or nodes (n.resource * ii + n.slot % ii) []) ≡ toll (table_of A ii nodes history) n
unfolding toll
toll_is A ii nodes history over n kept node =
    let k : ℕ = n.resource * ii + n.slot % ii in
    let h : get_or history k 0 ≡ get_or history (n.resource * ii + n.slot) 0 = ap (λ z. get_or history (n.resource * ii + z) 0) (slot_is A ii n node) in
    let c : claims_at ii (expand_all ii 0 nodes) n ≡ length (get_or nodes k []) =
    ap (claims_at ii (expand_all ii 0 nodes)) (sym (node_is A ii n node)) ∙ count_is ii kept.some k nodes (node_within A ii nodes history over n kept node) kept.lists in
    ap (λ z. 1 + z + 8 * length (get_or nodes k [])) h ∙ ap (λ z. 1 + get_or history (n.resource * ii + n.slot) 0 + 8 * z) (sym c)

map_range : {X : Type 0} (f g : ℕ → X) (n : ℕ) (d : X) → ((k : ℕ) → k < n → f k ≡ g k) → map f (range_with_len 0 n) ≡ map g (range_with_len 0 n)
map_range f g n d h = fill_by_all g (map f (range_with_len 0 n)) n d (length-map-range_with_len f 0 n) (λ k l. get_or-map-range_with_len f 0 n k k d l (omega arith) ∙ h k l)

-- the histories of nodes with more than one claim grow
pub aged_is : (A : Arch) (ii : ℕ) (nodes : List (List ClaimUse)) (history : List ℕ) (over : ℕ) → IsKept A ii nodes history over →
    map (λ k. get_or history k 0 + cond (ltb 1 (length (get_or nodes k []))) 1 0) (range_with_len 0 (length nodes)) ≡ aged (table_of A ii nodes history)
aged_is A ii nodes history over kept =
    map_range (λ k. get_or history k 0 + cond (ltb 1 (length (get_or nodes k []))) 1 0) (λ k. get_or history k 0 + cond (ltb 1 (claims_at ii (expand_all ii 0 nodes) (node_at ii k))) 1 0) (length nodes) 0
    (λ k l. ap (λ z. get_or history k 0 + cond (ltb 1 z) 1 0) (sym (count_is ii kept.some k nodes l kept.lists)))
    ∙ ap (λ z. map (λ k. get_or history k 0 + cond (ltb 1 (claims_at ii (expand_all ii 0 nodes) (node_at ii k))) 1 0) (range_with_len 0 z)) kept.each
