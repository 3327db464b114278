-- The pairs of the first nodes, one node after another.
use Rattle.std.proofs.Common.{◌≡◌, ℕ, zero, suc, ◌+◌, ◌-◌, ◌<◌, ◌≤◌, false, eqb, ◌&&◌, List, [], ◌∷◌, ◌++◌, length, get_or, take, Option, refl, sym, ap, ◌∙◌, subst, arith, ⊎_elim, add-one}
use Rattle.std.specs.Prelude.{slice_index}
use Rattle.std.proofs.lemmas.Bool.{cases_lt}
use Rattle.std.proofs.lemmas.List.{length_push, take_all, take-append-le, get_or_read_under}
use Rattle.cg_model.specs.declared.kernel.Node.{Node}
use Rattle.cg_word.specs.Word.{address_arg}
use Rattle.cg_model.specs.declared.kernel.Operand.{Operand}
use Rattle.cg_model.specs.Kernel.{Kernel, node, no_node, size}
use Rattle.cg_model.proofs.Bools.{and_false}
use Rattle.cg_depend.specs.Affine.{AffinePair, ago, suits, arg_pair, pair_by, pairs, address_pair}

-- ---- the list of the pairs

pairs_more : (K : Kernel) (v : ℕ) → pairs K (v + 1) ≡ pairs K v ++ pair_by v (pairs K v) (node K v).operands (node K v).op ∷ []
unfolding pairs
pairs_more K v = rw add-one refl

-- it has a pair for each node
pub pairs_long : (K : Kernel) (v : ℕ) → length (pairs K v) ≡ v
unfolding pairs
pairs_long K zero = refl
pairs_long K (suc v) = let h = pairs_long K v in length_push (pairs K v) (pair_by v (pairs K v) (node K v).operands (node K v).op) ∙ (omega arith)

-- the pairs of fewer nodes stand in front
pub pairs_front : (K : Kernel) (v n : ℕ) → v ≤ n → take v (pairs K n) ≡ pairs K v
unfolding pairs
pairs_front K v zero l = let e : v ≡ 0 = omega arith in rw e refl
pairs_front K v (suc n) l =
    ⊎_elim
    (λ m. take-append-le v (pairs K n) (pair_by n (pairs K n) (node K n).operands (node K n).op ∷ []) (let h = pairs_long K n in omega arith) ∙ pairs_front K v n (omega arith))
    (λ m. let e : v ≡ suc n = omega arith in rw e (take_all (suc n) (pairs K (suc n)) (let h = pairs_long K (suc n) in omega arith)))
    (cases_lt v (suc n))

-- ---- as the code reads and writes it

pub node_at : (K : Kernel) (v : ℕ) (N : Node) (nodes : List Node) → nodes ≡ K.nodes → v < size K → N ≡ get_or nodes v N → N ≡ node K v
node_at K v N nodes en l is = get_or_read_under K.nodes v (size K) N no_node (subst (λ (xs : List Node). N ≡ get_or xs v N) en is) l refl

-- with the pair of node v behind those of the nodes before it
pub pair_added : (K : Kernel) (v : ℕ) (N : Node) (nodes : List Node) (earlier items : List (Option AffinePair)) (p : Option AffinePair) →
    nodes ≡ K.nodes → v < size K → N ≡ get_or nodes v N → earlier ≡ pairs K v → p ≡ pair_by v earlier N.operands N.op → items ≡ earlier ++ p ∷ [] → items ≡ pairs K (v + 1)
pair_added K v N nodes earlier items p en l is ee ep ei =
    let same = node_at K v N nodes en l is in
    let pair : p ≡ pair_by v (pairs K v) (node K v).operands (node K v).op =
    ep ∙ ap (λ (xs : List (Option AffinePair)). pair_by v xs N.operands N.op) ee ∙ ap (λ (M : Node). pair_by v (pairs K v) M.operands M.op) same in
    ei ∙ ap (λ (xs : List (Option AffinePair)). xs ++ p ∷ []) ee ∙ ap (λ (q : Option AffinePair). pairs K v ++ q ∷ []) pair ∙ sym (pairs_more K v)

-- the pair of the address, by the pairs of earlier nodes
pub address_found : (K : Kernel) (v : ℕ) (N : Node) (nodes : List Node) (all earlier : List (Option AffinePair)) (operands : List Operand) (place : ℕ) (r : Option AffinePair) →
    nodes ≡ K.nodes → v < size K → N ≡ get_or nodes v N → all ≡ pairs K (size K) → earlier ≡ take v all → operands ≡ N.operands → place ≡ address_arg N.op →
    r ≡ arg_pair earlier operands place → r ≡ address_pair K v
address_found K v N nodes all earlier operands place r en l is ea ee eo ep er =
    let same = node_at K v N nodes en l is in
    let front : earlier ≡ pairs K v = ee ∙ ap (λ (xs : List (Option AffinePair)). take v xs) ea ∙ pairs_front K v (size K) (omega arith) in
    er ∙ ap (λ (xs : List (Option AffinePair)). arg_pair xs operands place) front
    ∙ ap (λ (os : List Operand). arg_pair (pairs K v) os place) (eo ∙ ap (λ (M : Node). M.operands) same)
    ∙ ap (λ q. arg_pair (pairs K v) (node K v).operands q) (ep ∙ ap (λ (M : Node). address_arg M.op) same)

-- ---- initial words

-- one initial word that a pair doesn't suit
pub unsuited : (p : AffinePair) (d : ℕ) (init : List ℕ) (k n : ℕ) → k < n → eqb (slice_index init k) (ago p (d - k)) ≡ false → suits p d init n ≡ false
unsuited p d init k zero l e = absurd (omega arith)
unsuited p d init k (suc n) l e =
    ⊎_elim
    (λ m. ap (λ b. eqb (slice_index init n) (ago p (d - n)) && b) (unsuited p d init k n m e) ∙ and_false (eqb (slice_index init n) (ago p (d - n))))
    (λ m. let same : k ≡ n = omega arith in ap (λ b. b && suits p d init n) (subst (λ z. eqb (slice_index init z) (ago p (d - z)) ≡ false) same e))
    (cases_lt k n)
