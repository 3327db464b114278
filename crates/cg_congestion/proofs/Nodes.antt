-- The positions of lists by node.
use Rattle.std.proofs.Common.{◌≡◌, ℕ, zero, suc, ◌+◌, ◌-◌, ◌*◌, ◌/◌, ◌%◌, ◌<◌, ◌≤◌, Bool, true, false, cond, eqb, ltb, List, [], ◌∷◌, length, get_or, set, replicate, refl, sym, ap, ◌∙◌, subst, arith, ⊎_elim}
use Rattle.std.specs.Prelude.{All, sum_by, count_by, ◌≢◌}
use Rattle.std.specs.List.{list_any}
use Rattle.std.proofs.lemmas.Bool.{cases_Bool, cases_eq, and_parts, eqb-true}
use Rattle.std.proofs.lemmas.Nat.{div-add-mod', div-mul-add, mod_below}
use Rattle.std.proofs.lemmas.List.{length-append, length-replicate, get_or-replicate, get_or-set_same, get_or-set_other, length-set, ext_get_or}
use Rattle.std.proofs.lemmas.List.Sums.{sum_by-cons, sum_by-append, get_or-le-sum_by}
use Rattle.std.proofs.lemmas.List.Folds.{sum_by-replicate}
use Rattle.std.proofs.lemmas.List.Elements.{All-head, All-tail, All-nil}
use Rattle.cg_model.specs.Mapping.{Position}
use Rattle.cg_mrrg.specs.Nodes.{node_at}
use Rattle.cg_congestion.specs.Claims.{same, uses}
use Rattle.cg_congestion.specs.Kept.{ClaimUse, position_of, uses_in, IsNodeList, AreClaims, expand, expand_all}
use Rattle.cg_congestion.specs.Lists.{all_uses, IsRaised}
use Rattle.cg_congestion.specs.Nodes.{AreLists, beyond}
use Rattle.cg_congestion.proofs.Uses.{same_is, uses_cons}
use Rattle.cg_congestion.proofs.Order.{one_list}
use Rattle.cg_congestion.proofs.Sums.{any_weighted}

-- the number of a position's node
abbrev pub place_of : ℕ → Position → ℕ
place_of ii p = p.resource * ii + p.time % ii

-- how often the positions of a claim pass
abbrev weight : (Position → Bool) → ℕ → ClaimUse → ℕ
weight q r c = cond (q (position_of r c)) c.uses 0

times_cond : (n : ℕ) (b : Bool) → n * cond b 1 0 ≡ cond b n 0
times_cond n true = omega arith
times_cond n false = omega arith

count_expand : (q : Position → Bool) (r : ℕ) (cs : List ClaimUse) → count_by q (expand r cs) ≡ sum_by (weight q r) cs
count_expand q r [] = refl
count_expand q r (c ∷ cs) =
    let a = sum_by-append (λ p. cond (q p) 1 0) (replicate c.uses (position_of r c)) (expand r cs) in
    let b = sum_by-replicate (λ p. cond (q p) 1 0) c.uses (position_of r c) ∙ times_cond c.uses (q (position_of r c)) in
    let d = count_expand q r cs in
    let e = sum_by-cons (weight q r) c cs in
    omega (arith, a, b, d, e)

sum_none : {X : Type 0} (f : X → ℕ) (xs : List X) → All (λ x. f x ≡ 0) xs → sum_by f xs ≡ 0
sum_none f [] h = refl
sum_none f (x ∷ xs) h =
    let a = sum_by-cons f x xs in
    let b = All-head (λ x. f x ≡ 0) x xs h in
    let c = sum_none f xs (All-tail (λ x. f x ≡ 0) x xs h) in
    omega (arith, a, b, c)

module _ (ii : ℕ) (some : 0 < ii) where
  -- a claim of node k is at node k
  claim_place : (k : ℕ) (c : ClaimUse) → c.time % ii ≡ k % ii → place_of ii (position_of (k / ii) c) ≡ k
  claim_place k c e = ap (λ z. k / ii * ii + z) e ∙ div-add-mod' k ii

  -- a test that passes positions of node k alone
  abbrev IsLocal : (Position → Bool) → ℕ → Type 0
  IsLocal q k = (p : Position) → q p ≡ true → place_of ii p ≡ k

  -- the lists are of the nodes from number k on
  abbrev AreFrom : ℕ → List (List ClaimUse) → Type 0
  AreFrom k nodes = (j i : ℕ) → i ≡ k + j → j < length nodes → All (λ c. c.time % ii ≡ i % ii) (get_or nodes j [])

  from_first : (nodes : List (List ClaimUse)) → AreLists ii nodes → AreFrom 0 nodes
  from_first nodes lists = λ j i e l. let s : j ≡ i = omega (arith, e) in subst (λ z. All (λ c. c.time % ii ≡ z % ii) (get_or nodes j [])) s (lists j l).here

  from_head : (k : ℕ) (cs : List ClaimUse) (nodes : List (List ClaimUse)) → AreFrom k (cs ∷ nodes) → All (λ c. c.time % ii ≡ k % ii) cs
  from_head k cs nodes h = h 0 k (omega arith) (omega arith)

  from_tail : (k : ℕ) (cs : List ClaimUse) (nodes : List (List ClaimUse)) → AreFrom k (cs ∷ nodes) → AreFrom (suc k) nodes
  from_tail k cs nodes h = λ j i e l. h (suc j) i (omega (arith, e)) (omega (arith, l))

  -- no position of another node passes
  count_elsewhere : (q : Position → Bool) (at k : ℕ) (cs : List ClaimUse) → IsLocal q at → k ≢ at → All (λ c. c.time % ii ≡ k % ii) cs → sum_by (weight q (k / ii)) cs ≡ 0
  count_elsewhere q at k cs local ne h =
      sum_none (weight q (k / ii)) cs (λ j d l.
      ⊎_elim
      (λ (e : q (position_of (k / ii) (get_or cs j d)) ≡ true). absurd (ne (sym (claim_place k (get_or cs j d) (h j d l)) ∙ local (position_of (k / ii) (get_or cs j d)) e)))
      (λ (e : q (position_of (k / ii) (get_or cs j d)) ≡ false). ap (λ b. cond b (get_or cs j d).uses 0) e)
      (cases_Bool (q (position_of (k / ii) (get_or cs j d)))))

  count_past : (q : Position → Bool) (at k : ℕ) (nodes : List (List ClaimUse)) → IsLocal q at → at < k → AreFrom k nodes → count_by q (expand_all ii k nodes) ≡ 0
  count_past q at k [] local l h = refl
  count_past q at k (cs ∷ nodes) local l h =
      let a = sum_by-append (λ p. cond (q p) 1 0) (expand (k / ii) cs) (expand_all ii (suc k) nodes) in
      let b = count_expand q (k / ii) cs in
      let c = count_elsewhere q at k cs local (λ e. omega (arith, e, l)) (from_head k cs nodes h) in
      let d = count_past q at (suc k) nodes local (omega (arith, l)) (from_tail k cs nodes h) in
      omega (arith, a, b, c, d)

  count_from : (q : Position → Bool) (at k j : ℕ) (nodes : List (List ClaimUse)) → IsLocal q at → at ≡ k + j → AreFrom k nodes →
      count_by q (expand_all ii k nodes) ≡ sum_by (weight q (at / ii)) (get_or nodes j [])
  count_from q at k j [] local e h = refl
  count_from q at k zero (cs ∷ nodes) local e h =
      let same : at ≡ k = omega (arith, e) in
      let a = sum_by-append (λ p. cond (q p) 1 0) (expand (k / ii) cs) (expand_all ii (suc k) nodes) in
      let b = count_expand q (k / ii) cs in
      let d = count_past q at (suc k) nodes local (omega (arith, e)) (from_tail k cs nodes h) in
      let f = ap (λ z. sum_by (weight q (z / ii)) cs) same in
      omega (arith, a, b, d, f)
  count_from q at k (suc j) (cs ∷ nodes) local e h =
      let a = sum_by-append (λ p. cond (q p) 1 0) (expand (k / ii) cs) (expand_all ii (suc k) nodes) in
      let b = count_expand q (k / ii) cs in
      let c = count_elsewhere q at k cs local (λ f. omega (arith, e, f)) (from_head k cs nodes h) in
      let d = count_from q at (suc k) j nodes local (omega (arith, e)) (from_tail k cs nodes h) in
      omega (arith, a, b, c, d)

  -- the positions that pass are those of the claims of one node
  pub count_at : (q : Position → Bool) (k : ℕ) (nodes : List (List ClaimUse)) → IsLocal q k → AreLists ii nodes →
      count_by q (expand_all ii 0 nodes) ≡ sum_by (weight q (k / ii)) (get_or nodes k [])
  count_at q k nodes local lists = count_from q k 0 k nodes local (omega arith) (from_first nodes lists)

  pub any_at : (q : Position → Bool) (k : ℕ) (nodes : List (List ClaimUse)) → IsLocal q k → k < length nodes → AreLists ii nodes →
      list_any q (expand_all ii 0 nodes) ≡ list_any (λ c. q (position_of (k / ii) c)) (get_or nodes k [])
  any_at q k nodes local l lists =
      any_weighted q (λ p. 1) (expand_all ii 0 nodes) (λ j d m. omega arith) ∙ ap (ltb 0) (count_at q k nodes local lists)
      ∙ sym (any_weighted (λ c. q (position_of (k / ii) c)) (λ (c : ClaimUse). c.uses) (get_or nodes k []) (lists k l).used)

  pub uses_at : (p : Position) (k : ℕ) (nodes : List (List ClaimUse)) → place_of ii p ≡ k → AreLists ii nodes →
      uses (expand_all ii 0 nodes) p ≡ uses_in (k / ii) (get_or nodes k []) p
  uses_at p k nodes e lists = count_at (same p) k nodes (λ q s. ap (place_of ii) (sym (same_is p q s)) ∙ e) lists

  -- the claims of a node
  pub are_claims : (k : ℕ) (nodes : List (List ClaimUse)) → k < length nodes → AreLists ii nodes → AreClaims ii (expand_all ii 0 nodes) (node_at ii k) (get_or nodes k [])
  are_claims k nodes l lists =
      record {
        list = lists k l;
        exact = λ p h.
            let a = and_parts (eqb p.resource (k / ii)) (eqb (p.time % ii) (k % ii)) h in
            let r = eqb-true p.resource (k / ii) a.0 in
            let s = eqb-true (p.time % ii) (k % ii) a.1 in
            uses_at p k nodes (ap (λ z. z * ii + p.time % ii) r ∙ ap (λ z. k / ii * ii + z) s ∙ div-add-mod' k ii) lists;
      }

  -- lists that differ at one node, by uses of a claim there
  pub uses_raised : (k r : ℕ) (few many : List (List ClaimUse)) (claim : ClaimUse) → AreLists ii few → AreLists ii many → ((j : ℕ) → j ≢ k → get_or many j [] ≡ get_or few j []) →
      k ≡ r * ii + claim.time % ii → claim.uses ≡ 1 → IsRaised (get_or few k []) (get_or many k []) claim → (p : Position) →
      uses (expand_all ii 0 many) p ≡ uses (expand_all ii 0 few) p + uses (position_of r claim ∷ []) p
  uses_raised k r few many claim f m others at one raised p =
      let row : k / ii ≡ r = ap (λ z. z / ii) at ∙ div-mul-add r ii (claim.time % ii) (mod_below claim.time ii some) in
      let w = uses_cons (position_of r claim) [] p in
      let um = uses_at p (place_of ii p) many refl m in
      let uf = uses_at p (place_of ii p) few refl f in
      ⊎_elim
      (λ (e : place_of ii p ≡ k).
      let um' = uses_at p k many e m in
      let uf' = uses_at p k few e f in
      let u = raised.uses (k / ii) p in
      let z = ap (λ z. cond (same p (position_of z claim)) claim.uses 0) row ∙ ap (λ z. cond (same p (position_of r claim)) z 0) one in
      omega (arith, um', uf', u, z, w))
      (λ (e : place_of ii p ≢ k).
      let o = ap (λ l. uses_in (place_of ii p / ii) l p) (others (place_of ii p) e) in
      ⊎_elim
      (λ (s : same p (position_of r claim) ≡ true). absurd (e (ap (place_of ii) (same_is p (position_of r claim) s) ∙ sym at)))
      (λ (s : same p (position_of r claim) ≡ false).
      let w' : uses (position_of r claim ∷ []) p ≡ 0 = w ∙ ap (λ b. cond b 1 0 + uses [] p) s in
      omega (arith, um, uf, o, w'))
      (cases_Bool (same p (position_of r claim))))
      (cases_eq (place_of ii p) k)

  -- the lists of all nodes are determined by the uses
  pub one_table : (xs ys : List (List ClaimUse)) → AreLists ii xs → AreLists ii ys → length xs ≡ length ys → ((p : Position) → uses (expand_all ii 0 xs) p ≡ uses (expand_all ii 0 ys) p) → xs ≡ ys
  one_table xs ys f g long h =
      ext_get_or [] xs ys long (λ k l.
      let a = f k l in
      let b = g k (omega (arith, l, long)) in
      one_list (k / ii) (λ c. c.time % ii ≡ k % ii) (get_or xs k []) (get_or ys k []) a.sorted b.sorted a.used b.used a.here b.here
      (λ c e.
      let p = position_of (k / ii) c in
      sym (uses_at p k xs (claim_place k c e) f) ∙ h p ∙ uses_at p k ys (claim_place k c e) g))

length_expand : (r : ℕ) (cs : List ClaimUse) → length (expand r cs) ≡ all_uses cs
length_expand r [] = refl
length_expand r (c ∷ cs) =
    let a = length-append (replicate c.uses (position_of r c)) (expand r cs) in
    let b = length-replicate c.uses (position_of r c) in
    let d = length_expand r cs in
    let e = sum_by-cons (λ (c : ClaimUse). c.uses) c cs in
    omega (arith, a, b, d, e)

pub length_all : (ii k : ℕ) (nodes : List (List ClaimUse)) → length (expand_all ii k nodes) ≡ sum_by all_uses nodes
length_all ii k [] = refl
length_all ii k (cs ∷ nodes) =
    let a = length-append (expand (k / ii) cs) (expand_all ii (suc k) nodes) in
    let b = length_expand (k / ii) cs in
    let d = length_all ii (suc k) nodes in
    let e = sum_by-cons all_uses cs nodes in
    omega (arith, a, b, d, e)

length_used : (cs : List ClaimUse) → All (λ c. 0 < c.uses) cs → length cs ≤ all_uses cs
length_used [] h = omega arith
length_used (c ∷ cs) h =
    let a = sum_by-cons (λ (c : ClaimUse). c.uses) c cs in
    let b = All-head (λ c. 0 < c.uses) c cs h in
    let d = length_used cs (All-tail (λ c. 0 < c.uses) c cs h) in
    omega (arith, a, b, d)

beyond_used : (nodes : List (List ClaimUse)) → ((k : ℕ) → k < length nodes → All (λ c. 0 < c.uses) (get_or nodes k [])) → beyond nodes ≤ sum_by all_uses nodes
beyond_used [] h = omega arith
beyond_used (cs ∷ nodes) h =
    let a = sum_by-cons all_uses cs nodes in
    let b = sum_by-cons (λ (cs : List ClaimUse). length cs - 1) cs nodes in
    let d = length_used cs (h 0 (omega arith)) in
    let e = beyond_used nodes (λ k l. h (suc k) (omega (arith, l))) in
    omega (arith, a, b, d, e)

-- there are at most as many claims beyond one as positions
pub beyond_le : (ii : ℕ) (nodes : List (List ClaimUse)) → AreLists ii nodes → beyond nodes ≤ length (expand_all ii 0 nodes)
beyond_le ii nodes lists = let a = beyond_used nodes (λ k l. (lists k l).used) in let b = length_all ii 0 nodes in omega (arith, a, b)

-- the positions of one node are some of all
pub node_le : (ii : ℕ) (nodes : List (List ClaimUse)) (k : ℕ) → k < length nodes → all_uses (get_or nodes k []) ≤ length (expand_all ii 0 nodes)
node_le ii nodes k l = let a = get_or-le-sum_by all_uses nodes k [] l in let b = length_all ii 0 nodes in omega (arith, a, b)

-- and so are its claims
pub claims_le : (ii : ℕ) (nodes : List (List ClaimUse)) (k : ℕ) → k < length nodes → AreLists ii nodes → length (get_or nodes k []) ≤ length (expand_all ii 0 nodes)
claims_le ii nodes k l lists = let a = node_le ii nodes k l in let b = length_used (get_or nodes k []) (lists k l).used in omega (arith, a, b)

pub lists_set : (ii : ℕ) (nodes : List (List ClaimUse)) (k : ℕ) (cs : List ClaimUse) → k < length nodes → AreLists ii nodes → IsNodeList ii (node_at ii k) cs → AreLists ii (set nodes k cs)
lists_set ii nodes k cs l lists new = λ j m.
    let long = length-set nodes k cs in
    ⊎_elim
    (λ (e : j ≡ k). subst (λ z. IsNodeList ii (node_at ii z) (get_or (set nodes k cs) z [])) (sym e) (subst (IsNodeList ii (node_at ii k)) (sym (get_or-set_same nodes k cs [] l)) new))
    (λ (e : j ≢ k). subst (IsNodeList ii (node_at ii j)) (sym (get_or-set_other nodes k j cs [] e)) (lists j (omega (arith, m, long))))
    (cases_eq j k)

-- no claims
pub no_positions : (ii n k : ℕ) → expand_all ii k (replicate n []) ≡ []
no_positions ii zero k = refl
no_positions ii (suc n) k = no_positions ii n (suc k)

pub no_lists : (ii n : ℕ) → AreLists ii (replicate n [])
no_lists ii n = λ k l.
    subst (IsNodeList ii (node_at ii k)) (sym (get_or-replicate n k [] [] (subst (λ z. k < z) (length-replicate n []) l)))
    (record { sorted = λ a b d x y. absurd (omega (arith, y)); used = All-nil (λ c. 0 < c.uses); here = All-nil (λ c. c.time % ii ≡ k % ii) })

pub none_beyond : (n : ℕ) → beyond (replicate n []) ≡ 0
none_beyond n = let a = sum_by-replicate (λ (cs : List ClaimUse). length cs - 1) n [] in omega (arith, a)
