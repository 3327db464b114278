-- Tables, and lists by node that change.
use Rattle.std.proofs.Common.{◌≡◌, ℕ, ◌+◌, ◌-◌, ◌*◌, ◌/◌, ◌%◌, ◌^◌, ◌<◌, ◌≤◌, List, [], ◌∷◌, ◌++◌, length, get_or, set, refl, sym, ap, ◌∙◌, subst, arith}
use Rattle.std.specs.Prelude.{◌≢◌, replicate}
use Rattle.std.proofs.lemmas.List.{length-append, get_or-set_same, get_or-set_other, length-set, get_or_read, length-replicate}
use Rattle.std.proofs.lemmas.List.Sums.{sum_by-set, get_or-le-sum_by}
use Rattle.std.proofs.lemmas.Nat.{div-mul-add, mod-mul-add, mul-add-lt, mod_below}
use Rattle.std.proofs.Math.Nat.{mul_comm, mod-eq_of_lt}
use Rattle.cg_model.specs.Array.{Arch}
use Rattle.cg_model.specs.Mapping.{Position}
use Rattle.cg_mrrg.specs.declared.links.MNode.{MNode}
use Rattle.cg_mrrg.specs.Graph.{IsNode}
use Rattle.cg_mrrg.specs.Nodes.{node_at}
use Rattle.cg_mrrg.proofs.Numbers.{numbered}
use Rattle.cg_congestion.specs.Claims.{uses}
use Rattle.cg_congestion.specs.Kept.{ClaimUse, position_of, uses_in, IsNodeList, expand_all}
use Rattle.cg_congestion.specs.Lists.{all_uses, IsRaised}
use Rattle.cg_congestion.specs.Nodes.{AreLists, table_of, IsKept, IsListed}
use Rattle.cg_congestion.specs.Table.{Table, IsMore}
use Rattle.cg_congestion.proofs.Uses.{uses_append}
use Rattle.cg_congestion.proofs.Nodes.{uses_raised, uses_at, lists_set, length_all, one_table, node_le, beyond_le, no_lists, no_positions, none_beyond}

pub more_none : (T : Table) → IsMore T T []
more_none T = record { arch = refl; interval = refl; history = refl; uses = λ p. omega arith; count = omega arith }

-- one path after another
pub more_then : (S T R : Table) (xs ys : List Position) → IsMore S T xs → IsMore T R ys → IsMore S R (xs ++ ys)
more_then S T R xs ys a b = record {
  arch = b.arch ∙ a.arch;
  interval = b.interval ∙ a.interval;
  history = b.history ∙ a.history;
  uses = λ p. let x = a.uses p in let y = b.uses p in let z = uses_append xs ys p in omega (arith, x, y, z);
  count = let x = a.count in let y = b.count in let z = length-append xs ys in omega (arith, x, y, z);
}

pub more_before : (S T R : Table) (xs ys : List Position) → IsMore S T xs → IsMore T R ys → IsMore S R (ys ++ xs)
more_before S T R xs ys a b = record {
  arch = b.arch ∙ a.arch;
  interval = b.interval ∙ a.interval;
  history = b.history ∙ a.history;
  uses = λ p. let x = a.uses p in let y = b.uses p in let z = uses_append ys xs p in omega (arith, x, y, z);
  count = let x = a.count in let y = b.count in let z = length-append ys xs in omega (arith, x, y, z);
}

-- the place of a position's node is one
pub place_within : (n ii r t : ℕ) → 0 < ii → r < n → r * ii + t % ii < n * ii
place_within n ii r t some l = subst (λ z. r * ii + t % ii < z) (mul_comm ii n) (mul-add-lt r ii (t % ii) n l (mod_below t ii some))

-- the slot of a place
pub place_slot : (ii r t : ℕ) → 0 < ii → (r * ii + t % ii) % ii ≡ t % ii
place_slot ii r t some = mod-mul-add r ii (t % ii) (mod_below t ii some)

pub place_row : (ii r t : ℕ) → 0 < ii → (r * ii + t % ii) / ii ≡ r
place_row ii r t some = div-mul-add r ii (t % ii) (mod_below t ii some)

module _ (A : Arch) (ii : ℕ) (nodes : List (List ClaimUse)) (history : List ℕ) (some : 0 < ii) (lists : AreLists ii nodes) (r : ℕ) (claim : ClaimUse) (one : claim.uses ≡ 1) (cs : List ClaimUse)
    (l : r * ii + claim.time % ii < length nodes) (new : IsNodeList ii (node_at ii (r * ii + claim.time % ii)) cs) where
  abbrev k : ℕ
  k = r * ii + claim.time % ii

  abbrev after : List (List ClaimUse)
  after = set nodes k cs

  after_lists : AreLists ii after
  after_lists = lists_set ii nodes k cs l lists new

  others : (j : ℕ) → j ≢ k → get_or after j [] ≡ get_or nodes j []
  others j e = get_or-set_other nodes k j cs [] e

  -- a claim is used once more
  pub more_raised : IsRaised (get_or nodes k []) cs claim → IsMore (table_of A ii nodes history) (table_of A ii after history) (position_of r claim ∷ [])
  more_raised raised =
      let here = get_or-set_same nodes k cs [] l in
      record {
        arch = refl;
        interval = refl;
        history = refl;
        uses = uses_raised ii some k r nodes after claim lists after_lists others refl one (subst (λ z. IsRaised (get_or nodes k []) z claim) (sym here) raised);
        count =
            let a = length_all ii 0 nodes in
            let b = length_all ii 0 after in
            let c = sum_by-set all_uses nodes k cs [] l in
            let d = raised.total in
            omega (arith, a, b, c, d, one);
      }

  -- and once less
  pub more_lowered : IsRaised cs (get_or nodes k []) claim → IsMore (table_of A ii after history) (table_of A ii nodes history) (position_of r claim ∷ [])
  more_lowered raised =
      let here = get_or-set_same nodes k cs [] l in
      record {
        arch = refl;
        interval = refl;
        history = refl;
        uses = uses_raised ii some k r after nodes claim after_lists lists (λ j e. sym (others j e)) refl one (subst (λ z. IsRaised z (get_or nodes k []) claim) (sym here) raised);
        count =
            let a = length_all ii 0 nodes in
            let b = length_all ii 0 after in
            let c = sum_by-set all_uses nodes k cs [] l in
            let d = raised.total in
            omega (arith, a, b, c, d, one);
      }

-- one list changes
pub kept_set : (A : Arch) (ii : ℕ) (nodes : List (List ClaimUse)) (history : List ℕ) (over : ℕ) (k : ℕ) (cs : List ClaimUse) → k < length nodes → IsKept A ii nodes history over →
    IsNodeList ii (node_at ii k) cs → length (expand_all ii 0 (set nodes k cs)) ≤ 2 ^ 48 → IsKept A ii (set nodes k cs) history (over - (length (get_or nodes k []) - 1) + (length cs - 1))
kept_set A ii nodes history over k cs l kept new room = record {
  some = kept.some;
  few = kept.few;
  each = length-set nodes k cs ∙ kept.each;
  histories = kept.histories;
  lists = lists_set ii nodes k cs l kept.lists new;
  room = room;
  sum =
      let a = sum_by-set (λ (cs : List ClaimUse). length cs - 1) nodes k cs [] l in
      let b = get_or-le-sum_by (λ (cs : List ClaimUse). length cs - 1) nodes k [] l in
      let c = kept.sum in
      omega (arith, a, b, c);
}

pub listed : (A : Arch) (ii : ℕ) (nodes : List (List ClaimUse)) (history : List ℕ) (over : ℕ) → IsKept A ii nodes history over → IsListed (table_of A ii nodes history)
listed A ii nodes history over kept = record { nodes = nodes; some = kept.some; each = kept.each; lists = kept.lists; are = refl }

-- tables of lists that differ in no use are the same
pub same_table : (T R : Table) → IsListed T → IsListed R → T.arch ≡ R.arch → T.interval ≡ R.interval → T.history ≡ R.history → ((p : Position) → uses T.positions p ≡ uses R.positions p) → T ≡ R
same_table T R t r a i h u =
    let lists : AreLists T.interval r.nodes = subst (λ z. AreLists z r.nodes) (sym i) r.lists in
    let are : R.positions ≡ expand_all T.interval 0 r.nodes = r.are ∙ ap (λ z. expand_all z 0 r.nodes) (sym i) in
    let long : length t.nodes ≡ length r.nodes = t.each ∙ ap (λ (A : Arch). length A.resources * T.interval) a ∙ ap (λ z. length R.arch.resources * z) i ∙ sym r.each in
    let e : t.nodes ≡ r.nodes = one_table T.interval t.some t.nodes r.nodes t.lists lists long (λ p. sym (ap (λ z. uses z p) t.are) ∙ u p ∙ ap (λ z. uses z p) are) in
    let q : T.positions ≡ R.positions = t.are ∙ ap (expand_all T.interval 0) e ∙ sym are in
    ap (λ (x : Arch). record T { arch = x }) a ∙ ap (λ x. record T { arch = R.arch; interval = x }) i ∙ ap (λ (x : List Position). record T { arch = R.arch; interval = R.interval; positions = x }) q
    ∙ ap (λ (x : List ℕ). record R { history = x }) h

-- what was read after a write
pub read_set : {X : Type 0} (xs : List X) (i : ℕ) (y x : X) → i < length xs → x ≡ get_or (set xs i y) i x → x ≡ y
read_set xs i y x l is = is ∙ get_or-set_same xs i y x l

module _ (A : Arch) (ii : ℕ) (nodes : List (List ClaimUse)) (history : List ℕ) (over r : ℕ) (claim : ClaimUse) (old cs : List ClaimUse) (place : ℕ) (kept : IsKept A ii nodes history over)
    (known : r < length A.resources) (one : claim.uses ≡ 1) (at : place ≡ r * ii + claim.time % ii) (is : old ≡ get_or nodes place old) where
  abbrev row_place : ℕ
  row_place = r * ii + claim.time % ii

  pub here_within : row_place < length nodes
  here_within = subst (λ z. row_place < z) (sym kept.each) (place_within (length A.resources) ii r claim.time kept.some known)

  pub within : place < length nodes
  within = subst (λ z. z < length nodes) (sym at) here_within

  pub old_is : old ≡ get_or nodes row_place []
  old_is = get_or_read nodes row_place old here_within (is ∙ ap (λ z. get_or nodes z old) at) []

  pub old_list : IsNodeList ii (node_at ii row_place) old
  old_list = subst (IsNodeList ii (node_at ii row_place)) (sym old_is) (kept.lists row_place here_within)

  pub old_uses : uses (expand_all ii 0 nodes) (position_of r claim) ≡ uses_in r old (position_of r claim)
  old_uses =
      uses_at ii kept.some (position_of r claim) row_place nodes refl kept.lists ∙ ap (λ z. uses_in z (get_or nodes row_place []) (position_of r claim)) (place_row ii r claim.time kept.some)
      ∙ ap (λ z. uses_in r z (position_of r claim)) (sym old_is)

  pub old_room : all_uses old ≤ length (expand_all ii 0 nodes)
  old_room = subst (λ z. all_uses z ≤ length (expand_all ii 0 nodes)) (sym old_is) (node_le ii nodes row_place here_within)

  -- a kept table with a list changed
  changed : (before after : ℕ) → IsNodeList ii (node_at ii row_place) cs → length (expand_all ii 0 (set nodes row_place cs)) ≤ 2 ^ 48 → before ≡ length old - 1 → after ≡ length cs - 1 →
      IsKept A ii (set nodes place cs) history (over - before + after)
  changed before after node room b a =
      subst (λ z. IsKept A ii (set nodes z cs) history (over - before + after)) (sym at)
      (subst (IsKept A ii (set nodes row_place cs) history)
      (ap (λ (z : List ClaimUse). over - (length z - 1) + (length cs - 1)) (sym old_is) ∙ ap (λ z. over - z + (length cs - 1)) (sym b) ∙ ap (λ z. over - before + z) (sym a))
      (kept_set A ii nodes history over row_place cs here_within kept node room))

  raised_list : ((ii : ℕ) (n : MNode) → claim.time % ii ≡ n.slot → IsNodeList ii n old → IsNodeList ii n cs) → IsNodeList ii (node_at ii row_place) cs
  raised_list list = list ii (node_at ii row_place) (sym (place_slot ii r claim.time kept.some)) old_list

  raised_more : IsNodeList ii (node_at ii row_place) cs → IsRaised old cs claim → IsMore (table_of A ii nodes history) (table_of A ii (set nodes row_place cs) history) (position_of r claim ∷ [])
  raised_more node raised = more_raised A ii nodes history kept.some kept.lists r claim one cs here_within node (subst (λ z. IsRaised z cs claim) old_is raised)

  lowered_more : IsNodeList ii (node_at ii row_place) cs → IsRaised cs old claim → IsMore (table_of A ii (set nodes row_place cs) history) (table_of A ii nodes history) (position_of r claim ∷ [])
  lowered_more node raised = more_lowered A ii nodes history kept.some kept.lists r claim one cs here_within node (subst (λ z. IsRaised cs z claim) old_is raised)

  pub raised_is : ((ii : ℕ) (n : MNode) → claim.time % ii ≡ n.slot → IsNodeList ii n old → IsNodeList ii n cs) → IsRaised old cs claim →
      IsMore (table_of A ii nodes history) (table_of A ii (set nodes place cs) history) (position_of r claim ∷ [])
  raised_is list raised = subst (λ z. IsMore (table_of A ii nodes history) (table_of A ii (set nodes z cs) history) (position_of r claim ∷ [])) (sym at) (raised_more (raised_list list) raised)

  pub raised_kept : (before after : ℕ) → length (expand_all ii 0 nodes) < 2 ^ 48 → ((ii : ℕ) (n : MNode) → claim.time % ii ≡ n.slot → IsNodeList ii n old → IsNodeList ii n cs) → IsRaised old cs claim →
      before ≡ length old - 1 → after ≡ length cs - 1 → IsKept A ii (set nodes place cs) history (over - before + after)
  raised_kept before after room list raised b a =
      changed before after (raised_list list) (let c = (raised_more (raised_list list) raised).count in omega (arith, c, room)) b a

  pub lowered_is : ((ii : ℕ) (n : MNode) → IsNodeList ii n old → IsNodeList ii n cs) → IsRaised cs old claim →
      IsMore (table_of A ii (set nodes place cs) history) (table_of A ii nodes history) (position_of r claim ∷ [])
  lowered_is list raised = subst (λ z. IsMore (table_of A ii (set nodes z cs) history) (table_of A ii nodes history) (position_of r claim ∷ [])) (sym at) (lowered_more (list ii (node_at ii row_place) old_list) raised)

  pub lowered_kept : (before after : ℕ) → ((ii : ℕ) (n : MNode) → IsNodeList ii n old → IsNodeList ii n cs) → IsRaised cs old claim →
      before ≡ length old - 1 → after ≡ length cs - 1 → IsKept A ii (set nodes place cs) history (over - before + after)
  lowered_kept before after list raised b a =
      let node = list ii (node_at ii row_place) old_list in
      changed before after node (let c = (lowered_more node raised).count in let d = kept.room in omega (arith, c, d)) b a

-- the sum of excess is small
pub kept_fits : (A : Arch) (ii : ℕ) (nodes : List (List ClaimUse)) (history : List ℕ) (over : ℕ) → IsKept A ii nodes history over → over ≤ 2 ^ 48
kept_fits A ii nodes history over kept = let a = kept.sum in let b = beyond_le ii nodes kept.lists in let c = kept.room in omega (arith, a, b, c)

-- the place of a node
pub node_within : (A : Arch) (ii : ℕ) (nodes : List (List ClaimUse)) (history : List ℕ) (over : ℕ) (n : MNode) → IsKept A ii nodes history over → IsNode (record { arch = A; interval = ii }) n →
    n.resource * ii + n.slot % ii < length nodes
node_within A ii nodes history over n kept node = subst (λ z. n.resource * ii + n.slot % ii < z) (sym kept.each) (place_within (length A.resources) ii n.resource n.slot kept.some node.resource)

pub slot_is : (A : Arch) (ii : ℕ) (n : MNode) → IsNode (record { arch = A; interval = ii }) n → n.slot % ii ≡ n.slot
slot_is A ii n node = mod-eq_of_lt node.slot

pub node_is : (A : Arch) (ii : ℕ) (n : MNode) → IsNode (record { arch = A; interval = ii }) n → node_at ii (n.resource * ii + n.slot % ii) ≡ n
node_is A ii n node = ap (λ z. node_at ii (n.resource * ii + z)) (slot_is A ii n node) ∙ numbered ii n.resource n.slot node.slot

-- two reads of one place
pub same_read : {X : Type 0} (xs : List X) (i : ℕ) (x y : X) → i < length xs → x ≡ get_or xs i x → y ≡ get_or xs i y → x ≡ y
same_read xs i x y l a b = get_or_read xs i x l a y ∙ sym b

-- no claims
pub no_kept : (A : Arch) (ii count : ℕ) (nodes : List (List ClaimUse)) (history : List ℕ) → 0 < ii → ii ≤ 64 → count ≡ length A.resources * ii → nodes ≡ replicate count [] → history ≡ replicate count 0 → IsKept A ii nodes history 0
no_kept A ii count nodes history some few c n h =
    subst (λ z. IsKept A ii z history 0) (sym n)
    (subst (λ z. IsKept A ii (replicate count []) z 0) (sym h)
    (record {
      some = some;
      few = few;
      each = length-replicate count [] ∙ c;
      histories = length-replicate count 0 ∙ c;
      lists = no_lists ii count;
      room = let e = ap length (no_positions ii count 0) in omega (arith, e);
      sum = sym (none_beyond count);
    }))

pub no_table : (A : Arch) (ii count : ℕ) (nodes : List (List ClaimUse)) (history : List ℕ) → nodes ≡ replicate count [] → history ≡ replicate count 0 →
    table_of A ii nodes history ≡ record { arch = A; interval = ii; positions = []; history = replicate count 0 }
no_table A ii count nodes history n h =
    ap (λ z. table_of A ii z history) n ∙ ap (λ z. table_of A ii (replicate count []) z) h
    ∙ ap (λ (z : List Position). record { arch = A; interval = ii; positions = z; history = replicate count 0 }) (no_positions ii count 0)
