-- The edges that are wanted, and the chains by those that are taken.
use Rattle.std.proofs.Common.{◌≡◌, ℕ, zero, suc, ◌+◌, ◌-◌, ◌<◌, Bool, true, false, List, [], ◌∷◌, ◌++◌, length, Some, refl, ap, sym, ◌∙◌, subst, arith, zero-add, ⊎_elim}
use Rattle.std.specs.Prelude.{Contains, None, Option, eqb, find, reverse, slice_get, slice_index_or}
use Rattle.std.specs.List.{range_with_len}
use Rattle.std.proofs.lemmas.Bool.{cond-true, eq-eqb, ne_eqb}
use Rattle.std.proofs.lemmas.List.{reverse-append}
use Rattle.std.proofs.lemmas.List.FromFn.{get_or-map-range_with_len, length-map-range_with_len, map-range_with_len_more}
use Rattle.std.proofs.lemmas.Option.{slice_get-get_or}
use Rattle.cg_model.specs.declared.kernel.Node.{Node}
use Rattle.cg_model.specs.declared.kernel.OrderEdge.{OrderEdge}
use Rattle.cg_model.specs.Kernel.{Kernel}
use Rattle.cg_model.specs.Order.{Chain, Links, by_data, by_order, more, one}
use Rattle.cg_depend.specs.Depend.{Within}
use Rattle.cg_depend.proofs.Members.{In, in_append_cases, in_append_left, in_flat_map, in_left, in_range, in_right}
use Rattle.cg_c_order.specs.Accesses.{Access, AreAccesses, AreOrdered, Chosen, IsExceeded, IsOrderedBy, NeedsMore, access_of, all_back, all_forth, back_at, back_to, both_conflict, by_node, conflict, conflict_at, edge, forth_at, forth_from, gaps, kernel_with, led, none, taken, wanted}
use Rattle.cg_c_order.specs.Choosing.{Exceeds, Takes}
use Rattle.cg_c_order.proofs.Choices.{exceeds_part, exceeds_then, takes_then}

-- ---- the table of accesses

pub by_node_more : (n : ℕ) (accesses : List Access) → by_node (n + 1) accesses ≡ by_node n accesses ++ access_of accesses n ∷ []
by_node_more n accesses = map-range_with_len_more (access_of accesses) 0 n n (zero-add n)

pub by_node_long : (n : ℕ) (accesses : List Access) → length (by_node n accesses) ≡ n
by_node_long n accesses = length-map-range_with_len (access_of accesses) 0 n

find_in : (p : Access → Bool) (xs : List Access) (i : ℕ) (a : Access) → slice_get xs i ≡ Some a → p a ≡ true → ((j : ℕ) (b : Access) → j < i → slice_get xs j ≡ Some b → p b ≡ false) → find p xs ≡ Some a
find_in p [] i a e t before = absurd (cc)
find_in p (x ∷ xs) zero a e t before = let s : x ≡ a = cc in rw (s, t) refl
find_in p (x ∷ xs) (suc i) a e t before =
    let f : p x ≡ false = before 0 x (omega arith) refl in
    rw f (find_in p xs i a e t (λ j b l. before (suc j) b (omega arith)))

at_place : (accesses : List Access) (a : Access) → (h : Contains accesses a) → slice_get accesses h.0 ≡ Some a
at_place accesses a h = slice_get-get_or accesses h.0 a h.1 ∙ ap Some h.2

access_at : (n : ℕ) (accesses : List Access) → AreAccesses n accesses → (a : Access) → Contains accesses a → slice_index_or (by_node n accesses) a.node None ≡ Some a
access_at n accesses are a h =
    get_or-map-range_with_len (access_of accesses) 0 n a.node a.node None (are.below a h) (zero-add a.node)
    ∙ find_in (λ x. eqb x.node a.node) accesses h.0 a (at_place accesses a h) (eq-eqb a.node a.node refl)
    (λ j b l e. ne_eqb b.node a.node (λ same. let less : b.node < a.node = are.rising j h.0 b a l e (at_place accesses a h) in omega arith))

conflict_in : (n : ℕ) (accesses : List Access) → AreAccesses n accesses → (a b : Access) → Contains accesses a → Contains accesses b → conflict a b ≡ true → conflict_at (by_node n accesses) a.node b.node ≡ true
conflict_in n accesses are a b ha hb c =
    ap (λ (x : Option Access). both_conflict x (slice_index_or (by_node n accesses) b.node None)) (access_at n accesses are a ha)
    ∙ ap (λ (x : Option Access). both_conflict (Some a) x) (access_at n accesses are b hb)
    ∙ c

-- ---- wanted edges

in_reverse : (xs : List ℕ) (k x : ℕ) → slice_get xs k ≡ Some x → In (reverse xs) x
in_reverse [] k x e = absurd (cc)
in_reverse (y ∷ xs) zero x e = subst (λ zs. In zs x) (sym (reverse-append (y ∷ []) xs)) (in_right (reverse xs) (y ∷ []) x (0, e))
in_reverse (y ∷ xs) (suc k) x e = subst (λ zs. In zs x) (sym (reverse-append (y ∷ []) xs)) (in_left (reverse xs) (y ∷ []) x (in_reverse xs k x e))

-- nodes u and u + gap of a table, in conflict
module _ (table : List (Option Access)) (u gap : ℕ) (lg : 0 < gap) (l : u + gap < length table) (c : conflict_at table u (u + gap) ≡ true) where
  node_at : slice_get (range_with_len 0 (length table - gap)) u ≡ Some u
  node_at = in_range 0 (length table - gap) u (omega arith) ∙ ap Some (zero-add u)

  gap_at : slice_get (gaps (length table)) (gap - 1) ≡ Some gap
  gap_at = let e : 1 + (gap - 1) ≡ gap = omega arith in in_range 1 (length table - 1) (gap - 1) (omega arith) ∙ ap Some e

  forth_in : In (all_forth table) (edge u (u + gap) 0)
  unfolding all_forth forth_at
  forth_in =
      in_flat_map (forth_at table) (gaps (length table)) (gap - 1) gap (edge u (u + gap) 0) gap_at
      (in_flat_map (forth_from table gap) (range_with_len 0 (length table - gap)) u u (edge u (u + gap) 0) node_at
      (subst (λ xs. In xs (edge u (u + gap) 0)) (sym (cond-true (conflict_at table u (u + gap)) (edge u (u + gap) 0 ∷ []) [] c)) (0, refl)))

  back_in : In (all_back table) (edge (u + gap) u 1)
  unfolding all_back back_at
  back_in =
      let g = in_reverse (gaps (length table)) (gap - 1) gap gap_at in
      in_flat_map (back_at table) (reverse (gaps (length table))) g.0 gap (edge (u + gap) u 1) g.1
      (in_flat_map (back_to table gap) (range_with_len 0 (length table - gap)) u u (edge (u + gap) u 1) node_at
      (subst (λ xs. In xs (edge (u + gap) u 1)) (sym (cond-true (conflict_at table u (u + gap)) (edge (u + gap) u 1 ∷ []) [] c)) (0, refl)))

-- ---- chains by the edges that are taken

link_more : (nodes : List Node) (es : List OrderEdge) (w : OrderEdge) (u v d : ℕ) → Links (kernel_with nodes es) u v d → Links (kernel_with nodes (es ++ w ∷ [])) u v d
link_more nodes es w u v d (by_data p init l h) = by_data p init l h
link_more nodes es w u v d (by_order e h) = by_order e (in_append_left es (w ∷ []) e (edge u v d) h)

chain_more : (nodes : List Node) (es : List OrderEdge) (w : OrderEdge) (u v d : ℕ) → Chain (kernel_with nodes es) u v d → Chain (kernel_with nodes (es ++ w ∷ [])) u v d
chain_more nodes es w u v d (one l) = one (link_more nodes es w u v d l)
chain_more nodes es w u x z (more {v = v} {d = d} {e = e} l c) = more (link_more nodes es w u v d l) (chain_more nodes es w v x e c)

-- the edge that is w
abbrev IsWithin : Kernel → OrderEdge → Type 0
IsWithin K w = Within K w.from w.to w.distance

chosen_last : (K : Kernel) (w x : OrderEdge) (k : ℕ) → IsWithin K w → slice_get (w ∷ []) k ≡ Some x → IsWithin K x
chosen_last K w x zero within e = let s : w ≡ x = cc in subst (IsWithin K) s within
chosen_last K w x (suc k) within e = absurd (cc)

chosen_within : (nodes : List Node) (ws es : List OrderEdge) → Chosen nodes ws es → (x : OrderEdge) → In ws x → IsWithin (kernel_with nodes es) x
chosen_within nodes ws es none x h = absurd (let e = h.1 in cc)
chosen_within nodes vs es (led {ws = ws} w c within) x h =
    ⊎_elim {C = IsWithin (kernel_with nodes es) x}
    (λ i. chosen_within nodes ws es c x i)
    (λ i. chosen_last (kernel_with nodes es) w x i.0 within i.1)
    (in_append_cases ws (w ∷ []) h.0 x h.1)
chosen_within nodes vs fs (taken {ws = ws} {es = es} w c apart) x h =
    let K = kernel_with nodes (es ++ w ∷ []) in
    ⊎_elim {C = IsWithin K x}
    (λ i. let before = chosen_within nodes ws es c x i in (before.0, chain_more nodes es w x.from x.to before.0 before.1, before.2))
    (λ i. let last = in_right es (w ∷ []) w (0, refl) in chosen_last K w x i.0 (w.distance, one (by_order last.0 last.1), omega arith) i.1)
    (in_append_cases ws (w ∷ []) h.0 x h.1)

-- ---- the kernel

pub are_ordered : (nodes : List Node) (accesses : List Access) (K : Kernel) → AreAccesses (length nodes) accesses → IsOrderedBy nodes accesses K → AreOrdered accesses K
are_ordered nodes accesses K are by =
    let n = length nodes in
    let table = by_node n accesses in
    let long = by_node_long n accesses in
    let same : kernel_with nodes K.order ≡ K = ap (λ (z : List Node). kernel_with z K.order) (sym by.same) in
    record {
      forth = λ a b ha hb c l.
          let gap = b.node - a.node in
          let e : a.node + gap ≡ b.node = omega arith in
          let below : b.node < n = are.below b hb in
          let c' = subst (λ v. conflict_at table a.node v ≡ true) (sym e) (conflict_in n accesses are a b ha hb c) in
          let i = forth_in table a.node gap (omega arith) (omega arith) c' in
          let w = chosen_within nodes (wanted n accesses) K.order by.chosen (edge a.node (a.node + gap) 0) (in_left (all_forth table) (all_back table) (edge a.node (a.node + gap) 0) i) in
          subst (λ (L : Kernel). Within L a.node b.node 0) same (subst (λ v. Within (kernel_with nodes K.order) a.node v 0) e w);
      back = λ a b ha hb c l.
          let gap = b.node - a.node in
          let e : a.node + gap ≡ b.node = omega arith in
          let below : b.node < n = are.below b hb in
          let c' = subst (λ v. conflict_at table a.node v ≡ true) (sym e) (conflict_in n accesses are a b ha hb c) in
          let i = back_in table a.node gap (omega arith) (omega arith) c' in
          let w = chosen_within nodes (wanted n accesses) K.order by.chosen (edge (a.node + gap) a.node 1) (in_right (all_forth table) (all_back table) (edge (a.node + gap) a.node 1) i) in
          subst (λ (L : Kernel). Within L b.node a.node 1) same (subst (λ v. Within (kernel_with nodes K.order) v a.node 1) e w);
    }

-- from the passes
module _ (nodes : List Node) (accesses : List Access) (table : List (Option Access)) (is : table ≡ by_node (length nodes) accesses) (L : Kernel) where
  pub ordered_by : (M : Kernel) → Takes (kernel_with nodes []) (all_forth table) L → Takes L (all_back table) M → IsOrderedBy nodes accesses M
  ordered_by M s t =
      let both = takes_then (kernel_with nodes []) L M (all_forth table) (all_back table) s t in
      record { same = both.same; chosen = subst (λ z. Chosen nodes (all_forth z ++ all_back z) M.order) is (both.chosen [] none) }

  pub exceeds_forth : Exceeds (kernel_with nodes []) (all_forth table) → NeedsMore nodes accesses
  exceeds_forth x = subst (λ z. IsExceeded nodes (all_forth z ++ all_back z)) is (exceeds_part (kernel_with nodes []) (all_forth table) (all_back table) x [] none)

  pub exceeds_back : Takes (kernel_with nodes []) (all_forth table) L → Exceeds L (all_back table) → NeedsMore nodes accesses
  exceeds_back s x = subst (λ z. IsExceeded nodes (all_forth z ++ all_back z)) is (exceeds_then (kernel_with nodes []) L (all_forth table) (all_back table) s x [] none)

-- ---- as the code has them: the table is lent twice, and the kernels are handed on

pub lent_table : (len n : ℕ) (accesses : List Access) (items lent : List (Option Access)) → len ≡ n → items ≡ by_node len accesses → lent ≡ items → lent ≡ by_node n accesses
lent_table len n accesses items lent en ei el = el ∙ ei ∙ ap (λ k. by_node k accesses) en

pub lent_long : (n : ℕ) (accesses : List Access) (lent : List (Option Access)) → lent ≡ by_node n accesses → length lent ≡ n
lent_long n accesses lent e = ap (λ (z : List (Option Access)). length z) e ∙ by_node_long n accesses

module _ (nodes : List Node) (accesses : List Access) (first second : List (Option Access)) (is : first ≡ by_node (length nodes) accesses) (is_too : second ≡ by_node (length nodes) accesses) (J L M : Kernel)
    (start : J ≡ kernel_with nodes []) (forth : Takes J (all_forth first) L) where
  began : Takes (kernel_with nodes []) (all_forth second) L
  began = subst (λ z. Takes (kernel_with nodes []) (all_forth z) L) (is ∙ sym is_too) (subst (λ (z : Kernel). Takes z (all_forth first) L) start forth)

  pub lent_ordered : (N : Kernel) → M ≡ L → Takes M (all_back second) N → (K : Kernel) → K ≡ N → IsOrderedBy nodes accesses K
  lent_ordered N hand t K e = subst (IsOrderedBy nodes accesses) (sym e) (ordered_by nodes accesses second is_too L N began (subst (λ (z : Kernel). Takes z (all_back second) N) hand t))

  pub lent_exceeds : M ≡ L → Exceeds M (all_back second) → NeedsMore nodes accesses
  lent_exceeds hand x = exceeds_back nodes accesses second is_too L began (subst (λ (z : Kernel). Exceeds z (all_back second)) hand x)

  pub lent_few : L.nodes ≡ nodes
  lent_few = began.same
