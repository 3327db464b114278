-- The order edges of a loop's kernel make every run unaliased.
use Rattle.std.proofs.Common.{◌≡◌, ℕ, zero, suc, ◌+◌, ◌<◌, ◌≤◌, List, [], ◌∷◌, Some, Bool, true, length, refl, sym, ap, ◌∙◌, subst, arith, ⊎_elim, inl, inr}
use Rattle.std.specs.Prelude.{◌⊎◌, ◌||◌, bytes_eq, slice_get, filter}
use Rattle.std.specs.List.{flat_map}
use Rattle.std.proofs.lemmas.Bool.{cases_Bool, cond-true, cond-false, or_left, or_right}
use Rattle.cg_word.specs.Word.{is_store}
use Rattle.cg_model.specs.Limits.{most_order_distance, most_order_edges}
use Rattle.cg_model.specs.Work.{Image, Reaches}
use Rattle.cg_model.specs.declared.kernel.OrderEdge.{OrderEdge}
use Rattle.cg_model.specs.Kernel.{Kernel, IsOrder, node, size}
use Rattle.cg_model.specs.Turns.{work_of, val}
use Rattle.cg_model.specs.Order.{by_order, one, IsUnaliased}
use Rattle.cg_overlap.proofs.Unaliased.{AreOrdered, unaliased_from}
use Rattle.cg_loop_syntax.specs.declared.body.Decl.{Decl}
use Rattle.cg_loop_syntax.specs.declared.body.Decl.TheVariants.{Array, Carry}
use Rattle.cg_loop_syntax.specs.Loop.{Body, extent}
use Rattle.cg_loop_laws.specs.Laws.{IsInside}
use Rattle.cg_loop_laws.specs.Translate.{Access, accesses, pair_edges, edges_among, decl_edges, first_env, body_code, body_cost, loop_kernel_of}
use Rattle.cg_loop_laws.proofs.Sound.{IsBody}
use Rattle.cg_loop_laws.proofs.Texts.{text_same, same_text}
use Rattle.cg_loop_laws.proofs.Members.{In, in_left, in_right, in_flat_map, in_filter, in_append_cases, in_flat_map_from}
use Rattle.cg_loop_laws.proofs.Stands.{stands_from}
use Rattle.cg_loop_laws.proofs.Wired.{wired, size-loop_kernel}
use Rattle.cg_loop_laws.proofs.Accesses.{IsRising, rising_ends, rising_more, rising_within, accesses_rising, body_tracked}

-- one stands before the other
abbrev IsBefore : List Access → Access → Access → Type 0
IsBefore [] u v = ⊥
IsBefore (z ∷ us) u v = ((z ≡ u) × In us v) ⊎ IsBefore us u v

before_from : (lo hi : ℕ) (us : List Access) (j k : ℕ) (u v : Access) → IsRising lo us hi → slice_get us j ≡ Some u → slice_get us k ≡ Some v → u.node < v.node → IsBefore us u v
before_from lo hi [] j k u v r a b l = absurd (cc)
before_from lo hi (z ∷ us) zero zero u v r a b l = absurd (let e : u ≡ v = cc in let n = ap (λ y. y.node) e in omega arith)
before_from lo hi (z ∷ us) zero (suc k) u v r a b l = inl (let e : z ≡ u = cc in e, (k, b))
before_from lo hi (z ∷ us) (suc j) zero u v r a b l =
    absurd (let e : z ≡ v = cc in let n = ap (λ y. y.node) e in let m = rising_within (z.node + 1) hi us j u r.1 a in omega arith)
before_from lo hi (z ∷ us) (suc j) (suc k) u v r a b l = inr (before_from (z.node + 1) hi us j k u v r.1 a b l)

before_filter : (f : Access → Bool) (us : List Access) (u v : Access) → f u ≡ true → f v ≡ true → IsBefore us u v → IsBefore (filter f us) u v
before_filter f [] u v a b h = absurd h
before_filter f (z ∷ us) u v a b (inl h) =
    subst (λ xs. IsBefore xs u v) (sym (cond-true (f z) (z ∷ filter f us) (filter f us) (ap f h.0 ∙ a))) (inl (h.0, in_filter f us h.1.0 v h.1.1 b))
before_filter f (z ∷ us) u v a b (inr h) =
    ⊎_elim (λ t. subst (λ xs. IsBefore xs u v) (sym (cond-true (f z) (z ∷ filter f us) (filter f us) t)) (inr (before_filter f us u v a b h)))
    (λ t. subst (λ xs. IsBefore xs u v) (sym (cond-false (f z) (z ∷ filter f us) (filter f us) t)) (before_filter f us u v a b h)) (cases_Bool (f z))

pairs_in : (us : List Access) (u v : Access) (e : OrderEdge) → IsBefore us u v → In (pair_edges u v) e → In (edges_among us) e
pairs_in [] u v e h k = absurd h
pairs_in (z ∷ us) u v e (inl h) k = in_left (flat_map (pair_edges z) us) (edges_among us) e (in_flat_map (pair_edges z) us h.1.0 v e h.1.1 (subst (λ y. In (pair_edges y v) e) (sym h.0) k))
pairs_in (z ∷ us) u v e (inr h) k = in_right (flat_map (pair_edges z) us) (edges_among us) e (pairs_in us u v e h k)

-- an array that has a word is declared
declared : (ds : List Decl) (a : List ℕ) (x : ℕ) → IsInside (extent ds a) x → (k at len : ℕ) × (slice_get ds k ≡ Some (Array a at len))
declared [] a x h = absurd (let l = h.1 in omega arith)
declared (Array y at len ∷ ds) a x h =
    ⊎_elim (λ t. (0, at, len, let e : a ≡ y = same_text a y t in rw e refl))
    (λ t. let r = declared ds a x (subst (λ z. IsInside z x) (cond-false (bytes_eq a y) (record { at = at; len = len }) (extent ds a) t) h) in (suc r.0, r.1, r.2, r.3))
    (cases_Bool (bytes_eq a y))
declared (Carry y w ∷ ds) a x h = let r = declared ds a x h in (suc r.0, r.1, r.2, r.3)

module _ (P : Body) (image : Image) (good : IsBody P) where
  abbrev K : Kernel
  K = loop_kernel_of P

  abbrev us : List Access
  us = accesses 0 P.stmts

  -- an accessing node that reaches word x, as an access of an array that has the word
  pub record IsFound (w x : ℕ) : Type 0 where
    pub array : List ℕ
    pub inside : IsInside (extent P.decls array) x
    pub listed : In us (record { node = w; array = array; writes = is_store (node K w).op })

  found : (w i x : ℕ) → w < size K → Reaches (work_of (node K w) i (val K image)) x → IsFound w x
  found w i x l r =
      let t = body_tracked K image (wired P good) (extent P.decls) good.low (first_env P) 0 w P.stmts good.stmts (stands_from K [] (body_code (extent P.decls) (first_env P) 0 P.stmts) refl) (omega arith) (omega (arith, size-loop_kernel P)) in
      let e = t.entry r.is in
      record { array = e.0; inside = e.2 i x r; listed = e.1 }

  -- the edges between two accesses of one array, one of them a store
  edge_in : (x : ℕ) (a : List ℕ) (u v : Access) (e : OrderEdge) → IsInside (extent P.decls a) x → In us u → In us v → u.array ≡ a → v.array ≡ a → u.node < v.node → In (pair_edges u v) e → In K.order e
  edge_in x a u v e h lu lv au av l m =
      let (k, at, len, d) = declared P.decls a x h in
      let b = before_from 0 (0 + body_cost P.stmts) us lu.0 lv.0 u v (accesses_rising 0 P.stmts) lu.1 lv.1 l in
      in_flat_map (decl_edges us) P.decls k (Array a at len) e d
      (pairs_in (filter (λ y. bytes_eq y.array a) us) u v e (before_filter (λ y. bytes_eq y.array a) us u v (text_same u.array a au) (text_same v.array a av) b) m)

  pair_in : (u v : Access) (e : OrderEdge) → (u.writes || v.writes) ≡ true → In (record { from = u.node; to = v.node; distance = 0 } ∷ record { from = v.node; to = u.node; distance = 1 } ∷ []) e → In (pair_edges u v) e
  pair_in u v e t h = subst (λ xs. In xs e) (sym (cond-true (u.writes || v.writes) _ [] t)) h

  abbrev access : ℕ → List ℕ → Access
  access w a = record { node = w; array = a; writes = is_store (node K w).op }

  ordered : (n : ℕ) → AreOrdered K n image
  ordered n x u i v j lu lv lj ru rv st =
      let fu = found u i x lu ru in
      let fv = found v j x lv rv in
      let same = good.apart fu.array fv.array x fu.inside fv.inside in
      let uv : (is_store (node K u).op || is_store (node K v).op) ≡ true = ⊎_elim (λ s. or_left (is_store (node K u).op) (is_store (node K v).op) s) (λ s. or_right (is_store (node K u).op) (is_store (node K v).op) s) st in
      let vu : (is_store (node K v).op || is_store (node K u).op) ≡ true = ⊎_elim (λ s. or_right (is_store (node K v).op) (is_store (node K u).op) s) (λ s. or_left (is_store (node K v).op) (is_store (node K u).op) s) st in (
        λ less le.
            let e =
            edge_in x fu.array (access u fu.array) (access v fv.array) (record { from = u; to = v; distance = 0 }) fu.inside fu.listed fv.listed refl (sym same) less
            (pair_in (access u fu.array) (access v fv.array) (record { from = u; to = v; distance = 0 }) uv (0, refl)) in
            inr (0, one (by_order e.0 e.1), omega arith),
        λ less lt.
            let e =
            edge_in x fv.array (access v fv.array) (access u fu.array) (record { from = u; to = v; distance = 1 }) fv.inside fv.listed fu.listed refl same less
            (pair_in (access v fv.array) (access u fu.array) (record { from = u; to = v; distance = 1 }) vu (1, refl)) in
            inr (1, one (by_order e.0 e.1), omega arith),
      )

pub unaliased : (P : Body) (n : ℕ) (image : Image) → IsBody P → IsUnaliased (loop_kernel_of P) n image
unaliased P n image good = unaliased_from (loop_kernel_of P) n image (wired P good) (ordered P image good n)

-- a filtered list rises
rising_filter : (f : Access → Bool) (lo hi : ℕ) (us : List Access) → IsRising lo us hi → IsRising lo (filter f us) hi
rising_filter f lo hi [] h = h
rising_filter f lo hi (u ∷ us) h =
    ⊎_elim (λ t. subst (λ xs. IsRising lo xs hi) (sym (cond-true (f u) (u ∷ filter f us) (filter f us) t)) (h.0, rising_filter f (u.node + 1) hi us h.1))
    (λ t. subst (λ xs. IsRising lo xs hi) (sym (cond-false (f u) (u ∷ filter f us) (filter f us) t)) (rising_more lo (u.node + 1) hi hi (filter f us) (let l = h.0 in omega arith) (omega arith) (rising_filter f (u.node + 1) hi us h.1)))
    (cases_Bool (f u))

rising_below : (lo hi : ℕ) (us : List Access) (k : ℕ) (u : Access) → IsRising lo us hi → slice_get us k ≡ Some u → u.node < hi
rising_below lo hi [] k u h e = absurd (cc)
rising_below lo hi (z ∷ us) zero u h e = let w : z ≡ u = cc in let n = ap (λ y. y.node) w in let l = rising_ends (z.node + 1) hi us h.1 in omega arith
rising_below lo hi (z ∷ us) (suc k) u h e = rising_below (z.node + 1) hi us k u h.1 e

-- an order edge that a kernel of m nodes may have
pub record IsEdge (m : ℕ) (e : OrderEdge) : Type 0 where
  pub from : e.from < m
  pub to : e.to < m
  pub near : e.distance ≤ most_order_distance
  pub forward : e.distance ≡ 0 → e.from < e.to

one_pair : (m : ℕ) (u v : Access) (k : ℕ) (e : OrderEdge) → u.node < v.node → v.node < m → slice_get (record { from = u.node; to = v.node; distance = 0 } ∷ record { from = v.node; to = u.node; distance = 1 } ∷ []) k ≡ Some e → IsEdge m e
one_pair m u v zero e l b h = let z : record { from = u.node; to = v.node; distance = 0 } ≡ e = cc in subst (IsEdge m) z record { from = omega arith; to = b; near = omega arith; forward = λ y. l }
one_pair m u v (suc zero) e l b h = let z : record { from = v.node; to = u.node; distance = 1 } ≡ e = cc in subst (IsEdge m) z record { from = b; to = omega arith; near = omega arith; forward = λ y. absurd (omega arith) }
one_pair m u v (suc (suc k)) e l b h = absurd (cc)

pair_edge : (m : ℕ) (u v : Access) (e : OrderEdge) → u.node < v.node → v.node < m → In (pair_edges u v) e → IsEdge m e
pair_edge m u v e l b h =
    ⊎_elim (λ t. let r = subst (λ xs. In xs e) (cond-true (u.writes || v.writes) _ [] t) h in one_pair m u v r.0 e l b r.1)
    (λ t. let r = subst (λ xs. In xs e) (cond-false (u.writes || v.writes) _ [] t) h in let y = r.1 in absurd (cc)) (cases_Bool (u.writes || v.writes))

among_edge : (lo m : ℕ) (us : List Access) (e : OrderEdge) → IsRising lo us m → In (edges_among us) e → IsEdge m e
among_edge lo m [] e h i = let y = i.1 in absurd (cc)
among_edge lo m (u ∷ us) e h i =
    ⊎_elim
    (λ j.
    let (v, iv, he) = in_flat_map_from (pair_edges u) us e j in
    pair_edge m u v e (let l = rising_within (u.node + 1) m us iv.0 v h.1 iv.1 in omega arith) (rising_below (u.node + 1) m us iv.0 v h.1 iv.1) he)
    (λ j. among_edge (u.node + 1) m us e h.1 j)
    (in_append_cases (flat_map (pair_edges u) us) (edges_among us) i.0 e i.1)

decl_edge : (m : ℕ) (us : List Access) (d : Decl) (e : OrderEdge) → IsRising 0 us m → In (decl_edges us d) e → IsEdge m e
decl_edge m us (Array x at len) e h i = among_edge 0 m (filter (λ u. bytes_eq u.array x) us) e (rising_filter (λ u. bytes_eq u.array x) 0 m us h) i
decl_edge m us (Carry x w) e h i = let y = i.1 in absurd (cc)

edge_valid : (P : Body) (k : ℕ) (e : OrderEdge) → slice_get (loop_kernel_of P).order k ≡ Some e → IsEdge (size (loop_kernel_of P)) e
edge_valid P k e h =
    let (d, id, he) = in_flat_map_from (decl_edges (accesses 0 P.stmts)) P.decls e (k, h) in
    decl_edge (size (loop_kernel_of P)) (accesses 0 P.stmts) d e (subst (IsRising 0 (accesses 0 P.stmts)) (let z : 0 + body_cost P.stmts ≡ size (loop_kernel_of P) = omega (arith, size-loop_kernel P) in z) (accesses_rising 0 P.stmts)) he

pub order_valid : (P : Body) → length (loop_kernel_of P).order ≤ most_order_edges → IsOrder (loop_kernel_of P)
order_valid P few =
    record {
      few = few;
      known = λ k u v d h. let e = edge_valid P k _ h in (e.from, e.to);
      forward = λ k u v h. let e = edge_valid P k _ h in e.forward refl;
      near = λ k u v d h. let e = edge_valid P k _ h in e.near;
    }
