-- The edges so far.
use Rattle.std.proofs.Common.{◌≡◌, ℕ, zero, suc, ◌+◌, ◌<◌, ◌≤◌, List, [], ◌∷◌, ◌++◌, length, get_or, Option, Some, None, refl, sym, ap, ◌∙◌, subst, arith, inl, inr, ⊎_elim}
use Rattle.std.specs.Prelude.{◌⊎◌, slice_get}
use Rattle.std.proofs.lemmas.Bool.{cases_lt}
use Rattle.std.proofs.lemmas.List.{get_or_past, get_or_read_under, length_push}
use Rattle.std.proofs.lemmas.Option.{slice_get_within, slice_get_past}
use Rattle.cg_model.specs.declared.kernel.Node.{Node}
use Rattle.cg_model.specs.declared.kernel.Operand.{Operand}
use Rattle.cg_model.specs.declared.kernel.OrderEdge.{OrderEdge}
use Rattle.cg_model.specs.Kernel.{Kernel, node, no_node, size}
use Rattle.cg_model.specs.Array.{Arch}
use Rattle.cg_recur.specs.Edges.{Edge, EdgeId, Arg, Order, of_operand, of_order, edge_of, ComesBefore, AreEdges}
use Rattle.cg_recur.specs.Listed.{AreSoFar, IsBefore, IsAdded}

-- what stands at a place of a longer list
get_push : {X : Type 0} (xs : List X) (y z : X) (k : ℕ) → slice_get (xs ++ y ∷ []) k ≡ Some z → (slice_get xs k ≡ Some z) ⊎ ((k ≡ length xs) × (y ≡ z))
get_push [] y z zero h = inr (refl, cc)
get_push [] y z (suc k) h = absurd (cc)
get_push (x ∷ xs) y z zero h = inl h
get_push (x ∷ xs) y z (suc k) h = ⊎_elim (λ a. inl a) (λ (a, b). inr (omega arith, b)) (get_push xs y z k h)

get_kept : {X : Type 0} (xs : List X) (y z : X) (k : ℕ) → slice_get xs k ≡ Some z → slice_get (xs ++ y ∷ []) k ≡ Some z
get_kept [] y z k h = absurd (cc)
get_kept (x ∷ xs) y z zero h = h
get_kept (x ∷ xs) y z (suc k) h = get_kept xs y z k h

get_last : {X : Type 0} (xs : List X) (y : X) → slice_get (xs ++ y ∷ []) (length xs) ≡ Some y
get_last [] y = refl
get_last (x ∷ xs) y = get_last xs y

-- the counts that the code reads
pub operands_count : (K : Kernel) (N : Node) (nodes : List Node) (operands : List Operand) (v : ℕ) → nodes ≡ K.nodes → v < size K → N ≡ get_or nodes v N → operands ≡ (get_or nodes v N).operands → length operands ≡ length (node K v).operands
operands_count K N nodes operands v en l is eo =
    let node_is : N ≡ node K v = get_or_read_under K.nodes v (size K) N no_node (subst (λ (xs : List Node). N ≡ get_or xs v N) en is) l refl in
    ap (λ (xs : List Operand). length xs) (eo ∙ ap (λ (z : Node). z.operands) (sym is ∙ node_is))

pub order_count : (K : Kernel) (order : List OrderEdge) → order ≡ K.order → length order ≡ length K.order
order_count K order e = ap (λ (xs : List OrderEdge). length xs) e

-- x comes after the names before (v, p, j), and is the one more that stands before (w, q, i)
record IsNext (v p j w q i : ℕ) (x : EdgeId) : Type 0 where
  stays : (y : EdgeId) → IsBefore v p j y → IsBefore w q i y
  new : IsBefore w q i x
  later : (y : EdgeId) → IsBefore v p j y → ComesBefore y x

module _ (A : Arch) (K : Kernel) where
  so_far_more : (v p j w q i : ℕ) (names names' : List EdgeId) (edges edges' : List Edge) (x : EdgeId) (e : Edge) → AreSoFar A K v p j names edges → edge_of A K x ≡ Some e →
      ((y : EdgeId) → IsBefore w q i y → IsBefore v p j y ⊎ (x ≡ y)) → IsNext v p j w q i x → names' ≡ names ++ x ∷ [] → edges' ≡ edges ++ e ∷ [] → AreSoFar A K w q i names' edges'
  so_far_more v p j w q i names names' edges edges' x e s is before next en ee =
      subst (λ z. AreSoFar A K w q i z edges') (sym en) (subst (λ z. AreSoFar A K w q i (names ++ x ∷ []) z) (sym ee)
      (record {
        each = let a = length_push names x in let b = length_push edges e in let c = s.each in omega arith;
        right = λ k y f hy hf.
            ⊎_elim
            (λ a. ⊎_elim (λ b. s.right k y f a b) (λ (b, c). absurd (let m = slice_get_within names k y a in let d = s.each in omega arith)) (get_push edges e f k hf))
            (λ (a, b). ⊎_elim (λ c. absurd (let m = slice_get_within edges k f c in let d = s.each in omega arith)) (λ (c, d). ap (edge_of A K) (sym b) ∙ is ∙ ap (λ z. Some z) d) (get_push edges e f k hf))
            (get_push names x y k hy);
        whole = λ y f b h. ⊎_elim (λ c. let (k, m) = s.whole y f c h in (k, get_kept names x y k m)) (λ c. (length names, get_last names x ∙ ap (λ z. Some z) c)) (before y b);
        within = λ k y hy. ⊎_elim (λ a. next.stays y (s.within k y a)) (λ (a, b). subst (IsBefore w q i) b next.new) (get_push names x y k hy);
        rising = λ k l y z below hy hz.
            ⊎_elim
            (λ a. ⊎_elim (λ b. s.rising k l y z below a b) (λ (b, c). subst (ComesBefore y) c (next.later y (s.within k y a))) (get_push names x z l hz))
            (λ (a, b). absurd (let m = slice_get_within (names ++ x ∷ []) l z hz in let n = length_push names x in omega arith))
            (get_push names x y k hy);
      }))

  so_far_same : (v p j w q i : ℕ) (names : List EdgeId) (edges : List Edge) → AreSoFar A K v p j names edges → ((y : EdgeId) (e : Edge) → IsBefore w q i y → edge_of A K y ≡ Some e → IsBefore v p j y) → ((y : EdgeId) → IsBefore v p j y → IsBefore w q i y) → AreSoFar A K w q i names edges
  so_far_same v p j w q i names edges s h stays =
      record { each = s.each; right = s.right; whole = λ x e b is. s.whole x e (h x e b is) is; within = λ k x at. stays x (s.within k x at); rising = s.rising }

  -- after a name more, whether it names an edge or none
  so_far_added : (v p j w q i : ℕ) (names names' : List EdgeId) (edges edges' : List Edge) (x : EdgeId) (o : Option Edge) → AreSoFar A K v p j names edges → edge_of A K x ≡ o →
      ((y : EdgeId) → IsBefore w q i y → IsBefore v p j y ⊎ (x ≡ y)) → IsNext v p j w q i x → IsAdded o x names edges names' edges' → AreSoFar A K w q i names' edges'
  so_far_added v p j w q i names names' edges edges' x (Some e) s is before next (en, ee) = so_far_more v p j w q i names names' edges edges' x e s is before next en ee
  so_far_added v p j w q i names names' edges edges' x None s is before next (en, ee) =
      subst (λ z. AreSoFar A K w q i z edges') (sym en) (subst (λ z. AreSoFar A K w q i names z) (sym ee)
      (so_far_same v p j w q i names edges s (λ y e b h. ⊎_elim (λ c. c) (λ c. absurd (let d : None ≡ Some e = sym is ∙ ap (edge_of A K) c ∙ h in cc)) (before y b)) next.stays))

  next_arg : (v p : ℕ) (y : EdgeId) → IsBefore v (p + 1) 0 y → IsBefore v p 0 y ⊎ (Arg v p ≡ y)
  next_arg v p (Order e) b = absurd (omega arith)
  next_arg v p (Arg w q) b =
      ⊎_elim (λ l. inl (inl l))
      (λ (a, l). ⊎_elim (λ m. inl (inr (a, m))) (λ m. let s : p ≡ q = omega arith in inr (ap (λ z. Arg z p) (sym a) ∙ ap (λ z. Arg w z) s)) (cases_lt q p))
      b

  arg_next : (v p : ℕ) → IsNext v p 0 v (p + 1) 0 (Arg v p)
  arg_next v p = record { stays = stays; new = inr (refl, omega arith); later = later }
    where
      stays : (y : EdgeId) → IsBefore v p 0 y → IsBefore v (p + 1) 0 y
      stays (Arg w q) b = ⊎_elim (λ l. inl l) (λ (a, l). inr (a, omega arith)) b
      stays (Order k) b = b

      later : (y : EdgeId) → IsBefore v p 0 y → ComesBefore y (Arg v p)
      later (Arg w q) b = b
      later (Order k) b = absurd (omega arith)

  number_next : (v j : ℕ) → IsNext v 0 j v 0 (j + 1) (Order j)
  number_next v j = record { stays = stays; new = omega arith; later = later }
    where
      stays : (y : EdgeId) → IsBefore v 0 j y → IsBefore v 0 (j + 1) y
      stays (Arg w q) b = b
      stays (Order k) b = omega arith

      later : (y : EdgeId) → IsBefore v 0 j y → ComesBefore y (Order j)
      later (Arg w q) b = tt
      later (Order k) b = b

  next_number : (v j : ℕ) (y : EdgeId) → IsBefore v 0 (j + 1) y → IsBefore v 0 j y ⊎ (Order j ≡ y)
  next_number v j (Arg w q) b = inl b
  next_number v j (Order k) b = ⊎_elim (λ m. inl m) (λ m. let s : j ≡ k = omega arith in inr (ap (λ z. Order z) s)) (cases_lt k j)

  pub arg_added : (v p : ℕ) (names names' : List EdgeId) (edges edges' : List Edge) → AreSoFar A K v p 0 names edges → IsAdded (edge_of A K (Arg v p)) (Arg v p) names edges names' edges' → AreSoFar A K v (p + 1) 0 names' edges'
  arg_added v p names names' edges edges' s added = so_far_added v p 0 v (p + 1) 0 names names' edges edges' (Arg v p) (edge_of A K (Arg v p)) s refl (next_arg v p) (arg_next v p) added

  pub order_added : (v j : ℕ) (names names' : List EdgeId) (edges edges' : List Edge) → AreSoFar A K v 0 j names edges → IsAdded (edge_of A K (Order j)) (Order j) names edges names' edges' → AreSoFar A K v 0 (j + 1) names' edges'
  order_added v j names names' edges edges' s added = so_far_added v 0 j v 0 (j + 1) names names' edges edges' (Order j) (edge_of A K (Order j)) s refl (next_number v j) (number_next v j) added

  pub none_so_far : AreSoFar A K 0 0 0 [] []
  none_so_far = record { each = refl; right = λ k x e h. absurd (cc); whole = λ x e b h. absurd (nothing x b); within = λ k x h. absurd (cc); rising = λ i j x y l h. absurd (cc) }
    where
      nothing : (x : EdgeId) → IsBefore 0 0 0 x → ⊥
      nothing (Arg w q) b = ⊎_elim (λ l. omega arith) (λ (a, l). omega arith) b
      nothing (Order k) b = omega arith

  -- past the operands of a node
  pub next_node : (v p : ℕ) (names : List EdgeId) (edges : List Edge) → length (node K v).operands ≤ p → AreSoFar A K v p 0 names edges → AreSoFar A K (v + 1) 0 0 names edges
  next_node v p names edges l s = so_far_same v p 0 (v + 1) 0 0 names edges s before stays
    where
      stays : (y : EdgeId) → IsBefore v p 0 y → IsBefore (v + 1) 0 0 y
      stays (Arg w q) b = ⊎_elim (λ l. inl (omega arith)) (λ (a, l). inl (omega arith)) b
      stays (Order k) b = b

      before : (y : EdgeId) (e : Edge) → IsBefore (v + 1) 0 0 y → edge_of A K y ≡ Some e → IsBefore v p 0 y
      before (Order k) e b is = b
      before (Arg w q) e b is =
          ⊎_elim
          (λ m. ⊎_elim (λ n. inl n)
          (λ n. let a : w ≡ v = omega arith in
          ⊎_elim (λ o. inr (a, o))
          (λ o. absurd (let c = ap (of_operand A K w) (ap (λ z. slice_get (node K z).operands q) a ∙ slice_get_past (node K v).operands q (let d = o in omega arith)) in cc))
          (cases_lt q p))
          (cases_lt w v))
          (λ (a, m). absurd (omega arith))
          b

  -- past all nodes and order edges
  pub all_edges : (v j : ℕ) (names : List EdgeId) (edges : List Edge) → size K ≤ v → length K.order ≤ j → AreSoFar A K v 0 j names edges → AreEdges A K names edges
  all_edges v j names edges l m s = record { each = s.each; right = s.right; whole = λ x e is. s.whole x e (before x e is) is; rising = s.rising }
    where
      before : (x : EdgeId) (e : Edge) → edge_of A K x ≡ Some e → IsBefore v 0 j x
      before (Order k) e is = ⊎_elim (λ a. a) (λ a. absurd (let c = ap of_order (slice_get_past K.order k (omega arith)) in cc)) (cases_lt k j)
      before (Arg w q) e is =
          ⊎_elim (λ a. inl a)
          (λ a. absurd (let b : node K w ≡ no_node = get_or_past K.nodes w no_node (omega arith) in let c = ap (λ (z : Node). of_operand A K w (slice_get z.operands q)) b in cc))
          (cases_lt w v)
