-- For each interval there is a recurrence in its shown form, or none at all: by definitions alone.
use Rattle.std.proofs.Common.{◌≡◌, ℕ, zero, suc, ◌+◌, ◌<◌, ◌≤◌, List, [], ◌∷◌, ◌++◌, length, get_or, map, Option, Some, None, refl, sym, ap, ◌∙◌, subst, arith, inl, inr, ⊎_elim}
use Rattle.std.specs.Prelude.{◌⊎◌, slice_get, slice_index}
use Rattle.std.proofs.lemmas.List.{get_or-map}
use Rattle.std.proofs.Math.ListN.{length-map}
use Rattle.std.proofs.lemmas.Option.{slice_get-get_or, slice_get_within}
use Rattle.cg_word.specs.declared.op.Op.{Op}
use Rattle.cg_model.specs.Kernel.{Kernel, IsKernel, size, node}
use Rattle.cg_model.specs.Array.{Arch}
use Rattle.cg_recur.specs.Chain.{source_of, IsShown, IsTight}
use Rattle.cg_recur.specs.declared.edge.Edge.{Edge}
use Rattle.cg_recur.specs.declared.edge.EdgeId.{EdgeId}
use Rattle.cg_recur.specs.declared.edge.EdgeId.TheVariants.{Arg, Order}
use Rattle.cg_recur.specs.Edges.{edge_of, latency, AreEdges}
use Rattle.cg_recur.specs.Listed.{AreSoFar, IsAdded}
use Rattle.cg_recur.proofs.Listed.{arg_added, order_added, none_so_far, next_node, all_edges}
use Rattle.cg_recur.specs.Log.{IsWithin}
use Rattle.cg_recur.specs.Recurrences.{IsRecurrence, name_at}
use Rattle.cg_recur.proofs.Chains.{none_from_tight}
use Rattle.cg_recur.proofs.Names.{named}
use Rattle.cg_recur.proofs.Named.{within, cycle_named}
use Rattle.cg_recur.proofs.Visits.{tight_or_deep}
use Rattle.cg_recur.proofs.Closing.{closed_chain}
use Rattle.cg_model.proofs.Ranges.{pigeons}

-- ---- the list of all edges

added : (o : Option Edge) (x : EdgeId) (names : List EdgeId) (edges : List Edge) → (names' : List EdgeId) × (edges' : List Edge) × IsAdded o x names edges names' edges'
added None x names edges = (names, edges, (refl, refl))
added (Some e) x names edges = (names ++ x ∷ [], edges ++ e ∷ [], (refl, refl))

module _ (A : Arch) (K : Kernel) where
  abbrev SoFar : ℕ → ℕ → ℕ → Type 0
  SoFar v p j = (names : List EdgeId) × (edges : List Edge) × AreSoFar A K v p j names edges

  operands : (v p : ℕ) → SoFar v 0 0 → SoFar v p 0
  operands v zero s = s
  operands v (suc p) s =
      let (names, edges, h) = operands v p s in
      let (names', edges', a) = added (edge_of A K (Arg v p)) (Arg v p) names edges in
      let e : p + 1 ≡ suc p = omega arith in
      subst (λ z. SoFar v z 0) e (names', edges', arg_added A K v p names names' edges edges' h a)

  nodes : (v : ℕ) → SoFar v 0 0
  nodes zero = ([], [], none_so_far A K)
  nodes (suc v) =
      let p = length (node K v).operands in
      let (names, edges, h) = operands v p (nodes v) in
      let e : v + 1 ≡ suc v = omega arith in
      subst (λ z. SoFar z 0 0) e (names, edges, next_node A K v p names edges (omega arith) h)

  order : (j : ℕ) → SoFar (size K) 0 j
  order zero = nodes (size K)
  order (suc j) =
      let (names, edges, h) = order j in
      let (names', edges', a) = added (edge_of A K (Order j)) (Order j) names edges in
      let e : j + 1 ≡ suc j = omega arith in
      subst (λ z. SoFar (size K) 0 z) e (names', edges', order_added A K (size K) j names names' edges edges' h a)

  pub all_listed : (names : List EdgeId) × (edges : List Edge) × AreEdges A K names edges
  all_listed = let (names, edges, h) = order (length K.order) in (names, edges, all_edges A K (size K) (length K.order) names edges (omega arith) (omega arith) h)

-- ---- the decision

abbrev no_edge : Edge
no_edge = record { source = 0; target = 0; latency = 0; distance = 0 }

module _ (A : Arch) (K : Kernel) (names : List EdgeId) (es : List Edge) (good : AreEdges A K names es) where
  -- the number of an edge
  number : (x : EdgeId) (e : Edge) → edge_of A K x ≡ Some e → (k : ℕ) × (slice_get es k ≡ Some e)
  number x e is =
      let (k, at) = good.whole x e is in
      let l = slice_get_within names k x at in
      let each = good.each in
      let f = get_or es k no_edge in
      let has : slice_get es k ≡ Some f = slice_get-get_or es k no_edge (omega arith) in
      (k, has ∙ sym (good.right k x f at has) ∙ is)

  -- times that no listed edge asks more than
  tight_named : (ii : ℕ) (time : ℕ → ℕ) → IsTight (slice_get es) ii time → IsTight (edge_of A K) ii time
  tight_named ii time tight x e is = let (k, has) = number x e is in tight k e has

  source_within : (n : ℕ) → IsWithin es n → (x : EdgeId) (e : Edge) → edge_of A K x ≡ Some e → e.source < n
  source_within n inside x e is = let (k, has) = number x e is in (inside k e has).0

pub recurrence_or_none : (A : Arch) (K : Kernel) → ((op : Op) → latency A op ≤ 4) → IsKernel K → (ii : ℕ) →
    ((ids : List EdgeId) × IsRecurrence A K ii ids × IsShown (edge_of A K) ids) ⊎ ((ids : List EdgeId) → IsRecurrence A K ii ids → ⊥)
recurrence_or_none A K small valid ii =
    let (names, es, good) = all_listed A K in
    let inside = within A K small valid names es es K.nodes good refl refl in
    ⊎_elim
    (λ (time, tight). inr (λ ids c. none_from_tight (edge_of A K) ii time (tight_named A K names es good ii time tight) ids c))
    (λ (log, last, g, deep).
    let (xs, c) = closed_chain es ii (size K) log last g deep in
    let h = cycle_named A K names es good ii xs xs (map (name_at names) xs) refl c refl in
    inl (map (name_at names) xs, h.0, h.1))
    (tight_or_deep es ii (size K) inside)

-- a chain that repeats no node is no longer than the kernel
pub shown_short : (A : Arch) (K : Kernel) → ((op : Op) → latency A op ≤ 4) → IsKernel K → (ii : ℕ) (ids : List EdgeId) → IsRecurrence A K ii ids → IsShown (edge_of A K) ids → length ids ≤ size K
shown_short A K small valid ii ids c shown =
    let (names, es, good) = all_listed A K in
    let inside = within A K small valid names es es K.nodes good refl refl in
    let source : EdgeId → ℕ = λ x. source_of (edge_of A K x) in
    let sources : List ℕ = map source ids in
    let same : length sources ≡ length ids = length-map ids source in
    let has : (i : ℕ) → i < length ids → slice_get ids i ≡ Some (name_at ids i) = λ i l. slice_get-get_or ids i (Order 0) l in
    let at : (i : ℕ) → i < length ids → slice_index sources i ≡ source (name_at ids i) = λ i l. get_or-map source ids i (Order 0) 0 l in
    let below : (i : ℕ) → i < length sources → slice_index sources i < size K =
    λ i l.
    let l' : i < length ids = omega arith in
    let (e, is) = named (edge_of A K) (edge_of A K) (λ x. x) (λ x e is. is) c.closed.0 c.closed.0 ids i (name_at ids i) c.closed.1 (has i l') in
    let a = source_within A K names es good (size K) inside (name_at ids i) e is in
    let b = ap source_of is in
    let d = at i l' in
    omega arith
    in
    let h =
    pigeons (size K) sources below
    (λ i j l m e.
    let l' : i < length ids = omega arith in
    let m' : j < length ids = omega arith in
    shown.apart i j (name_at ids i) (name_at ids j) l (has i l') (has j m') (sym (at i l') ∙ e ∙ at j m'))
    in
    omega arith
