-- The network of a kernel, by definitions alone.
use Rattle.std.proofs.Common.{◌≡◌, ℕ, zero, suc, ◌+◌, ◌*◌, ◌<◌, ◌≤◌, List, [], ◌∷◌, ◌++◌, length, Option, Some, None, refl, sym, ◌∙◌, subst, arith}
use Rattle.cg_model.specs.Kernel.{Kernel, IsKernel, node, size}
use Rattle.cg_model.specs.Array.{Arch}
use Rattle.cg_recur.specs.Edges.{latency}
use Rattle.cg_bound_registers.specs.declared.dependence.Dependence.{Dependence}
use Rattle.cg_bound_registers.specs.Pressure.{data_edge, order_edge, most_latency}
use Rattle.cg_bound_flow.specs.declared.network.Link.{Link}
use Rattle.cg_bound_flow.specs.declared.network.Part.TheVariants.{Least, Most, Pull, Stay, Tie}
use Rattle.cg_bound_flow.specs.Parts.{Stands, AllStand, Has, HasNode, HasData, HasOrder, IsGrown, IsNetwork}
use Rattle.cg_bound_flow.proofs.Standing.{added, has_added, longer, grown_same, grown_twice, IsBegun, begun_more, begun_all, IsOrdered, ordered_more, finished}

module _ (A : Arch) (K : Kernel) (hops : ℕ → ℕ → ℕ) (ii : ℕ) where
  abbrev Grown : List Link → List Link → Type 0
  Grown = IsGrown A K hops ii

  -- one link more
  one_more : (links : List Link) (l : Link) → AllStand A K hops ii links → Stands A K hops ii l l.part → (links' : List Link) × Grown links links' × Has links' l.part × (length links' ≡ length links + 1)
  one_more links l right stands =
      (links ++ l ∷ [], added A K hops ii links l (links ++ l ∷ []) right stands refl, has_added A K hops ii links l (links ++ l ∷ []) refl, longer A K hops ii links l (links ++ l ∷ []) refl)

  add_node : (w : ℕ) → w < size K → (links : List Link) → AllStand A K hops ii links → (links' : List Link) × Grown links links' × HasNode links' w × (length links' ≤ length links + 2)
  add_node w l links right =
      let least : Link = record { from = w; to = size K + w; gain = latency A (node K w).op; loss = 0; part = Least w } in
      let most : Link = record { from = size K + w; to = w; gain = 0; loss = most_latency (node K w).op A.units; part = Most w } in
      let (a, g, h, n) = one_more links least right (l, refl, refl, refl, refl) in
      let (b, i, j, m) = one_more a most g.right (l, refl, refl, refl, refl) in
      (b, grown_twice A K hops ii links a b g i, (i.kept (Least w) h, j), omega arith)

  add_data : (v p : ℕ) (o : Option Dependence) → data_edge K v p ≡ o → (links : List Link) → AllStand A K hops ii links → (links' : List Link) × Grown links links' × HasData K links' v p × (length links' ≤ length links + 2)
  add_data v p None e links right = (links, grown_same A K hops ii links right, λ a is. let bad : None ≡ Some a = sym e ∙ is in absurd (cc), omega arith)
  add_data v p (Some d) e links right =
      let pull : Link = record { from = size K + d.source; to = d.target; gain = hops d.target d.arg; loss = ii * d.distance; part = Pull v p } in
      let stay : Link = record { from = d.target; to = size K + size K + d.source; gain = ii * d.distance; loss = 0; part = Stay v p } in
      let (a, g, h, n) = one_more links pull right (d, e, refl, refl, refl, refl) in
      let (b, i, j, m) = one_more a stay g.right (d, e, refl, refl, refl, refl) in
      (b, grown_twice A K hops ii links a b g i, λ x is. (i.kept (Pull v p) h, j), omega arith)

  add_order : (k : ℕ) (o : Option Dependence) → order_edge K k ≡ o → (links : List Link) → AllStand A K hops ii links → (links' : List Link) × Grown links links' × HasOrder K links' k × (length links' ≤ length links + 1)
  add_order k None e links right = (links, grown_same A K hops ii links right, λ a is. let bad : None ≡ Some a = sym e ∙ is in absurd (cc), omega arith)
  add_order k (Some d) e links right =
      let tie : Link = record { from = d.source; to = d.target; gain = 1; loss = ii * d.distance; part = Tie k } in
      let (a, g, h, n) = one_more links tie right (d, e, refl, refl, refl, refl) in
      (a, g, λ x is. h, omega arith)

  begin : (w : ℕ) → w ≤ size K → (links : List Link) × IsBegun A K hops ii w links
  begin zero l =
      ([], record { few = omega arith; right = λ k m. absurd (omega arith); nodes = λ x m. absurd (omega arith); uses = λ x p m q. absurd (omega arith) })
  begin (suc w) l =
      let (a, begun) = begin w (omega arith) in
      let (b, g1, h1, l1) = add_node w (omega arith) a begun.right in
      let (c, g2, h2, l2) = add_data w 0 (data_edge K w 0) refl b g1.right in
      let (d, g3, h3, l3) = add_data w 1 (data_edge K w 1) refl c g2.right in
      let (e, g4, h4, l4) = add_data w 2 (data_edge K w 2) refl d g3.right in
      let q : w + 1 ≡ suc w = omega arith in
      subst (λ z. (links : List Link) × IsBegun A K hops ii z links) q (e, begun_more A K hops ii w a b c d e begun g1 h1 l1 g2 h2 l2 g3 h3 l3 g4 h4 l4)

  ordered : IsKernel K → (k : ℕ) → (links : List Link) × IsOrdered A K hops ii k links
  ordered good zero = let (links, begun) = begin (size K) (omega arith) in (links, begun_all A K hops ii good (size K) links refl begun)
  ordered good (suc k) =
      let (a, o) = ordered good k in
      let (b, g, h, l) = add_order k (order_edge K k) refl a o.right in
      let q : k + 1 ≡ suc k = omega arith in
      subst (λ z. (links : List Link) × IsOrdered A K hops ii z links) q (b, ordered_more A K hops ii k a b o g h l)

  pub some_network : IsKernel K → (links : List Link) × IsNetwork A K hops ii links
  some_network good = let (links, o) = ordered good (length K.order) in (links, finished A K hops ii good (length K.order) links refl o)
