-- Links that are added to a network.
use Rattle.std.proofs.Common.{◌≡◌, ℕ, zero, suc, ◌+◌, ◌*◌, ◌<◌, ◌≤◌, List, [], ◌∷◌, ◌++◌, length, Option, Some, None, refl, sym, ap, ◌∙◌, subst, arith, ⊎_elim}
use Rattle.std.specs.Prelude.{slice_get}
use Rattle.std.proofs.Math.ListN.{get_or-append}
use Rattle.std.proofs.Math.Seq.{get_or-append_seam}
use Rattle.std.proofs.lemmas.Bool.{cases_lt, cases_eq}
use Rattle.std.proofs.lemmas.Option.{slice_get_within}
use Rattle.cg_word.proofs.Arity.{arity_few}
use Rattle.cg_model.specs.declared.kernel.Operand.{Operand}
use Rattle.cg_model.specs.declared.kernel.Operand.TheVariants.{Const as Constant, Edge}
use Rattle.cg_model.specs.declared.kernel.OrderEdge.{OrderEdge}
use Rattle.cg_model.specs.Kernel.{Kernel, IsKernel, node, size}
use Rattle.cg_model.specs.Array.{Arch}
use Rattle.cg_model.proofs.Mappings.{operand_within}
use Rattle.cg_bound_registers.specs.declared.dependence.Dependence.{Dependence}
use Rattle.cg_bound_registers.specs.Pressure.{of_operand, of_order, data_edge}
use Rattle.cg_bound_flow.specs.declared.network.Link.{Link}
use Rattle.cg_bound_flow.specs.declared.network.Part.{Part}
use Rattle.cg_bound_flow.specs.Network.{link, no_link}
use Rattle.cg_bound_flow.specs.Parts.{Stands, AllStand, Has, HasNode, HasData, HasOrder, IsGrown, IsNetwork}

length-one : (links : List Link) (l : Link) → length (links ++ (l ∷ [])) ≡ length links + 1
length-one [] l = refl
length-one (x ∷ xs) l = let h = length-one xs l in omega arith

-- an edge is one of three operands of a node
pub data_within : (K : Kernel) → IsKernel K → (v p : ℕ) (a : Dependence) → data_edge K v p ≡ Some a → (v < size K) × (p < 3)
data_within K good v p a e = by_operand (slice_get (node K v).operands p) refl e
  where
    by_operand : (o : Option Operand) → slice_get (node K v).operands p ≡ o → of_operand v p o ≡ Some a → (v < size K) × (p < 3)
    by_operand None q e = let bad : None ≡ Some a = e in absurd (cc)
    by_operand (Some (Constant w)) q e = let bad : None ≡ Some a = e in absurd (cc)
    by_operand (Some (Edge u d init)) q e =
        let l = operand_within K v p (Edge u d init) q in
        let w = slice_get_within (node K v).operands p (Edge u d init) q in
        let r = good.arities v l in
        let f = arity_few (node K v).op in
        (l, omega arith)

-- an order edge stands in the list
order_within : (os : List OrderEdge) (e : ℕ) (a : Dependence) → of_order (slice_get os e) ≡ Some a → e < length os
order_within os e a is = by_option (slice_get os e) refl is
  where
    by_option : (o : Option OrderEdge) → slice_get os e ≡ o → of_order o ≡ Some a → e < length os
    by_option None q r = let bad : None ≡ Some a = r in absurd (cc)
    by_option (Some x) q r = slice_get_within os e x q

module _ (A : Arch) (K : Kernel) (hops : ℕ → ℕ → ℕ) (ii : ℕ) where
  pub added : (links : List Link) (l : Link) (links' : List Link) → AllStand A K hops ii links → Stands A K hops ii l l.part → links' ≡ links ++ (l ∷ []) → IsGrown A K hops ii links links'
  added links l links' right stands e =
      subst (IsGrown A K hops ii links) (sym e)
      (record {
        right = λ k m.
            ⊎_elim
            (λ (b : k < length links). subst (λ (z : Link). Stands A K hops ii z z.part) (sym (get_or-append links (l ∷ []) no_link k b)) (right k b))
            (λ (b : length links ≤ k).
            let q : length links ≡ k = omega (arith, length-one links l) in
            subst (λ j. Stands A K hops ii (link (links ++ (l ∷ [])) j) (link (links ++ (l ∷ [])) j).part) q
            (subst (λ (z : Link). Stands A K hops ii z z.part) (sym (get_or-append_seam links l [] no_link)) stands))
            (cases_lt k (length links));
        kept = λ part (k, m, q). (k, omega (arith, length-one links l), ap (λ (z : Link). z.part) (get_or-append links (l ∷ []) no_link k m) ∙ q);
      })

  pub has_added : (links : List Link) (l : Link) (links' : List Link) → links' ≡ links ++ (l ∷ []) → Has links' l.part
  has_added links l links' e =
      subst (λ (z : List Link). Has z l.part) (sym e) (length links, omega (arith, length-one links l), ap (λ (z : Link). z.part) (get_or-append_seam links l [] no_link))

  pub longer : (links : List Link) (l : Link) (links' : List Link) → links' ≡ links ++ (l ∷ []) → length links' ≡ length links + 1
  longer links l links' e = ap (λ (z : List Link). length z) e ∙ length-one links l

  pub grown_same : (links : List Link) → AllStand A K hops ii links → IsGrown A K hops ii links links
  grown_same links right = record { right = right; kept = λ part h. h }

  pub grown_twice : (a b c : List Link) → IsGrown A K hops ii a b → IsGrown A K hops ii b c → IsGrown A K hops ii a c
  grown_twice a b c f g = record { right = g.right; kept = λ part h. g.kept part (f.kept part h) }

  pub node_kept : (a b : List Link) (w : ℕ) → IsGrown A K hops ii a b → HasNode a w → HasNode b w
  node_kept a b w g (x, y) = (g.kept _ x, g.kept _ y)

  pub data_kept : (a b : List Link) (v p : ℕ) → IsGrown A K hops ii a b → HasData K a v p → HasData K b v p
  data_kept a b v p g h = λ e is. let (x, y) = h e is in (g.kept _ x, g.kept _ y)

  pub order_kept : (a b : List Link) (e : ℕ) → IsGrown A K hops ii a b → HasOrder K a e → HasOrder K b e
  order_kept a b e g h = λ d is. g.kept _ (h d is)

  -- the links of the first nodes
  pub record IsBegun (w : ℕ) (links : List Link) : Type 0 where
    pub few : length links ≤ 8 * w
    pub right : AllStand A K hops ii links
    pub nodes : (x : ℕ) → x < w → HasNode links x
    pub uses : (x p : ℕ) → x < w → p < 3 → HasData K links x p

  pub begun_more : (w : ℕ) (a b c d e : List Link) → IsBegun w a → IsGrown A K hops ii a b → HasNode b w → length b ≤ length a + 2 → IsGrown A K hops ii b c → HasData K c w 0 → length c ≤ length b + 2 →
      IsGrown A K hops ii c d → HasData K d w 1 → length d ≤ length c + 2 → IsGrown A K hops ii d e → HasData K e w 2 → length e ≤ length d + 2 → IsBegun (w + 1) e
  begun_more w a b c d e begun g1 h1 l1 g2 h2 l2 g3 h3 l3 g4 h4 l4 =
      let ce = grown_twice c d e g3 g4 in
      let be = grown_twice b c e g2 ce in
      let ae = grown_twice a b e g1 be in
      record {
        few = (let f = begun.few in omega arith);
        right = g4.right;
        nodes = λ x l. ⊎_elim (λ (q : x ≡ w). subst (HasNode e) (sym q) (node_kept b e w be h1)) (λ ne. node_kept a e x ae (begun.nodes x (omega (arith, ne)))) (cases_eq x w);
        uses = λ x p l m. ⊎_elim
            (λ (q : x ≡ w). subst (λ y. HasData K e y p) (sym q) (each p m))
            (λ ne. data_kept a e x p ae (begun.uses x p (omega (arith, ne)) m))
            (cases_eq x w);
      }
    where
      each : (p : ℕ) → p < 3 → HasData K e w p
      each zero m = data_kept c e w 0 (grown_twice c d e g3 g4) h2
      each (suc zero) m = data_kept d e w 1 g4 h3
      each (suc (suc zero)) m = h4
      each (suc (suc (suc p))) m = absurd (omega arith)

  pub record IsOrdered (k : ℕ) (links : List Link) : Type 0 where
    pub few : length links ≤ 8 * size K + k
    pub right : AllStand A K hops ii links
    pub nodes : (w : ℕ) → w < size K → HasNode links w
    pub uses : (v p : ℕ) → HasData K links v p
    pub order : (e : ℕ) → e < k → HasOrder K links e

  pub begun_all : (good : IsKernel K) (n : ℕ) (links : List Link) → n ≡ size K → IsBegun n links → IsOrdered 0 links
  begun_all good n links q begun =
      record {
        few = (let f = begun.few in omega arith);
        right = begun.right;
        nodes = λ w l. begun.nodes w (omega arith);
        uses = λ v p a is. let (l, m) = data_within K good v p a is in begun.uses v p (omega arith) m a is;
        order = λ e l. absurd (omega arith);
      }

  pub ordered_more : (k : ℕ) (a b : List Link) → IsOrdered k a → IsGrown A K hops ii a b → HasOrder K b k → length b ≤ length a + 1 → IsOrdered (k + 1) b
  ordered_more k a b o g h l =
      record {
        few = (let f = o.few in omega arith);
        right = g.right;
        nodes = λ w m. node_kept a b w g (o.nodes w m);
        uses = λ v p. data_kept a b v p g (o.uses v p);
        order = λ e m. ⊎_elim (λ (q : e ≡ k). subst (HasOrder K b) (sym q) h) (λ ne. order_kept a b e g (o.order e (omega (arith, ne)))) (cases_eq e k);
      }

  pub finished : (good : IsKernel K) (k : ℕ) (links : List Link) → k ≡ length K.order → IsOrdered k links → IsNetwork A K hops ii links
  finished good k links q o =
      record {
        few = (let f = o.few in omega arith);
        right = o.right;
        nodes = o.nodes;
        uses = o.uses;
        order = λ e a is. o.order e (let l = order_within K.order e a is in omega arith) a is;
      }
