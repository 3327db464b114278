-- The kernel with needs as its order edges is valid.
use Rattle.std.proofs.Common.{◌≡◌, ℕ, ◌<◌, ◌≤◌, List, [], length, refl, sym, ◌∙◌, subst, arith, ⊎_elim, inl, inr}
use Rattle.std.specs.Prelude.{◌⊎◌, Contains, Some, true, slice_get}
use Rattle.std.proofs.lemmas.Bool.{cases_order, and_parts, or_cases}
use Rattle.std.proofs.lemmas.Option.{slice_get_within, get_or_from_slice_get}
use Rattle.cg_word.specs.Word.{is_access, is_store}
use Rattle.cg_model.specs.Limits.{most_order_edges}
use Rattle.cg_model.specs.declared.kernel.OrderEdge.{OrderEdge}
use Rattle.cg_model.specs.declared.kernel.Operand.TheVariants.{Edge}
use Rattle.cg_model.specs.Kernel.{Kernel, HasOperand, HasOrder, IsKernel, IsOrder, node, size}
use Rattle.cg_model.specs.Order.{Links, by_data, by_order, Chain, one, more}
use Rattle.cg_depend.specs.Depend.{conflict, distance_for}
use Rattle.cg_depend.specs.Gathered.{ask}
use Rattle.cg_depend.proofs.Valid.{gap_least}
use Rattle.cg_simplify_draft.specs.Rewritten.{IsRewritten}
use Rattle.cg_simplify_order.specs.Needs.{IsNeed}
use Rattle.cg_simplify_order.specs.Found.{AreAllNeeds, AreAmong, JoinBelow, reordered}
use Rattle.cg_simplify_order.proofs.Needed.{one_namesake}

-- only the order edges are others
pub reordered_valid : (K : Kernel) (es : List OrderEdge) → IsKernel K → IsOrder (reordered K es) → IsKernel (reordered K es)
reordered_valid K es good order =
    record {
      few = good.few;
      named = record { names = good.named.names; apart = good.named.apart };
      wired = record { sources = good.wired.sources; forward = good.wired.forward; constants = good.wired.constants };
      order = order;
      arities = good.arities;
      valued = good.valued;
      near = good.near;
      inits = good.inits;
      init_words = good.init_words;
      one_constant = good.one_constant;
      ports = good.ports;
      no_ports = good.no_ports;
      one_output = good.one_output;
    }

-- a kernel without order edges
pub bare_order : (K : Kernel) → IsOrder (reordered K [])
bare_order K =
    record {
      few = omega arith;
      known = λ e u v d h. absurd (cc);
      forward = λ e u v h. absurd (cc);
      near = λ e u v d h. absurd (cc);
    }

-- ---- chains within a turn

link_forward : (K : Kernel) → IsKernel K → (u v d : ℕ) → d ≡ 0 → Links K u v d → u < v
link_forward K good u v d e (by_data p init l h) = good.wired.forward v p u init l (subst (λ z. HasOperand K v p (Edge u z init)) e h)
link_forward K good u v d e (by_order n h) = good.order.forward n u v (subst (λ z. HasOrder K n u v z) e h)

chain_forward : (K : Kernel) → IsKernel K → (u v d : ℕ) → d ≡ 0 → Chain K u v d → u < v
chain_forward K good u v d z (one l) = link_forward K good u v d z l
chain_forward K good u w x z (more {v = v} {d = d} {e = e} l c) =
    let first : u < v = link_forward K good u v d (omega arith) l in
    let rest : v < w = chain_forward K good v w e (omega arith) c in
    omega arith

-- two accesses, of which one stores
pub record Meet (K : Kernel) (u v : ℕ) : Type 0 where
  pub first : is_access (node K u).op ≡ true
  pub second : is_access (node K v).op ≡ true
  pub stores : (is_store (node K u).op ≡ true) ⊎ (is_store (node K v).op ≡ true)

meet_of : (K : Kernel) (u v : ℕ) → conflict K u v ≡ true → Meet K u v
meet_of K u v h =
    let p = and_parts _ _ h in
    let q = and_parts _ _ p.1 in
    record { first = p.0; second = q.0; stores = or_cases _ _ q.1 }

-- a need over 0 turns goes to a later node
need_forward : (K L : Kernel) → IsKernel K → IsRewritten K L → (u v r : ℕ) → IsNeed K L u v r → r ≡ 0 → u < v
need_forward K L good h u v r n z =
    let none : distance_for n.turns ≡ 0 = sym n.near ∙ z in
    let few : n.least ≤ n.turns = gap_least L (ask u v n.least) n.turns n.gap in
    let up : n.before < n.after = chain_forward K good n.before n.after n.least (omega arith) n.chain.chain in
    let eu : n.before ≡ h.from u = one_namesake K L good n.before (h.from u) u n.source (record { inside = h.inside u n.first; named = sym (h.named u n.first) }) in
    let ev : n.after ≡ h.from v = one_namesake K L good n.after (h.from v) v n.target (record { inside = h.inside v n.second; named = sym (h.named v n.second) }) in
    let m = meet_of L u v n.meet in
    ⊎_elim (λ e. absurd (n.other e))
    (λ o. ⊎_elim (λ l. l)
    (λ (l : v < u). absurd (let back : h.from v < h.from u = h.ordered v u l n.first m.second m.first (⊎_elim inr inl m.stores) in omega arith)) o)
    (cases_order u v)

-- ---- order edges that are needs

contains_at : (es : List OrderEdge) (k : ℕ) (e : OrderEdge) → slice_get es k ≡ Some e → Contains es e
contains_at es k e h = (k, slice_get_within es k e h, get_or_from_slice_get es k e e h)

pub need_at : (K L : Kernel) (needs es : List OrderEdge) (k : ℕ) (e : OrderEdge) → AreAllNeeds K L needs → AreAmong needs es → slice_get es k ≡ Some e → IsNeed K L e.from e.to e.distance
need_at K L needs es k e all among h = all.sound e (among e (contains_at es k e h))

pub needs_join : (K L : Kernel) (needs : List OrderEdge) → AreAllNeeds K L needs → JoinBelow (size L) needs
needs_join K L needs all e h = let n = all.sound e h in (n.first, n.second)

pub needs_order : (K L : Kernel) (needs es : List OrderEdge) → IsKernel K → IsRewritten K L → AreAllNeeds K L needs → AreAmong needs es → length es ≤ most_order_edges → IsOrder (reordered L es)
needs_order K L needs es good h all among few =
    record {
      few = few;
      known = λ k u v d i. let n = need_at K L needs es k _ all among i in (n.first, n.second);
      forward = λ k u v i. need_forward K L good h u v 0 (need_at K L needs es k _ all among i) refl;
      near = λ k u v d i. let n = need_at K L needs es k _ all among i in let e = n.near in omega arith;
    }
