-- With the added edges every run is unaliased, and its turns are the kernel's.
use Rattle.std.proofs.Common.{◌≡◌, ℕ, zero, suc, ◌+◌, ◌-◌, ◌*◌, ◌<◌, ◌≤◌, List, [], ◌∷◌, ◌++◌, Some, None, refl, sym, ap, ◌∙◌, subst, arith, ⊎_elim, inl, inr}
use Rattle.std.specs.Prelude.{◌⊎◌, ◌&&◌, true, nat_lt, slice_get, flat_map}
use Rattle.std.specs.List.{range_with_len}
use Rattle.std.proofs.lemmas.Bool.{and_from, or_left, or_right, lt-ltb, cond-true}
use mathlib.Core.Path.{fun_ext}
use Rattle.cg_word.specs.Word.{is_access, is_store, address_arg}
use Rattle.cg_model.specs.Limits.{most_turns}
use Rattle.cg_model.specs.Work.{Image, Reaches, left, value}
use Rattle.cg_model.specs.declared.kernel.OrderEdge.{OrderEdge}
use Rattle.cg_model.specs.Kernel.{Kernel, IsWired, node, size}
use Rattle.cg_model.specs.Turns.{Progress, turns_left, work_of, work_at, val}
use Rattle.cg_model.specs.Order.{Links, by_data, by_order, Chain, one, more, IsOrdered, IsUnaliased}
use Rattle.cg_overlap.proofs.Unaliased.{same_before, same_turns, unaliased_from}
use Rattle.cg_depend.specs.Affine.{pairs}
use Rattle.cg_depend.specs.Depend.{Ask, asks, asks_of, conflict, Gap, Within, Added, none, apart, chained, added, distance_for, edge_for, with_order, AreNeeded, IsDepend}
use Rattle.cg_depend.proofs.Members.{In, in_append_left, in_right, in_flat_map, in_range}
use Rattle.cg_depend.proofs.Pairs.{arg_runs, pairs_right}
use Rattle.cg_depend.proofs.Gaps.{Goes, gap_within}

-- what the added edges do for each question
kept : (K : Kernel) (qs : List Ask) (es : List OrderEdge) (k : ℕ) (a : Ask) → Added K qs es → slice_get qs k ≡ Some a →
    Gap K a None ⊎ ((g : ℕ) × Gap K a (Some g) × (Within K a.source a.target (distance_for g) ⊎ In es (edge_for a g)))
kept K [] [] k a none e = absurd (cc)
kept K [] (x ∷ es) k a m e = elim m [ ]
kept K (b ∷ qs) es zero a (apart gap rest) e = let w : b ≡ a = cc in inl (rw w at gap)
kept K (b ∷ qs) es (suc k) a (apart gap rest) e = kept K qs es k a rest e
kept K (b ∷ qs) es zero a (chained g gap chain rest) e = let w : b ≡ a = cc in inr (g, rw w at gap, inl (rw w at chain))
kept K (b ∷ qs) es (suc k) a (chained g gap chain rest) e = kept K qs es k a rest e
kept K (b ∷ qs) (x ∷ es) zero a (added g gap unchained rest) e = let w : b ≡ a = cc in inr (g, rw w at gap, inr (0, ap (λ c. Some (edge_for c g)) w))
kept K (b ∷ qs) (x ∷ es) (suc k) a (added g gap unchained rest) e =
    ⊎_elim inl (λ h. ⊎_elim (λ c. inr (h.0, h.1, inl c)) (λ m. inr (h.0, h.1, inr (suc m.0, m.1))) h.2) (kept K qs es k a rest e)

-- chains stay
link_stays : (K : Kernel) (es : List OrderEdge) (u v d : ℕ) → Links K u v d → Links (with_order K es) u v d
link_stays K es u v d (by_data p init l h) = by_data p init l h
link_stays K es u v d (by_order e h) = by_order e (in_append_left K.order es e _ h)

chain_stays : (K : Kernel) (es : List OrderEdge) (u v d : ℕ) → Chain K u v d → Chain (with_order K es) u v d
chain_stays K es u v d (one l) = one (link_stays K es u v d l)
chain_stays K es u w x (more {v = v} {d = d} {e = e} l c) = more (link_stays K es u v d l) (chain_stays K es v w e c)

-- the values of nodes, by what is done before each step
abbrev values_by : Kernel → Image → (ℕ → Progress) → ℕ → ℕ → ℕ
values_by K image before v i = value image (before (i * size K + v)).memory (work_at K (i * size K + v) (before (i * size K + v)).values)

same_values : (K : Kernel) (es : List OrderEdge) (image : Image) → val (with_order K es) image ≡ val K image
same_values K es image = ap (values_by K image) (fun_ext (same_before K.nodes (K.order ++ es) K.order image))

module _ (K : Kernel) (es : List OrderEdge) (image : Image) (good : IsWired K) (made : AreNeeded K es) where
  abbrev HasReached : ℕ → ℕ → ℕ → Type 0
  HasReached v i a = Reaches (work_of (node K v) i (val (with_order K es) image)) a

  goes : (v i a : ℕ) → HasReached v i a → Goes K v i a
  goes v i a h =
      record {
        by_pair = λ p e.
            let r = subst (λ (f : ℕ → ℕ → ℕ). Reaches (work_of (node K v) i f) a) (same_values K es image) h in
            let run = arg_runs K image good (pairs K v) v (address_arg (node K v).op) p (pairs_right K image good v) e in (run.small_base, sym r.there ∙ run.at i);
      }

  -- a question of the kernel, whose accesses reach one word in turns i and j
  answered : (a : Ask) (word i j : ℕ) → In (asks K) a → i + a.least ≤ j → j < most_turns → Goes K a.source i word → Goes K a.target j word → IsOrdered (with_order K es) a.source i a.target j
  answered a word i j (k, e) l m s t =
      let z : j ≡ i + (j - i) = omega arith in
      let t' : Goes K a.target (i + (j - i)) word = subst (λ (y : ℕ). Goes K a.target y word) z t in
      ⊎_elim
      (λ gap. let r = gap_within K a None word i (j - i) gap (omega arith) (omega arith) s t' in absurd (let z = r.1 in cc))
      (λ h.
      let r = gap_within K a (Some h.0) word i (j - i) h.1 (omega arith) (omega arith) s t' in
      let w : h.0 ≡ r.0 = let z = r.1 in cc in
      let b : distance_for h.0 ≤ j - i = let z = r.2 in omega arith in
      ⊎_elim (λ c. inr (c.0, chain_stays K es a.source a.target c.0 c.1, let y = c.2 in omega arith))
      (λ c. let at = in_right K.order es _ c in inr (distance_for h.0, one (by_order at.0 at.1), omega arith))
      h.2)
      (kept K (asks K) es k a made e)

  asked : (u v : ℕ) → u < v → v < size K → is_access (node K u).op ≡ true → is_access (node K v).op ≡ true → (is_store (node K u).op ≡ true) ⊎ (is_store (node K v).op ≡ true) →
      (a : Ask) → In (record { source = u; target = v; least = 0 } ∷ record { source = v; target = u; least = 1 } ∷ []) a → In (asks K) a
  asked u v l b au av st a h =
      in_flat_map (λ w. flat_map (asks_of K w) (range_with_len 0 (size K))) (range_with_len 0 (size K)) u u a (in_range 0 (size K) u (omega arith) ∙ ap Some (let e : 0 + u ≡ u = omega arith in e))
      (in_flat_map (asks_of K u) (range_with_len 0 (size K)) v v a (in_range 0 (size K) v b ∙ ap Some (let e : 0 + v ≡ v = omega arith in e))
      (subst (λ xs. In xs a)
      (sym (cond-true (nat_lt u v && conflict K u v) _ [] (and_from _ _ (lt-ltb u v l) (and_from _ _ au (and_from _ _ av (⊎_elim (λ s. or_left _ _ s) (λ s. or_right _ _ s) st))))))
      h))

  ordered : (a u i v j : ℕ) → u < size K → v < size K → j < most_turns → HasReached u i a → HasReached v j a → (is_store (node K u).op ≡ true) ⊎ (is_store (node K v).op ≡ true) →
      (u < v → i ≤ j → IsOrdered (with_order K es) u i v j) × (v < u → i < j → IsOrdered (with_order K es) u i v j)
  ordered a u i v j lu lv m ru rv st = (
    λ l later. answered (record { source = u; target = v; least = 0 }) a i j (asked u v l lv ru.is rv.is st _ (0, refl)) (omega arith) m (goes u i a ru) (goes v j a rv),
    λ l later. answered (record { source = u; target = v; least = 1 }) a i j (asked v u l lu rv.is ru.is (⊎_elim inr inl st) _ (1, refl)) (omega arith) m (goes u i a ru) (goes v j a rv),
  )

  pub unaliased_with : (n : ℕ) → n ≤ most_turns → IsUnaliased (with_order K es) n image
  unaliased_with n few =
      unaliased_from (with_order K es) n image (record { sources = good.sources; forward = good.forward; constants = good.constants })
      (λ a u i v j lu lv turn ru rv st. ordered a u i v j lu lv (omega arith) ru rv st)

pub same_left : (K L : Kernel) (n : ℕ) (image : Image) → IsDepend K L → turns_left L n image ≡ turns_left K n image
same_left K L n image d =
    ap (λ M. turns_left M n image) d.1 ∙ ap (λ (p : Progress). left p.memory p.streams p.outside) (same_turns K.nodes (K.order ++ d.0) K.order image n)

pub unaliased : (K L : Kernel) (n : ℕ) (image : Image) → IsWired K → IsDepend K L → n ≤ 1000000 → IsUnaliased L n image
unaliased K L n image good d few = subst (λ M. IsUnaliased M n image) (sym d.1) (unaliased_with K d.0 image good d.2 n few)
