-- A search from its start to its end.
use Rattle.std.proofs.Common.{◌≡◌, ℕ, ◌+◌, ◌^◌, ◌<◌, ◌≤◌, ◌⊎◌, inl, inr, List, [], ◌∷◌, ◌++◌, length, sym, ap, ◌∙◌, subst, arith, ⊎_elim, refl, get_or, take, drop}
use Rattle.std.proofs.Math.ListN.{length-replicate}
use Rattle.std.proofs.Math.Seq.{take-append_seam}
use Rattle.cg_model.specs.declared.kernel.Node.{Node}
use Rattle.std.proofs.lemmas.List.{get_or_read_under}
use Rattle.std.specs.Prelude.{Option, Some, None, Contains, IsPermutation, All, replicate}
use Rattle.std.specs.declared.cmp.Reverse.{Reverse}
use Rattle.std.proofs.lemmas.List.Elements.{Contains-push_cases, Contains-push, Contains-get_or, Contains-append_left, Contains-append_right, Contains-append_cases}
use Rattle.std.proofs.lemmas.List.Sorted.{Contains-permutation, IsPermutation-sym}
use Rattle.cg_model.specs.Kernel.{Kernel, IsKernel, size}
use Rattle.cg_model.specs.Order.{Links, Chain, one, more}
use Rattle.cg_distance.specs.declared.links.Link.{Link}
use Rattle.cg_distance.specs.declared.reach.Reached.{Reached}
use Rattle.cg_distance.specs.Leaving.{HasLinks, leaving}
use Rattle.cg_distance.specs.Found.{total_of, waiting, Waits, Has, Beyond, Due, Takes, IsUnderWay}
use Rattle.cg_distance.specs.Table.{IsBest, IsRow}
use Rattle.cg_distance.proofs.Chains.{extended, link_nodes}
use Rattle.cg_distance.proofs.Bound.{shortened, IsShort}

none_waits : (v x : ℕ) → Waits [] v x → ⊥
none_waits v x w = let less : w.0 < 0 = w.1 in omega arith

module _ (K : Kernel) (source : ℕ) where
  -- after the links that leave the source
  pub started : (lists : List (List Link)) (empty totals : List (Option ℕ)) (queue : List (Reverse Reached)) → HasLinks (size K) (Links K) lists → length empty ≡ size K → ((v : ℕ) → total_of empty v ≡ None) →
      Takes (Beyond (leaving lists source) 0) empty [] totals queue → IsUnderWay K source totals queue
  started lists empty totals queue links long none t =
      let fresh : (v x : ℕ) → total_of totals v ≡ Some x → Beyond (leaving lists source) 0 v x × Waits queue v x = λ v x is.
      ⊎_elim (λ h. absurd (let no : None ≡ Some x = sym (none v) ∙ h in cc)) (λ h. h) (t.fresh v x is) in
      record {
        long = t.long ∙ long;
        chains = λ v x is.
            let b = (fresh v x is).0 in
            let same : x ≡ 0 + b.0 = b.2 in
            let e : b.0 ≡ x = omega arith in
            subst (λ z. Chain K source v z) e (one (links.sound source v b.0 b.1));
        first = λ v d l. t.taken v d (d, links.complete source v d l, (let e : d ≡ 0 + d = omega arith in e));
        next = λ u x v d is l. inl (fresh u x is).1;
        nodes = λ v x w. ⊎_elim {C = v < size K} (λ h. absurd (none_waits v x h)) (λ h. subst (λ n. v < n) long h) (t.nodes v x w);
      }

  pub permuted : (totals : List (Option ℕ)) (queue queue' : List (Reverse Reached)) → IsPermutation queue queue' → IsUnderWay K source totals queue → IsUnderWay K source totals queue'
  permuted totals queue queue' p s = record {
    long = s.long;
    chains = s.chains;
    first = s.first;
    next = λ u x v d is l. ⊎_elim (λ w. inl (Contains-permutation queue queue' (waiting (record { total = x; node = u })) p w)) (λ h. inr h) (s.next u x v d is l);
    nodes = λ v x w. s.nodes v x (Contains-permutation queue' queue (waiting (record { total = x; node = v })) (IsPermutation-sym queue queue' p) w);
  }

  module _ (r : Reached) (totals : List (Option ℕ)) (queue : List (Reverse Reached)) where
    -- what waited is what came out, or waits still
    came_out : (v y : ℕ) → Waits (waiting r ∷ queue) v y → ((v ≡ r.node) × (y ≡ r.total)) ⊎ Waits queue v y
    came_out v y w =
        let q : Reverse Reached = waiting (record { total = y; node = v }) in
        ⊎_elim
        (λ c. ⊎_elim {C = ((v ≡ r.node) × (y ≡ r.total)) ⊎ Waits queue v y} (λ z. absurd (let less : z.0 < 0 = z.1 in omega arith)) (λ (e : waiting r ≡ q). inl (ap (λ (p : Reverse Reached). p.0.node) (sym e), ap (λ (p : Reverse Reached). p.0.total) (sym e))) (Contains-push_cases [] (waiting r) q c))
        (λ c. inr c)
        (Contains-append_cases (waiting r ∷ []) queue q w)

    out_within : IsUnderWay K source totals (waiting r ∷ queue) → r.node < size K
    out_within s = s.nodes r.node r.total (Contains-append_left (waiting r ∷ []) queue (waiting r) (Contains-push [] (waiting r)))

    -- its links were followed, unless a lesser total was found since
    pub gone_on : (lists : List (List Link)) (totals' : List (Option ℕ)) (queue' : List (Reverse Reached)) → HasLinks (size K) (Links K) lists →
        Takes (Due totals (leaving lists r.node) r) totals queue totals' queue' → IsUnderWay K source totals (waiting r ∷ queue) → IsUnderWay K source totals' queue'
    gone_on lists totals' queue' links t s = record {
      long = t.long ∙ s.long;
      chains = λ v y e. ⊎_elim
          (λ h. s.chains v y h)
          (λ h. let b = h.0.1 in subst (λ z. Chain K source v z) (sym b.2) (extended K r.node v b.0 (links.sound r.node v b.0 b.1) source r.total (s.chains r.node r.total h.0.0)))
          (t.fresh v y e);
      first = λ v d l. t.falls v d (s.first v d l);
      next = λ v y w d e l. ⊎_elim
          (λ h. ⊎_elim
          (λ c. ⊎_elim
          (λ z.
          let here : total_of totals r.node ≡ Some r.total = subst (λ x. total_of totals r.node ≡ Some x) z.1 (subst (λ n. total_of totals n ≡ Some y) z.0 h) in
          let leads : Links K r.node w d = subst (λ n. Links K n w d) z.0 l in
          inr (t.taken w (y + d) (here, (d, links.complete r.node w d leads, ap (λ n. n + d) z.1))))
          (λ k. inl (t.kept v y k))
          (came_out v y c))
          (λ k. inr (t.falls w (y + d) k))
          (s.next v y w d h l))
          (λ h. inl h.1)
          (t.fresh v y e);
      nodes = λ v y w. ⊎_elim (λ h. s.nodes v y (Contains-append_right (waiting r ∷ []) queue (waiting (record { total = y; node = v })) h)) (λ h. subst (λ n. v < n) s.long h) (t.nodes v y w);
    }

  pub popped_within : (q : Reverse Reached) (totals : List (Option ℕ)) (queue queue' : List (Reverse Reached)) → IsPermutation queue (q ∷ queue') → IsUnderWay K source totals queue → q.0.node < size K
  popped_within q totals queue queue' p s = out_within q.0 totals queue' (permuted totals queue (q ∷ queue') p s)

  -- no node waits: each chain ends at a node with at most its total
  along : (totals : List (Option ℕ)) → IsUnderWay K source totals [] → (u w e : ℕ) → Chain K u w e → (x : ℕ) → total_of totals u ≡ Some x → x + e < 2 ^ 32 → Has totals w (x + e)
  along totals s u w e (one l) x is fits = ⊎_elim (λ h. absurd (none_waits u x h)) (λ h. h) (s.next u x w e is l)
  along totals s u w f (more {v = v} {d = d} {e = e} l c) x is fits =
      ⊎_elim
      (λ h. absurd (none_waits u x h))
      (λ h. ⊎_elim {C = Has totals w (x + (d + e))} (λ z. absurd (omega arith))
      (λ y.
      let few : y.0 ≤ x + d = y.2 in
      let rest : Has totals w (y.0 + e) = along totals s v w e c y.0 y.1 (omega arith) in
      ⊎_elim {C = Has totals w (x + (d + e))} (λ z. absurd (omega arith)) (λ z. let less : z.0 ≤ y.0 + e = z.2 in inr (z.0, z.1, omega arith)) rest)
      h)
      (s.next u x v d is l)

  ended : (totals : List (Option ℕ)) → IsUnderWay K source totals [] → (w e : ℕ) → Chain K source w e → e < 2 ^ 32 → (y : ℕ) × (total_of totals w ≡ Some y) × (y ≤ e)
  ended totals s w e (one l) fits = ⊎_elim (λ z. absurd (omega arith)) (λ y. y) (s.first w e l)
  ended totals s w f (more {v = v} {d = d} {e = e} l c) fits =
      ⊎_elim
      (λ z. absurd (omega arith))
      (λ y.
      let few : y.0 ≤ d = y.2 in
      let rest : Has totals w (y.0 + e) = along totals s v w e c y.0 y.1 (omega arith) in
      ⊎_elim (λ z. absurd (omega arith)) (λ z. let less : z.0 ≤ y.0 + e = z.2 in (z.0, z.1, omega arith)) rest)
      (s.first v d l)

  best_at : (totals : List (Option ℕ)) → IsKernel K → IsUnderWay K source totals [] → (v : ℕ) (x : Option ℕ) → total_of totals v ≡ x → IsBest K source v x
  best_at totals good s v None is = λ e c.
      let f : IsShort K source v e = shortened K good source v e c in
      let y = ended totals s v f.0 f.1 f.3 in
      absurd (let no : None ≡ Some y.0 = sym is ∙ y.1 in cc)
  best_at totals good s v (Some x) is = record {
    chain = s.chains v x is;
    least = λ e c.
        let f : IsShort K source v e = shortened K good source v e c in
        let y = ended totals s v f.0 f.1 f.3 in
        let same : Some y.0 ≡ Some x = sym y.1 ∙ is in
        let yx : y.0 ≡ x = cc in
        let few : y.0 ≤ f.0 = y.2 in
        let less : f.0 ≤ e = f.2 in
        omega arith;
  }

  pub found : (totals : List (Option ℕ)) → IsKernel K → IsUnderWay K source totals [] → IsRow K source totals
  found totals good s = record { long = s.long; best = λ v h. best_at totals good s v (total_of totals v) refl }

-- the list of links that was read
pub read_list : (lists : List (List Link)) (u : ℕ) (list read : List Link) → u < length lists → read ≡ get_or lists u read → list ≡ read → list ≡ leaving lists u
read_list lists u list read h is e = e ∙ get_or_read_under lists u (length lists) read [] is h refl

pub ends_within : (K : Kernel) → IsKernel K → (lists : List (List Link)) → HasLinks (size K) (Links K) lists → (u n : ℕ) (list : List Link) → list ≡ leaving lists u → n ≡ size K → All (λ (k : Link). k.to < n) list
ends_within K good lists links u n list e en = λ k d h.
    let l : Link = get_or list k d in
    let has : Contains (leaving lists u) l = subst (λ (xs : List Link). Contains xs l) e (Contains-get_or list k d h) in
    let within : l.to < size K = (link_nodes K good u l.to l.distance (links.sound u l.to l.distance has)).1 in
    omega arith

-- totals as they are written back into the `Vec` that was lent
pub written_back : (n : ℕ) (items new : List (Option ℕ)) → n ≡ length items → length new ≡ length items → take n (new ++ drop (length new) items) ≡ new
written_back n items new e long = let m : n ≡ length new = omega arith in rw m (take-append_seam new (drop (length new) items))

pub empty_long : (K : Kernel) (nodes : List Node) (items lent : List (Option ℕ)) → nodes ≡ K.nodes → items ≡ replicate (length nodes) None → lent ≡ items → length lent ≡ size K
empty_long K nodes items lent en e el = ap (λ (xs : List (Option ℕ)). length xs) (el ∙ e) ∙ length-replicate (length nodes) None ∙ ap (λ (xs : List Node). length xs) en
