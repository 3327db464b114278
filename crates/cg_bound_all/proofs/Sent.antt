-- Flow that is sent along moves.
use Rattle.std.proofs.Common.{◌≡◌, ℕ, suc, ◌+◌, ◌-◌, ◌*◌, ◌<◌, List, [], ◌∷◌, length, set, eqb, Some, refl, sym, ap, ◌∙◌, subst, arith, inl, inr, ⊎_elim}
use Rattle.std.specs.Prelude.{slice_get, slice_index}
use Rattle.std.proofs.lemmas.Bool.{cases_eq}
use Rattle.std.proofs.lemmas.List.{get_or-set_same, get_or-set_other, length-set}
use Rattle.cg_recur.specs.declared.edge.Edge.{Edge}
use Rattle.cg_recur.specs.Chain.{Goes, latencies, distances, latency_of, distance_of, source_of}
use Rattle.cg_bound_registers.specs.Pressure.{one_if}
use Rattle.cg_bound_flow.proofs.Pushes.{total_set}
use Rattle.cg_bound_flow.specs.declared.network.Link.{Link}
use Rattle.cg_bound_flow.specs.Network.{link}
use Rattle.cg_bound_flow.specs.Push.{gather, into, out_of}
use Rattle.cg_bound_all.proofs.Residual.{IsMove}

-- one more goes from place a to place b, which gains the latencies less the distances
pub record IsSent (links : List Link) (flow flow' : List ℕ) (a b latency distance : ℕ) : Type 0 where
  pub each : length flow' ≡ length flow
  pub balanced : (x : ℕ) → into links flow' x + out_of links flow x + one_if (eqb a x) ≡ into links flow x + out_of links flow' x + one_if (eqb b x)
  pub gained : gather links flow' (λ l. l.gain) + gather links flow (λ l. l.loss) + distance ≡ gather links flow (λ l. l.gain) + gather links flow' (λ l. l.loss) + latency

module _ (links : List Link) where
  pub sent_none : (flow : List ℕ) (a b : ℕ) → a ≡ b → IsSent links flow flow a b 0 0
  sent_none flow a b e = record { each = refl; balanced = λ x. let q = ap (λ z. one_if (eqb z x)) e in omega arith; gained = omega arith }

  pub sent_twice : (f g h : List ℕ) (a b c l m d e : ℕ) → IsSent links f g a b l d → IsSent links g h b c m e → IsSent links f h a c (l + m) (d + e)
  sent_twice f g h a b c l m d e s t =
      record {
        each = t.each ∙ s.each;
        balanced = λ x. let p = s.balanced x in let q = t.balanced x in omega arith;
        gained = let p = s.gained in let q = t.gained in omega arith;
      }

  module _ (flow : List ℕ) (each : length flow ≡ length links) where
    pub sent_forth : (k : ℕ) → k < length links → IsSent links flow (set flow k (slice_index flow k + 1)) (link links k).from (link links k).to (link links k).gain (link links k).loss
    sent_forth k l =
        let changed : (f : Link → ℕ) → gather links (set flow k (slice_index flow k + 1)) f ≡ gather links flow f + f (link links k) =
        λ f. let h = total_set (length links) (λ j. f (link links j)) flow k (slice_index flow k + 1) l (omega arith) in omega arith
        in
        record {
          each = length-set flow k (slice_index flow k + 1);
          balanced = λ x. let a = changed (λ l. one_if (eqb l.to x)) in let b = changed (λ l. one_if (eqb l.from x)) in omega arith;
          gained = let a = changed (λ l. l.gain) in let b = changed (λ l. l.loss) in omega arith;
        }

    pub sent_back : (k : ℕ) → k < length links → 0 < slice_index flow k → IsSent links flow (set flow k (slice_index flow k - 1)) (link links k).to (link links k).from (link links k).loss (link links k).gain
    sent_back k l p =
        let whole : slice_index flow k ≡ slice_index flow k - 1 + 1 = omega arith in
        let changed : (f : Link → ℕ) → gather links (set flow k (slice_index flow k - 1)) f + f (link links k) ≡ gather links flow f =
        λ f. let h = total_set (length links) (λ j. f (link links j)) flow k (slice_index flow k - 1) l (omega arith) in let q = ap (λ z. z * f (link links k)) whole in omega arith
        in
        record {
          each = length-set flow k (slice_index flow k - 1);
          balanced = λ x. let a = changed (λ l. one_if (eqb l.to x)) in let b = changed (λ l. one_if (eqb l.from x)) in omega arith;
          gained = let a = changed (λ l. l.gain) in let b = changed (λ l. l.loss) in omega arith;
        }

    -- over one move; moves from other places stay moves
    abbrev Sent : Edge → Type 0
    Sent e = (flow' : List ℕ) × IsSent links flow flow' e.source e.target e.latency e.distance × ((f : Edge) → IsMove links flow f → (e.source ≡ f.source → ⊥) → IsMove links flow' f)

    sent_move : (e : Edge) → IsMove links flow e → Sent e
    sent_move e m =
        ⊎_elim
        (λ (k, l, q). subst Sent (sym q) (set flow k (slice_index flow k + 1), sent_forth k l, λ f n ne. ⊎_elim (λ a. inl a) (λ (j, i, p, s). inr (j, i, more k j l p, s)) n))
        (λ (k, l, p, q). subst Sent (sym q) (
          set flow k (slice_index flow k - 1),
          sent_back k l p,
          λ f n ne. ⊎_elim (λ a. inl a) (λ (j, i, o, s). inr (j, i, subst (λ z. 0 < z) (sym (get_or-set_other flow k j (slice_index flow k - 1) 0 (λ r. ne (ap (λ x. (link links x).to) (sym r) ∙ sym (ap (λ (z : Edge). z.source) s))))) o, s)) n,
        ))
        m
      where
        more : (k j : ℕ) → k < length links → 0 < slice_index flow j → 0 < slice_index (set flow k (slice_index flow k + 1)) j
        more k j l p =
            ⊎_elim
            (λ (r : j ≡ k). let a = ap (slice_index (set flow k (slice_index flow k + 1))) r in let b = get_or-set_same flow k (slice_index flow k + 1) 0 (omega arith) in omega arith)
            (λ ne. let a = get_or-set_other flow k j (slice_index flow k + 1) 0 ne in omega arith)
            (cases_eq j k)

  -- along a chain that repeats no place
  module _ (es : List Edge) where
    abbrev Along : List ℕ → ℕ → ℕ → List ℕ → Type 0
    Along xs u v flow = (flow' : List ℕ) × IsSent links flow flow' u v (latencies (slice_get es) xs) (distances (slice_get es) xs)

    abbrev IsApart : List ℕ → Type 0
    IsApart xs = (i j x y : ℕ) → i < j → slice_get xs i ≡ Some x → slice_get xs j ≡ Some y → source_of (slice_get es x) ≡ source_of (slice_get es y) → ⊥

    abbrev AreMoves : List ℕ → List ℕ → Type 0
    AreMoves flow xs = (i x : ℕ) (e : Edge) → slice_get xs i ≡ Some x → slice_get es x ≡ Some e → IsMove links flow e

    pub sent_along : (xs : List ℕ) (u v : ℕ) (flow : List ℕ) → length flow ≡ length links → Goes (slice_get es) u xs v → IsApart xs → AreMoves flow xs → Along xs u v flow
    sent_along [] u v flow each g apart m = (flow, sent_none flow u v g)
    sent_along (x ∷ xs) u v flow each (e, is, s, rest) apart m =
        let (flow1, first, kept) = sent_move flow each e (m 0 x e refl is) in
        let (flow2, then) =
        sent_along xs e.target v flow1 (first.each ∙ each) rest (λ i j y z l a b. apart (suc i) (suc j) y z (omega arith) a b)
        (λ i y f a b. kept f (m (suc i) y f a b) (λ q. apart 0 (suc i) x y (omega arith) refl a (ap source_of is ∙ q ∙ sym (ap source_of b))))
        in
        let p : e.latency ≡ latency_of (slice_get es x) = sym (ap latency_of is) in
        let q : e.distance ≡ distance_of (slice_get es x) = sym (ap distance_of is) in
        let both = sent_twice flow flow1 flow2 e.source e.target v e.latency (latencies (slice_get es) xs) e.distance (distances (slice_get es) xs) first then in (
          flow2,
          subst (λ z. IsSent links flow flow2 z v (latency_of (slice_get es x) + latencies (slice_get es) xs) (distance_of (slice_get es x) + distances (slice_get es) xs)) s
              (subst (λ z. IsSent links flow flow2 e.source v (z + latencies (slice_get es) xs) (distance_of (slice_get es x) + distances (slice_get es) xs)) p
              (subst (λ z. IsSent links flow flow2 e.source v (e.latency + latencies (slice_get es) xs) (z + distances (slice_get es) xs)) q both)),
        )
