-- The moves of a flow: forwards over each link, backwards over those with a flow.
use Rattle.std.proofs.Common.{◌≡◌, ℕ, zero, suc, ◌+◌, ◌*◌, ◌^◌, ◌<◌, ◌≤◌, List, [], ◌∷◌, ◌++◌, length, get_or, Some, None, refl, sym, ap, ◌∙◌, subst, arith, inl, inr, ⊎_elim}
use Rattle.std.specs.Prelude.{◌⊎◌, slice_get, slice_index}
use Rattle.std.proofs.lemmas.Bool.{cases_lt}
use Rattle.std.proofs.lemmas.List.{get_or_append_left, get_or_push, length_push}
use Rattle.std.proofs.lemmas.Option.{slice_get-get_or, slice_get_within, get_or_from_slice_get}
use Rattle.cg_recur.specs.declared.edge.Edge.{Edge}
use Rattle.cg_recur.specs.Chain.{IsTight as AreTight}
use Rattle.cg_recur.specs.Log.{IsWithin}
use Rattle.cg_bound_flow.specs.declared.network.Link.{Link}
use Rattle.cg_bound_flow.specs.Network.{link, AreKept}

-- ---- lists of given numbers

pub listed : (n : ℕ) (f : ℕ → ℕ) → (xs : List ℕ) × (length xs ≡ n) × ((k : ℕ) → k < n → slice_index xs k ≡ f k)
listed zero f = ([], refl, λ k l. absurd (omega arith))
listed (suc n) f =
    let (xs, len, at) = listed n f in
    let long = length_push xs (f n) in (
      xs ++ f n ∷ [],
      omega arith,
      λ k l.
          ⊎_elim
          (λ (h : k < n). get_or_append_left xs (f n ∷ []) 0 k (omega arith) ∙ at k h)
          (λ h. let q : n ≡ k = omega arith in get_or_push xs (f n) 0 k (len ∙ q) ∙ ap f q)
          (cases_lt k n),
    )

-- ---- lists of edges that grow

no_edge : Edge
no_edge = record { source = 0; target = 0; latency = 0; distance = 0 }

-- an edge stands in a list
abbrev pub IsIn : List Edge → Edge → Type 0
IsIn es e = (x : ℕ) × (slice_get es x ≡ Some e)

abbrev pub Each : (Edge → Type 0) → List Edge → Type 0
Each P es = (x : ℕ) (e : Edge) → slice_get es x ≡ Some e → P e

record Grows (P : Edge → Type 0) (es : List Edge) (a : Edge) (es' : List Edge) : Type 0 where
  pub each : Each P es'
  pub kept : (e : Edge) → IsIn es e → IsIn es' e
  pub has : IsIn es' a

grown : (P : Edge → Type 0) (es : List Edge) (a : Edge) → Each P es → P a → Grows P es a (es ++ a ∷ [])
grown P es a each p =
    let long = length_push es a in
    record {
      each = λ x e is.
          let l = slice_get_within (es ++ a ∷ []) x e is in
          let here : get_or (es ++ a ∷ []) x no_edge ≡ e = get_or_from_slice_get (es ++ a ∷ []) x e no_edge is in
          ⊎_elim
          (λ (h : x < length es). each x e (slice_get-get_or es x no_edge h ∙ ap (λ z. Some z) (sym (get_or_append_left es (a ∷ []) no_edge x h) ∙ here)))
          (λ h. let q : length es ≡ x = omega arith in subst P (sym (get_or_push es a no_edge x q) ∙ here) p)
          (cases_lt x (length es));
      kept = λ e (x, is).
          let l = slice_get_within es x e is in
          (x, slice_get-get_or (es ++ a ∷ []) x no_edge (omega arith) ∙ ap (λ z. Some z) (get_or_append_left es (a ∷ []) no_edge x l ∙ get_or_from_slice_get es x e no_edge is));
      has = (length es, slice_get-get_or (es ++ a ∷ []) (length es) no_edge (omega arith) ∙ ap (λ z. Some z) (get_or_push es a no_edge (length es) refl));
    }

-- ---- moves

abbrev pub forth : Link → Edge
forth l = record { source = l.from; target = l.to; latency = l.gain; distance = l.loss }

abbrev pub back : Link → Edge
back l = record { source = l.to; target = l.from; latency = l.loss; distance = l.gain }

-- links between n places, with gains and losses of less than 16 bits
abbrev pub AreShort : List Link → ℕ → Type 0
AreShort links n = (k : ℕ) → k < length links → ((link links k).from < n) × ((link links k).to < n) × ((link links k).gain < 2 ^ 16) × ((link links k).loss < 2 ^ 16)

module _ (links : List Link) (flow : List ℕ) where
  abbrev pub IsForth : Edge → Type 0
  IsForth e = (k : ℕ) × (k < length links) × (e ≡ forth (link links k))

  abbrev pub IsBack : Edge → Type 0
  IsBack e = (k : ℕ) × (k < length links) × (0 < slice_index flow k) × (e ≡ back (link links k))

  abbrev pub IsMove : Edge → Type 0
  IsMove e = IsForth e ⊎ IsBack e

  pub record HasMoves (count : ℕ) (es : List Edge) : Type 0 where
    pub each : Each IsMove es
    pub forwards : (k : ℕ) → k < count → IsIn es (forth (link links k))
    pub backwards : (k : ℕ) → k < count → 0 < slice_index flow k → IsIn es (back (link links k))

  more : (k : ℕ) (es es' : List Edge) → HasMoves k es → Each IsMove es' → ((e : Edge) → IsIn es e → IsIn es' e) → IsIn es' (forth (link links k)) → (0 < slice_index flow k → IsIn es' (back (link links k))) → HasMoves (suc k) es'
  more k es es' old each kept f b =
      record {
        each = each;
        forwards = λ j l. ⊎_elim (λ (h : j < k). kept _ (old.forwards j h)) (λ h. let q : k ≡ j = omega arith in subst (λ i. IsIn es' (forth (link links i))) q f) (cases_lt j k);
        backwards = λ j l p. ⊎_elim (λ (h : j < k). kept _ (old.backwards j h p)) (λ h. let q : k ≡ j = omega arith in subst (λ i. IsIn es' (back (link links i))) q (b (subst (λ i. 0 < slice_index flow i) (sym q) p))) (cases_lt j k);
      }

  moves : (k : ℕ) → k ≤ length links → (es : List Edge) × HasMoves k es
  moves zero l = ([], record { each = λ x e is. let bad : None ≡ Some e = is in absurd (cc); forwards = λ k m. absurd (omega arith); backwards = λ k m. absurd (omega arith) })
  moves (suc k) l =
      let (es, old) = moves k (omega arith) in
      let g = grown IsMove es (forth (link links k)) old.each (inl (k, omega arith, refl)) in
      ⊎_elim
      (λ (p : 0 < slice_index flow k).
      let h = grown IsMove (es ++ forth (link links k) ∷ []) (back (link links k)) g.each (inr (k, omega arith, p, refl)) in (
        (es ++ forth (link links k) ∷ []) ++ back (link links k) ∷ [],
        more k es _ old h.each (λ e is. h.kept e (g.kept e is)) (h.kept _ g.has) (λ q. h.has),
      ))
      (λ (z : slice_index flow k ≤ 0). (es ++ forth (link links k) ∷ [], more k es _ old g.each g.kept g.has (λ p. absurd (omega arith))))
      (cases_lt 0 (slice_index flow k))

  pub residual : (es : List Edge) × HasMoves (length links) es
  residual = moves (length links) (omega arith)

  -- its edges are within n places
  pub all_within : (n : ℕ) (es : List Edge) → HasMoves (length links) es → AreShort links n → IsWithin es n
  all_within n es m short x e is =
      ⊎_elim
      (λ (k, l, q). let (f, t, g, d) = short k l in subst (λ (z : Edge). (z.source < n) × (z.target < n) × (z.latency < 2 ^ 16)) (sym q) (f, t, g))
      (λ (k, l, p, q). let (f, t, g, d) = short k l in subst (λ (z : Edge). (z.source < n) × (z.target < n) × (z.latency < 2 ^ 16)) (sym q) (t, f, d))
      (m.each x e is)

  -- times that keep all moves keep all links, and those with a flow are tight
  pub all_kept : (n : ℕ) (es : List Edge) (time : ℕ → ℕ) (at : List ℕ) → HasMoves (length links) es → AreTight (slice_get es) 1 time → AreShort links n → ((x : ℕ) → x < n → slice_index at x ≡ time x) → AreKept links (length links) flow at
  all_kept n es time at m tight short same k l =
      let (x, is) = m.forwards k l in
      let (f, t, gain, loss) = short k l in
      let h : time (link links k).from + (link links k).gain ≤ time (link links k).to + 1 * (link links k).loss = tight x (forth (link links k)) is in
      let a = same (link links k).from f in
      let b = same (link links k).to t in (
        omega arith,
        λ p.
            let (y, ys) = m.backwards k l p in
            let g : time (link links k).to + (link links k).loss ≤ time (link links k).from + 1 * (link links k).gain = tight y (back (link links k)) ys in
            omega arith,
      )
