-- The part of the way back between two visits of a node is a closed chain that is too long.
use Rattle.std.proofs.Common.{◌≡◌, ℕ, zero, suc, ◌+◌, ◌-◌, ◌*◌, ◌<◌, ◌≤◌, List, [], ◌∷◌, ◌++◌, length, Some, refl, sym, ap, ◌∙◌, subst, arith, inl, inr, ⊎_elim, length-append, append_assoc}
use Rattle.std.specs.Prelude.{◌⊎◌, slice_get, slice_index}
use Rattle.std.proofs.lemmas.Bool.{cases_lt}
use Rattle.cg_recur.specs.declared.edge.Edge.{Edge}
use Rattle.cg_recur.specs.declared.moments.Step.{Step}
use Rattle.cg_recur.specs.Chain.{Goes, latencies, distances, latency_of, distance_of, source_of, IsCycle, IsShown}
use Rattle.cg_recur.specs.Log.{step, IsLog}
use Rattle.cg_recur.specs.Path.{moment, IsPath, IsRepeat, IsCut, edges_between}
use Rattle.cg_recur.specs.Numbered.{IsShownCycle}
use Rattle.cg_recur.proofs.Chains.{latencies-append, distances-append, Goes-append}

slice_get-append_cases : (xs ys : List ℕ) (p x : ℕ) → slice_get (xs ++ ys) p ≡ Some x → (slice_get xs p ≡ Some x) ⊎ ((q : ℕ) × (p ≡ length xs + q) × (slice_get ys q ≡ Some x))
slice_get-append_cases [] ys p x h = inr (p, omega arith, h)
slice_get-append_cases (y ∷ xs) ys zero x h = inl h
slice_get-append_cases (y ∷ xs) ys (suc p) x h = ⊎_elim (λ a. inl a) (λ (q, e, a). inr (q, omega arith, a)) (slice_get-append_cases xs ys p x h)

pub between_more : (log : List Step) (path : List ℕ) (low k : ℕ) → low < k → edges_between log path low (k - low) ≡ (moment log path (k - 1)).edge ∷ edges_between log path low (k - 1 - low)
between_more log path low k l =
    let e : k - low ≡ suc (k - 1 - low) = omega arith in
    let f : low + (k - 1 - low) ≡ k - 1 = omega arith in
    ap (edges_between log path low) e ∙ ap (λ z. (moment log path z).edge ∷ edges_between log path low (k - 1 - low)) f

pub push_more : (log : List Step) (path ids ids' all : List ℕ) (low k : ℕ) → low < k → ids ++ edges_between log path low (k - low) ≡ all → ids' ≡ ids ++ (moment log path (k - 1)).edge ∷ [] → ids' ++ edges_between log path low (k - 1 - low) ≡ all
push_more log path ids ids' all low k l h e =
    ap (λ z. z ++ edges_between log path low (k - 1 - low)) e ∙ append_assoc ids ((moment log path (k - 1)).edge ∷ []) (edges_between log path low (k - 1 - low)) ∙ sym (ap (λ z. ids ++ z) (between_more log path low k l)) ∙ h

module _ (es : List Edge) (ii n : ℕ) (log : List Step) (path : List ℕ) (p : IsPath es ii n log path) where
  pub between_length : (a k : ℕ) → length (edges_between log path a k) ≡ k
  between_length a zero = refl
  between_length a (suc k) = ap suc (between_length a k)

  before_is : (k : ℕ) → k + 1 < length path → step log (moment log path k).before ≡ moment log path (k + 1)
  before_is k l = ap (step log) (p.back k l)

  -- the edges between two moments lead from the later one's node to the earlier one's, and tell their times apart
  between : (a k : ℕ) → a + k < length path →
      Goes (slice_get es) (moment log path (a + k)).node (edges_between log path a k) (moment log path a).node
      × ((moment log path (a + k)).time + latencies (slice_get es) (edges_between log path a k) ≡ (moment log path a).time + ii * distances (slice_get es) (edges_between log path a k))
  between a zero l = let e : a + 0 ≡ a = omega arith in (ap (λ z. (moment log path z).node) e, let t = ap (λ z. (moment log path z).time) e in omega arith)
  between a (suc k) l =
      let e : a + suc k ≡ a + k + 1 = omega arith in
      let at = ap (moment log path) e in
      let f = p.follows (a + k) (omega arith) in
      let b = before_is (a + k) (omega arith) in
      let (g, t) = between a k (omega arith) in
      let s = f.sum in
      let bt = ap (λ z. z.time) b in
      let at' = ap (λ z. z.time) at in
      let lb = ap latency_of f.is in
      let db = ap distance_of f.is in
      let dd = ap (λ z. ii * z) db in
      ((f.by, f.is, f.source ∙ ap (λ z. z.node) b ∙ sym (ap (λ z. z.node) at), subst (λ z. Goes (slice_get es) z (edges_between log path a k) (moment log path a).node) (sym f.target) g), omega arith)

  -- the source of the edge at a place
  source_at : (a k q x : ℕ) → a + k < length path → slice_get (edges_between log path a k) q ≡ Some x → (m : ℕ) × (m + q ≡ a + k) × (a < m) × (source_of (slice_get es x) ≡ (moment log path m).node)
  source_at a zero q x l h = absurd (cc)
  source_at a (suc k) zero x l h =
      let f = p.follows (a + k) (omega arith) in
      let b = before_is (a + k) (omega arith) in
      let e : (moment log path (a + k)).edge ≡ x = cc in
      (a + k + 1, omega arith, omega arith, ap (λ z. source_of (slice_get es z)) (sym e) ∙ ap source_of f.is ∙ f.source ∙ ap (λ z. z.node) b)
  source_at a (suc k) (suc q) x l h = let (m, s, u, v) = source_at a k q x (omega arith) h in (m, omega arith, u, v)

  falls : (i d : ℕ) → i + suc d < length path → slice_index path (i + suc d) < slice_index path i
  falls i zero l =
      let f = (p.follows i (omega arith)).earlier in
      let b = p.back i (omega arith) in
      let e : i + 1 ≡ i + suc 0 = omega arith in
      let c = ap (slice_index path) e in
      omega arith
  falls i (suc d) l =
      let a = falls i d (omega arith) in
      let f = (p.follows (i + suc d) (omega arith)).earlier in
      let b = p.back (i + suc d) (omega arith) in
      let e : i + suc d + 1 ≡ i + suc (suc d) = omega arith in
      let c = ap (slice_index path) e in
      omega arith

  module _ (last : List ℕ) (good : IsLog es ii n log last) (a b c : ℕ) (r : IsRepeat log path a b) (cut : IsCut log path a b c) where
    abbrev part : List ℕ
    part = edges_between log path a (c - a) ++ edges_between log path c (b - c)

    -- times fall on the way back from a to b
    fell : (moment log path b).time < (moment log path a).time
    fell =
        let o = r.order in
        let w = r.within in
        let e : a + suc (b - a - 1) ≡ b = omega arith in
        let f = falls a (b - a - 1) (omega arith) in
        let g = ap (slice_index path) e in
        good.rising (slice_index path b) (slice_index path a) (omega arith) (p.known a (omega arith)) (sym r.same)

    is_cycle : IsCycle (slice_get es) ii part
    is_cycle =
        let o = r.order in
        let w = r.within in
        let u = cut.above in
        let v = cut.within in
        let e : a + (c - a) ≡ c = omega arith in
        let f : c + (b - c) ≡ b = omega arith in
        let (g, s) = between a (c - a) (omega arith) in
        let (h, t) = between c (b - c) (omega arith) in
        let g' = subst (λ z. Goes (slice_get es) (moment log path z).node (edges_between log path a (c - a)) (moment log path a).node) e g in
        let h' = subst (λ z. Goes (slice_get es) (moment log path z).node (edges_between log path c (b - c)) (moment log path c).node) f h in
        let h'' = subst (λ z. Goes (slice_get es) z (edges_between log path c (b - c)) (moment log path c).node) (sym r.same) h' in
        let la = latencies-append (slice_get es) (edges_between log path a (c - a)) (edges_between log path c (b - c)) in
        let da = distances-append (slice_get es) (edges_between log path a (c - a)) (edges_between log path c (b - c)) in
        let dd = ap (λ z. ii * z) da in
        let et = ap (λ z. (moment log path z).time) e in
        let ft = ap (λ z. (moment log path z).time) f in
        let x = fell in
        record {
          some = let i = between_length a (c - a) in let j = length-append (edges_between log path a (c - a)) (edges_between log path c (b - c)) in omega arith;
          closed = ((moment log path c).node, Goes-append (slice_get es) (moment log path c).node (moment log path a).node (moment log path c).node (edges_between log path a (c - a)) (edges_between log path c (b - c)) g' h'');
          long = omega arith;
        }

    -- where the edge at a place begins
    begins : (q x : ℕ) → slice_get part q ≡ Some x → (m : ℕ) × (a < m) × (m ≤ b) × (source_of (slice_get es x) ≡ (moment log path m).node) × ((m + q ≡ c) ⊎ ((m + q ≡ c - a + b) × (c < m)))
    begins q x h =
        let o = r.order in
        let w = r.within in
        let u = cut.above in
        let v = cut.within in
        ⊎_elim
        (λ i. let (m, s, t, z) = source_at a (c - a) q x (omega arith) i in (m, t, omega arith, z, inl (omega arith)))
        (λ (k, e, i). let (m, s, t, z) = source_at c (b - c) k x (omega arith) i in let len = between_length a (c - a) in (m, omega arith, omega arith, z, inr (omega arith, t)))
        (slice_get-append_cases (edges_between log path a (c - a)) (edges_between log path c (b - c)) q x h)

    apart_below : (m k : ℕ) → a < m → m < k → k ≤ b → (moment log path m).node ≡ (moment log path k).node → ⊥
    apart_below m k l o h e =
        ⊎_elim
        (λ (x : k < b). r.apart m k o x e)
        (λ x. let q : k ≡ b = omega arith in r.apart a m l (omega arith) (r.same ∙ sym (e ∙ ap (λ z. (moment log path z).node) q)))
        (cases_lt k b)

    one_place : (m k : ℕ) → a < m → m ≤ b → a < k → k ≤ b → (moment log path m).node ≡ (moment log path k).node → m ≡ k
    one_place m k l h l' h' e =
        ⊎_elim (λ x. absurd (apart_below m k l x h' e))
        (λ x. ⊎_elim (λ y. absurd (apart_below k m l' y h (sym e))) (λ y. omega arith) (cases_lt k m))
        (cases_lt m k)

    is_shown : IsShown (slice_get es) part
    is_shown =
        record {
          apart = λ i j x y l h k e.
              let (m, am, mb, s, w) = begins i x h in
              let (m', am', mb', s', w') = begins j y k in
              let q = one_place m m' am mb am' mb' (sym s ∙ e ∙ s') in
              ⊎_elim
              (λ u. ⊎_elim (λ u'. omega arith) (λ u'. let z = u'.0 in let z' = u'.1 in omega arith) w')
              (λ u. let z = u.0 in let z' = u.1 in ⊎_elim (λ u'. omega arith) (λ u'. let y = u'.0 in omega arith) w')
              w;
          least = λ j x y h k.
              let (m, am, mb, s, w) = begins 0 x h in
              let (m', am', mb', s', w') = begins j y k in
              let u = cut.above in
              let q : m ≡ c = ⊎_elim (λ z. omega arith) (λ z. let z' = z.0 in omega arith) w in
              let f = ap (λ z. (moment log path z).node) q in
              let g = cut.least m' am' mb' in
              omega arith;
        }

    pub shown_cycle : IsShownCycle es ii (edges_between log path a (c - a) ++ edges_between log path c (b - c))
    shown_cycle = (is_cycle, is_shown)

-- the code's lists are that part
pub shown_from : (es : List Edge) (ii n : ℕ) (log : List Step) (last : List ℕ) → IsLog es ii n log last → (path p1 p2 p3 p4 ids0 ids1 ids2 : List ℕ) (a b c : ℕ) → IsPath es ii n log path →
    p1 ≡ path → p2 ≡ path → p3 ≡ path → p4 ≡ path → IsRepeat log p1 a b → IsCut log p2 a b c → ids0 ≡ [] → ids1 ≡ ids0 ++ edges_between log p3 a (c - a) → ids2 ≡ ids1 ++ edges_between log p4 c (b - c) → IsShownCycle es ii ids2
shown_from es ii n log last good path p1 p2 p3 p4 ids0 ids1 ids2 a b c p e1 e2 e3 e4 r cut i0 i1 i2 =
    let h = shown_cycle es ii n log path p last good a b c (subst (λ z. IsRepeat log z a b) e1 r) (subst (λ z. IsCut log z a b c) e2 cut) in
    let k : ids2 ≡ edges_between log path a (c - a) ++ edges_between log path c (b - c) =
    i2 ∙ ap (λ z. z ++ edges_between log p4 c (b - c)) (i1 ∙ ap (λ z. z ++ edges_between log p3 a (c - a)) i0)
    ∙ ap (λ z. edges_between log z a (c - a) ++ edges_between log p4 c (b - c)) e3
    ∙ ap (λ z. edges_between log path a (c - a) ++ edges_between log z c (b - c)) e4
    in
    subst (IsShownCycle es ii) (sym k) h
