-- Flow that is sent along steps, one link after another.
use Rattle.std.proofs.Common.{◌≡◌, ℕ, zero, suc, ◌+◌, ◌-◌, ◌*◌, ◌<◌, ◌≤◌, List, length, set, get_or, eqb, true, false, refl, sym, ap, ◌∙◌, subst, arith, inl, inr, ⊎_elim}
use Rattle.std.specs.Prelude.{◌⊎◌, slice_index}
use Rattle.std.proofs.lemmas.Bool.{cases_eq}
use Rattle.std.proofs.lemmas.List.{get_or-set_same, get_or-set_other, length-set}
use Rattle.cg_bound_registers.specs.Pressure.{total, one_if}
use Rattle.cg_bound_registers.proofs.Totals.{total_same}
use Rattle.cg_bound_flow.specs.declared.network.Link.{Link}
use Rattle.cg_bound_flow.specs.declared.reach.Step.{Step}
use Rattle.cg_bound_flow.specs.Network.{link, IsTight}
use Rattle.cg_bound_flow.specs.Reach.{step, no_step, IsMove, IsLog}
use Rattle.cg_bound_flow.proofs.Logs.{read}
use Rattle.cg_bound_flow.specs.Push.{gather, into, out_of, IsPushed, IsPushing}

-- a sum of products in which one number is another
pub total_set : (n : ℕ) (f : ℕ → ℕ) (xs : List ℕ) (m y : ℕ) → m < n → m < length xs → total n (λ k. slice_index (set xs m y) k * f k) + slice_index xs m * f m ≡ total n (λ k. slice_index xs k * f k) + y * f m
total_set zero f xs m y l h = absurd (omega arith)
total_set (suc n) f xs m y l h =
    ⊎_elim
    (λ (e : m ≡ n).
    let a : total n (λ k. slice_index (set xs m y) k * f k) ≡ total n (λ k. slice_index xs k * f k) = total_same n _ _ (λ k b. ap (λ z. z * f k) (get_or-set_other xs m k y 0 (λ q. omega arith))) in
    let b : slice_index (set xs m y) n * f n ≡ y * f n = ap (λ z. z * f n) (ap (λ j. slice_index (set xs m y) j) (sym e) ∙ get_or-set_same xs m y 0 h) in
    let c : slice_index xs m * f m ≡ slice_index xs n * f n = ap (λ j. slice_index xs j * f j) e in
    let d : y * f m ≡ y * f n = ap (λ j. y * f j) e in
    omega arith)
    (λ ne.
    let a = total_set n f xs m y (omega (arith, ne)) h in
    let b : slice_index (set xs m y) n * f n ≡ slice_index xs n * f n = ap (λ z. z * f n) (get_or-set_other xs m n y 0 (λ q. ne (sym q))) in
    omega arith)
    (cases_eq m n)

module _ (links : List Link) (flow at : List ℕ) (steps : List Step) (order : List ℕ) (log : IsLog links flow at steps order) where
  same_place : (i j : ℕ) → i < length steps → j < length steps → (step steps i).place ≡ (step steps j).place → i ≡ j
  same_place i j l m e = let a = log.marks i l in let b = log.marks j m in let c = ap (slice_index order) e in omega arith

  -- no two steps go over one link
  links_apart : (i j : ℕ) → 0 < i → i < j → j < length steps → (step steps i).link ≡ (step steps j).link → ⊥
  links_apart i j p l m e =
      let v = log.moves i p (omega arith) in
      let w = log.moves j (omega arith) m in
      let f = v.earlier in
      let to = ap (λ k. (link links k).to) e in
      let from = ap (λ k. (link links k).from) e in
      ⊎_elim
      (λ (a, b, c).
      ⊎_elim (λ (a', b', c'). let q = same_place i j (omega arith) m (sym c ∙ to ∙ c') in omega arith)
      (λ (a', b', c', d'). let q = same_place (step steps i).before j (omega arith) m (sym b ∙ from ∙ c') in omega arith)
      w.ends)
      (λ (a, b, c, d).
      ⊎_elim (λ (a', b', c'). let q = same_place (step steps i).before j (omega arith) m (sym b ∙ to ∙ c') in omega arith)
      (λ (a', b', c', d'). let q = same_place i j (omega arith) m (sym c ∙ from ∙ c') in omega arith)
      w.ends)
      v.ends

  module _ (goal by i : ℕ) (flow' : List ℕ) (each : length flow ≡ length links) (now : IsPushing links at flow steps i goal by flow') (some : 0 < i) where
    abbrev s : Step
    s = step steps i

    move : IsMove links flow at steps i s
    move = log.moves i some now.inside

    pub inside_now : s.link < length flow'
    inside_now = let a = move.known in let b = now.pushed.each in omega (arith, each)

    pub still : slice_index flow' s.link ≡ slice_index flow s.link
    still = now.rest i some (omega arith)

    -- another flow on its link, which is balanced and small
    written : (y : ℕ) → ((x : ℕ) → into links (set flow' s.link y) x + out_of links flow x + by * one_if (eqb (step steps s.before).place x) ≡ into links flow x + out_of links (set flow' s.link y) x + by * one_if (eqb goal x)) →
        y ≤ slice_index flow s.link + by → IsPushing links at flow steps s.before goal by (set flow' s.link y)
    written y balanced small =
        let e = move.earlier in
        let h = now.inside in
        record {
          inside = omega arith;
          pushed = record {
            each = length-set flow' s.link y ∙ now.pushed.each;
            balanced = balanced;
            tight = λ k l. ⊎_elim (λ (q : k ≡ s.link). inr (subst (λ j. IsTight at (link links j)) (sym q) move.tight))
                (λ ne. ⊎_elim (λ a. inl (get_or-set_other flow' s.link k y 0 ne ∙ a)) (λ b. inr b) (now.pushed.tight k l)) (cases_eq k s.link);
            small = λ k. ⊎_elim (λ (q : k ≡ s.link). let a = ap (slice_index flow) q in let b = ap (λ j. slice_index (set flow' s.link y) j) q in let c = get_or-set_same flow' s.link y 0 inside_now in omega (arith, small))
                (λ ne. let a = get_or-set_other flow' s.link k y 0 ne in let b = now.pushed.small k in omega arith) (cases_eq k s.link);
          };
          rest = λ j p l. get_or-set_other flow' s.link (step steps j).link y 0 (λ q. links_apart j i p (omega arith) h q) ∙ now.rest j p (omega arith);
        }

    changed : (y x : ℕ) (end : Link → ℕ) → gather links (set flow' s.link y) (λ l. one_if (eqb (end l) x)) + slice_index flow' s.link * one_if (eqb (end (link links s.link)) x)
        ≡ gather links flow' (λ l. one_if (eqb (end l) x)) + y * one_if (eqb (end (link links s.link)) x)
    changed y x end = total_set (length links) (λ k. one_if (eqb (end (link links k)) x)) flow' s.link y move.known inside_now

    pub pushed_forth : s.back ≡ false → IsPushing links at flow steps s.before goal by (set flow' s.link (slice_index flow' s.link + by))
    pushed_forth q =
        ⊎_elim
        (λ (a, b, c).
        written (slice_index flow' s.link + by)
        (λ x.
        let t = changed (slice_index flow' s.link + by) x (λ l. l.to) in
        let f = changed (slice_index flow' s.link + by) x (λ l. l.from) in
        let h = now.pushed.balanced x in
        let b' = ap (λ z. by * one_if (eqb z x)) b in
        let c' = ap (λ z. by * one_if (eqb z x)) c in
        omega arith)
        (let z = still in omega arith))
        (λ (a, b, c, d). let z : true ≡ false = sym a ∙ q in absurd (cc))
        move.ends

    pub pushed_back : s.back ≡ true → by ≤ slice_index flow' s.link → IsPushing links at flow steps s.before goal by (set flow' s.link (slice_index flow' s.link - by))
    pushed_back q enough =
        ⊎_elim
        (λ (a, b, c). let z : true ≡ false = sym q ∙ a in absurd (cc))
        (λ (a, b, c, d).
        written (slice_index flow' s.link - by)
        (λ x.
        let y = slice_index flow' s.link - by in
        let whole : slice_index flow' s.link ≡ y + by = omega (arith, enough) in
        let t = changed y x (λ l. l.to) in
        let f = changed y x (λ l. l.from) in
        let t' = ap (λ z. z * one_if (eqb (link links s.link).to x)) whole in
        let f' = ap (λ z. z * one_if (eqb (link links s.link).from x)) whole in
        let h = now.pushed.balanced x in
        let b' = ap (λ z. by * one_if (eqb z x)) b in
        let c' = ap (λ z. by * one_if (eqb z x)) c in
        omega arith)
        (let z = still in omega arith))
        move.ends

  pub pushing_begins : (goal by : ℕ) → 0 < slice_index order goal → IsPushing links at flow steps (slice_index order goal - 1) goal by flow
  pushing_begins goal by h =
      let (i, l, m, p) = log.marked goal h in
      let e : i ≡ slice_index order goal - 1 = omega arith in
      subst (λ j. IsPushing links at flow steps j goal by flow) e
      (record {
        inside = l;
        pushed = record {
          each = refl;
          balanced = λ x. let q = ap (λ z. by * one_if (eqb z x)) p in omega arith;
          tight = λ k l. inl refl;
          small = λ k. omega arith;
        };
        rest = λ j p l. refl;
      })

  -- there is enough flow to take back
  pub is_enough : (goal by i : ℕ) (flow' : List ℕ) → length flow ≡ length links → IsPushing links at flow steps i goal by flow' → 0 < i → (step steps i).back ≡ true → ((k : ℕ) → 0 < slice_index flow k → by ≤ slice_index flow k) →
      by ≤ slice_index flow' (step steps i).link
  is_enough goal by i flow' each now some q enough =
      ⊎_elim
      (λ (a, b, c). let z : true ≡ false = sym q ∙ a in absurd (cc))
      (λ (a, b, c, d). let e = enough (step steps i).link d in let f = still goal by i flow' each now some in omega arith)
      (log.moves i some now.inside).ends

  -- as the code reads them
  pub forth_as : (goal by i : ℕ) (flow' : List ℕ) (t : Step) (z : ℕ) → length flow ≡ length links → IsPushing links at flow steps i goal by flow' → 0 < i → t ≡ get_or steps i t → t.back ≡ false → z ≡ get_or flow' t.link z →
      IsPushing links at flow steps t.before goal by (set flow' t.link (z + by))
  forth_as goal by i flow' t z each now some r q y =
      let e : step steps i ≡ t = sym (read steps i t no_step now.inside r) in
      let l : t.link < length flow' = subst (λ (u : Step). u.link < length flow') e (inside_now goal by i flow' each now some) in
      let w = read flow' t.link z 0 l y in
      subst (λ j. IsPushing links at flow steps t.before goal by (set flow' t.link (j + by))) (sym w)
      (subst (λ (u : Step). IsPushing links at flow steps u.before goal by (set flow' u.link (slice_index flow' u.link + by))) e (pushed_forth goal by i flow' each now some (ap (λ (u : Step). u.back) e ∙ q)))

  pub back_as : (goal by i : ℕ) (flow' : List ℕ) (t : Step) (z : ℕ) → length flow ≡ length links → IsPushing links at flow steps i goal by flow' → 0 < i → t ≡ get_or steps i t → t.back ≡ true → z ≡ get_or flow' t.link z →
      ((k : ℕ) → 0 < slice_index flow k → by ≤ slice_index flow k) → IsPushing links at flow steps t.before goal by (set flow' t.link (z - by))
  back_as goal by i flow' t z each now some r q y enough =
      let e : step steps i ≡ t = sym (read steps i t no_step now.inside r) in
      let l : t.link < length flow' = subst (λ (u : Step). u.link < length flow') e (inside_now goal by i flow' each now some) in
      let w = read flow' t.link z 0 l y in
      subst (λ j. IsPushing links at flow steps t.before goal by (set flow' t.link (j - by))) (sym w)
      (subst (λ (u : Step). IsPushing links at flow steps u.before goal by (set flow' u.link (slice_index flow' u.link - by))) e
      (pushed_back goal by i flow' each now some (ap (λ (u : Step). u.back) e ∙ q) (is_enough goal by i flow' each now some (ap (λ (u : Step). u.back) e ∙ q) enough)))
