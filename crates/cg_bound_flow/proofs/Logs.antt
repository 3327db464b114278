-- Steps that are added to a log.
use Rattle.std.proofs.Common.{◌≡◌, ℕ, ◌+◌, ◌-◌, ◌<◌, ◌≤◌, List, [], ◌∷◌, ◌++◌, length, get_or, set, true, false, refl, sym, ap, ◌∙◌, subst, arith, inl, inr, ⊎_elim}
use Rattle.std.specs.Prelude.{slice_index, map}
use Rattle.std.proofs.Math.ListN.{length-map, get_or-append}
use Rattle.std.proofs.Math.Seq.{get_or-append_seam}
use Rattle.std.proofs.lemmas.List.{get_or_default, get_or-set_same, get_or-set_other, length-set, get_or-map, get_or_past}
use Rattle.std.proofs.lemmas.Bool.{cases_eq, cases_lt}
use Rattle.cg_model.proofs.Ranges.{pigeons}
use Rattle.cg_bound_flow.specs.declared.network.Link.{Link}
use Rattle.cg_bound_flow.specs.declared.reach.Step.{Step}
use Rattle.cg_bound_flow.specs.Network.{link, IsTight}
use Rattle.cg_bound_flow.specs.declared.chains.Chain.{Chain}
use Rattle.cg_bound_flow.specs.declared.chains.Incidence.{Incidence}
use Rattle.cg_bound_flow.specs.Chains.{IsLinked, IsIncidence, begin_of, end_of}
use Rattle.cg_bound_flow.specs.Reach.{step, no_step, IsMove, IsLog, IsDone, IsClosed, IsLonger, IsCrossed, IsVisited, IsFollowed, IsWorked, IsSpread}

-- what a place of a vector reads
pub read : {X : Type 0} (xs : List X) (i : ℕ) (v d : X) → i < length xs → v ≡ get_or xs i v → v ≡ get_or xs i d
read xs i v d l e = e ∙ get_or_default xs i v d l

length-one : (steps : List Step) (s : Step) → length (steps ++ (s ∷ [])) ≡ length steps + 1
length-one [] s = refl
length-one (x ∷ xs) s = let h = length-one xs s in omega arith

module _ (links : List Link) (flow at : List ℕ) where
  pub few_steps : (steps : List Step) (order : List ℕ) → IsLog links flow at steps order → length steps ≤ length at
  few_steps steps order good =
      let ps : List ℕ = map (λ (s : Step). s.place) steps in
      let same : length ps ≡ length steps = length-map steps (λ (s : Step). s.place) in
      let here : (i : ℕ) → i < length steps → slice_index ps i ≡ (step steps i).place = λ i l. get_or-map (λ (s : Step). s.place) steps i no_step 0 l in
      let e = good.each in
      let h = pigeons (length at) ps
      (λ i l. let a = here i (omega arith) in let m = good.marks i (omega arith) in inside order (step steps i).place (slice_index ps i) i (length at) a m e)
      (λ i j l m q. let a = here i (omega arith) in let b = here j (omega arith) in let c = good.marks i (omega arith) in let d = good.marks j (omega arith) in let f = ap (slice_index order) (sym a ∙ q ∙ b) in omega arith)
      in
      omega arith
    where
      inside : (order : List ℕ) (x y i n : ℕ) → y ≡ x → slice_index order x ≡ i + 1 → length order ≡ n → y < n
      inside order x y i n a m e = ⊎_elim (λ (l : x < length order). omega arith) (λ (l : length order ≤ x). let z = get_or_past order x 0 l in absurd (omega arith)) (cases_lt x (length order))

  -- the places of steps are places
  pub placed : (steps : List Step) (order : List ℕ) (i : ℕ) (s : Step) → IsLog links flow at steps order → i < length steps → s ≡ step steps i → s.place < length at
  placed steps order i s good l e =
      let m = good.marks i l in
      let q = ap (λ (z : Step). slice_index order z.place) e in
      let b = good.each in
      ⊎_elim (λ (h : s.place < length order). omega arith) (λ (h : length order ≤ s.place). let z = get_or_past order s.place 0 h in absurd (omega arith)) (cases_lt s.place (length order))

  -- one step more
  pub extended : (steps : List Step) (order : List ℕ) (s : Step) → IsLog links flow at steps order → IsMove links flow at steps (length steps) s → slice_index order s.place ≡ 0 → s.place < length order →
      IsLog links flow at (steps ++ (s ∷ [])) (set order s.place (length steps + 1))
  extended steps order s good move none inside =
      record {
        each = length-set order s.place (length steps + 1) ∙ good.each;
        moves = λ i p l. at_move i p (omega (arith, length-one steps s));
        marks = λ i l. at_mark i (omega (arith, length-one steps s));
        marked = λ x h. at_marked x h;
      }
    where
      old : (i : ℕ) → i < length steps → step (steps ++ (s ∷ [])) i ≡ step steps i
      old i l = get_or-append steps (s ∷ []) no_step i l

      new : step (steps ++ (s ∷ [])) (length steps) ≡ s
      new = get_or-append_seam steps s [] no_step

      moved : (i : ℕ) (t : Step) → i ≤ length steps → IsMove links flow at steps i t → IsMove links flow at (steps ++ (s ∷ [])) i t
      moved i t l m =
          let e = m.earlier in
          let q = old t.before (omega arith) in
          record {
            earlier = m.earlier;
            known = m.known;
            tight = m.tight;
            ends =
                ⊎_elim (λ (a, b, c). inl (a, b ∙ sym (ap (λ (z : Step). z.place) q), c))
                (λ (a, b, c, d). inr (a, b ∙ sym (ap (λ (z : Step). z.place) q), c, d))
                m.ends;
          }

      at_move : (i : ℕ) → 0 < i → i < length steps + 1 → IsMove links flow at (steps ++ (s ∷ [])) i (step (steps ++ (s ∷ [])) i)
      at_move i p l =
          ⊎_elim
          (λ (m : i < length steps). subst (IsMove links flow at (steps ++ (s ∷ [])) i) (sym (old i m)) (moved i (step steps i) (omega arith) (good.moves i p m)))
          (λ (m : length steps ≤ i).
          let e : length steps ≡ i = omega arith in
          subst (λ j. IsMove links flow at (steps ++ (s ∷ [])) j (step (steps ++ (s ∷ [])) j)) e
          (subst (IsMove links flow at (steps ++ (s ∷ [])) (length steps)) (sym new) (moved (length steps) s (omega arith) move)))
          (cases_lt i (length steps))

      same_mark : get_or (set order s.place (length steps + 1)) s.place 0 ≡ length steps + 1
      same_mark = get_or-set_same order s.place (length steps + 1) 0 inside

      other_mark : (x : ℕ) → (x ≡ s.place → ⊥) → get_or (set order s.place (length steps + 1)) x 0 ≡ slice_index order x
      other_mark x ne = get_or-set_other order s.place x (length steps + 1) 0 ne

      at_mark : (i : ℕ) → i < length steps + 1 → slice_index (set order s.place (length steps + 1)) (step (steps ++ (s ∷ [])) i).place ≡ i + 1
      at_mark i l =
          ⊎_elim
          (λ (m : i < length steps).
          let h = good.marks i m in
          let o = other_mark (step steps i).place (λ e. let f = ap (slice_index order) e in omega arith) in
          ap (λ (z : Step). slice_index (set order s.place (length steps + 1)) z.place) (old i m) ∙ o ∙ h)
          (λ (m : length steps ≤ i).
          let e : length steps ≡ i = omega arith in
          subst (λ j. slice_index (set order s.place (length steps + 1)) (step (steps ++ (s ∷ [])) j).place ≡ j + 1) e
          (ap (λ (z : Step). slice_index (set order s.place (length steps + 1)) z.place) new ∙ same_mark))
          (cases_lt i (length steps))

      at_marked : (x : ℕ) → 0 < slice_index (set order s.place (length steps + 1)) x →
          (i : ℕ) × (i < length (steps ++ (s ∷ []))) × (slice_index (set order s.place (length steps + 1)) x ≡ i + 1) × ((step (steps ++ (s ∷ [])) i).place ≡ x)
      at_marked x h =
          ⊎_elim
          (λ (e : x ≡ s.place).
          (length steps, omega (arith, length-one steps s), ap (slice_index (set order s.place (length steps + 1))) e ∙ same_mark, ap (λ (z : Step). z.place) new ∙ sym e))
          (λ ne.
          let o = other_mark x ne in
          let (i, l, m, p) = good.marked x (omega arith) in
          (i, omega (arith, length-one steps s), o ∙ m, ap (λ (z : Step). z.place) (old i l) ∙ p))
          (cases_eq x s.place)

  -- steps and marks that were added
  pub longer_none : (steps : List Step) (order : List ℕ) → IsLonger steps order steps order
  longer_none steps order = record { longer = omega arith; same = λ i l. refl; wider = λ x h. h }

  pub longer_both : (steps : List Step) (order : List ℕ) (steps1 : List Step) (order1 : List ℕ) (steps2 : List Step) (order2 : List ℕ) → IsLonger steps order steps1 order1 → IsLonger steps1 order1 steps2 order2 → IsLonger steps order steps2 order2
  longer_both steps order steps1 order1 steps2 order2 a b =
      record {
        longer = (let m = a.longer in let n = b.longer in omega arith);
        same = λ i l. b.same i (let m = a.longer in omega arith) ∙ a.same i l;
        wider = λ x h. b.wider x (a.wider x h);
      }

  longer_one : (steps : List Step) (order : List ℕ) (s : Step) → s.place < length order → IsLonger steps order (steps ++ (s ∷ [])) (set order s.place (length steps + 1))
  longer_one steps order s inside =
      record {
        longer = omega (arith, length-one steps s);
        same = λ i l. get_or-append steps (s ∷ []) no_step i l;
        wider = λ x h.
            ⊎_elim
            (λ (e : x ≡ s.place). let a = ap (slice_index (set order s.place (length steps + 1))) e in let b = get_or-set_same order s.place (length steps + 1) 0 inside in omega arith)
            (λ ne. let o = get_or-set_other order s.place x (length steps + 1) 0 ne in omega arith)
            (cases_eq x s.place);
      }

  finish : (steps : List Step) (order : List ℕ) (s : Step) (steps' : List Step) (k m count : ℕ) → IsLog links flow at (steps ++ (s ∷ [])) (set order s.place (length steps + 1)) → s.place < length order → m ≡ length steps →
      steps' ≡ steps ++ (s ∷ []) → (0 < slice_index (set order s.place (length steps + 1)) s.place → IsCrossed links flow at order (set order s.place (length steps + 1)) k) →
      IsVisited links count flow at steps order steps' (set order s.place (m + 1)) k
  finish steps order s steps' k m count good inside c e crossed =
      subst (λ (z : List Step). IsVisited links count flow at steps order z (set order s.place (m + 1)) k) (sym e)
      (subst (λ j. IsVisited links count flow at steps order (steps ++ (s ∷ [])) (set order s.place (j + 1)) k) (sym c)
      (record { log = good; longer = longer_one steps order s inside; crossed = λ l. crossed (let b = get_or-set_same order s.place (length steps + 1) 0 inside in omega arith) }))

  pub visited_forth : (steps : List Step) (order : List ℕ) (k m count v w : ℕ) (steps' : List Step) → IsLog links flow at steps order → k < length links → IsTight at (link links k) →
      v ≡ slice_index order (link links k).from → w ≡ slice_index order (link links k).to → 0 < v → w ≡ 0 → (link links k).to < length order → m ≡ length steps →
      steps' ≡ steps ++ (record { place = (link links k).to; link = k; back = false; before = v - 1 } ∷ []) →
      IsVisited links count flow at steps order steps' (set order (link links k).to (m + 1)) k
  visited_forth steps order k m count v w steps' good known tight vs ws from to inside c e =
      let s : Step = record { place = (link links k).to; link = k; back = false; before = v - 1 } in
      let (i, l, q, p) = good.marked (link links k).from (omega arith) in
      let b : v - 1 ≡ i = omega arith in
      let move : IsMove links flow at steps (length steps) s =
      record { earlier = omega arith; known = known; tight = tight; ends = inl (refl, sym (ap (λ j. (step steps j).place) b ∙ p), refl) } in
      finish steps order s steps' k m count (extended steps order s good move (omega arith) inside) inside c e (λ h t. (λ f. h, λ f g. absurd (omega arith)))

  pub visited_back : (steps : List Step) (order : List ℕ) (k m count v w : ℕ) (steps' : List Step) → IsLog links flow at steps order → k < length links → IsTight at (link links k) →
      v ≡ slice_index order (link links k).from → w ≡ slice_index order (link links k).to → 0 < w → v ≡ 0 → (link links k).from < length order → 0 < slice_index flow k → m ≡ length steps →
      steps' ≡ steps ++ (record { place = (link links k).from; link = k; back = true; before = w - 1 } ∷ []) →
      IsVisited links count flow at steps order steps' (set order (link links k).from (m + 1)) k
  visited_back steps order k m count v w steps' good known tight vs ws to from inside flows c e =
      let s : Step = record { place = (link links k).from; link = k; back = true; before = w - 1 } in
      let (i, l, q, p) = good.marked (link links k).to (omega arith) in
      let b : w - 1 ≡ i = omega arith in
      let move : IsMove links flow at steps (length steps) s =
      record { earlier = omega arith; known = known; tight = tight; ends = inr (refl, sym (ap (λ j. (step steps j).place) b ∙ p), refl, flows) } in
      finish steps order s steps' k m count (extended steps order s good move (omega arith) inside) inside c e (λ h t. (λ f. absurd (omega arith), λ f g. h))

  pub visited_none : (steps : List Step) (order : List ℕ) (k count : ℕ) → IsLog links flow at steps order → (k < count → IsDone links flow at order k) → IsVisited links count flow at steps order steps order k
  visited_none steps order k count good done = record { log = good; longer = longer_none steps order; crossed = done }

  -- ---- the links of a place

  pub follow_begins : (count place more : ℕ) (chain : Chain) (steps : List Step) (order : List ℕ) → IsLog links flow at steps order → IsLinked (length at) (length links) chain → more ≡ slice_index chain.last.items place →
      IsFollowed links count flow at chain place steps order steps order more
  follow_begins count place more chain steps order good linked e =
      record {
        log = good;
        longer = longer_none steps order;
        within = (let h = linked.within place in omega arith);
        here = λ end c k q. c.first place k (sym e ∙ q);
        crossed = λ end c k l m n q. let h = c.none place k n q in absurd (omega arith);
      }

  pub follow_more : (count place more k more' : ℕ) (chain : Chain) (steps : List Step) (order : List ℕ) (steps1 : List Step) (order1 : List ℕ) (steps2 : List Step) (order2 : List ℕ) → IsLinked (length at) (length links) chain →
      IsFollowed links count flow at chain place steps order steps1 order1 more → more ≡ k + 1 → IsVisited links count flow at steps1 order1 steps2 order2 k → more' ≡ slice_index chain.earlier.items k →
      IsFollowed links count flow at chain place steps order steps2 order2 more'
  follow_more count place more k more' chain steps order steps1 order1 steps2 order2 linked f e v q =
      record {
        log = v.log;
        longer = longer_both steps order steps1 order1 steps2 order2 f.longer v.longer;
        within = (let h = linked.before k in let l = f.within in omega arith);
        here = λ end c j p. c.next k j (let l = f.within in omega arith) (sym q ∙ p) ∙ f.here end c k e;
        crossed = λ end c j l m n p.
            ⊎_elim
            (λ (below : j < more).
            ⊎_elim
            (λ (same : j ≡ k). λ t. let a = v.crossed (omega arith) in
            subst (λ (i : ℕ). IsCrossed links flow at order order2 i) (sym same) (λ t. let (x, y) = a t in (λ g. x (f.longer.wider (link links k).from g), λ s g. y s (f.longer.wider (link links k).to g))) t)
            (λ ne. let h = c.between k j (let w = f.within in omega arith) (omega (arith, ne)) (p ∙ sym (f.here end c k e)) in absurd (omega arith))
            (cases_eq j k))
            (λ (above : more ≤ j). λ t. let (x, y) = f.crossed end c j above m n p t in (λ g. v.longer.wider (link links j).to (x g), λ s g. v.longer.wider (link links j).from (y s g)))
            (cases_lt j more);
      }

  -- ---- the places one after another

  pub worked_both : (count place : ℕ) (incidence : Incidence) (steps : List Step) (order : List ℕ) (steps1 : List Step) (order1 : List ℕ) (steps2 : List Step) (order2 : List ℕ) → IsIncidence links (length at) incidence →
      0 < slice_index order place → IsFollowed links count flow at incidence.begins place steps order steps1 order1 0 → IsFollowed links count flow at incidence.ends place steps1 order1 steps2 order2 0 → IsWorked links count flow at order2 place
  worked_both count place incidence steps order steps1 order1 steps2 order2 good h a b k l m t = (
    λ e. b.longer.wider (link links k).to ((a.crossed (begin_of links) good.begins k (omega arith) l m e t).0 (let q = ap (slice_index order) e in omega arith)),
    λ e s. (b.crossed (end_of links) good.ends k (omega arith) l m e t).1 s (let w = a.longer.wider place h in let q = ap (slice_index order1) e in omega arith),
  )

  pub spread_more : (count start done : ℕ) (steps : List Step) (order : List ℕ) (steps' : List Step) (order' : List ℕ) → IsSpread links count flow at start steps order done → done < length steps → IsLog links flow at steps' order' →
      IsLonger steps order steps' order' → IsWorked links count flow at order' (step steps done).place → IsSpread links count flow at start steps' order' (done + 1)
  spread_more count start done steps order steps' order' s inside good more worked =
      record {
        log = good;
        some = (let l = more.longer in omega arith);
        first = ap (λ (z : Step). z.place) (more.same 0 (omega arith)) ∙ s.first;
        within = (let l = more.longer in omega arith);
        worked = λ i l. ⊎_elim
            (λ (e : i ≡ done). subst (λ (x : ℕ). IsWorked links count flow at order' x) (sym (ap (λ j. (step steps' j).place) e ∙ ap (λ (z : Step). z.place) (more.same done inside))) worked)
            (λ ne. let b : i < done = omega (arith, ne) in
            subst (λ (x : ℕ). IsWorked links count flow at order' x) (sym (ap (λ (z : Step). z.place) (more.same i (omega arith))))
            (λ k c m t. let (x, y) = s.worked i b k c m t in (λ e. more.wider (link links k).to (x e), λ e g. more.wider (link links k).from (y e g))))
            (cases_eq i done);
      }

  pub spread_closed : (count start done : ℕ) (steps : List Step) (order : List ℕ) → IsSpread links count flow at start steps order done → length steps ≤ done → count ≤ length links → IsClosed links count flow at order
  spread_closed count start done steps order s all known k l t = (
    λ f. let (i, m, q, p) = s.log.marked (link links k).from f in (s.worked i (omega arith) k l (omega arith) t).0 (sym p),
    λ g f. let (i, m, q, p) = s.log.marked (link links k).to f in (s.worked i (omega arith) k l (omega arith) t).1 (sym p) g,
  )
