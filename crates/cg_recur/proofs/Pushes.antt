-- One more moment at the end of the log.
use Rattle.std.proofs.Common.{◌≡◌, ◌≢◌, ℕ, ◌+◌, ◌-◌, ◌*◌, ◌^◌, ◌<◌, ◌≤◌, List, [], ◌∷◌, ◌++◌, length, get_or, set, Some, refl, sym, ap, ◌∙◌, subst, arith, inl, inr, ⊎_elim, length-set, get_or-set_other, get_or-set_same}
use Rattle.std.specs.Prelude.{◌⊎◌, slice_get, slice_index}
use Rattle.std.proofs.lemmas.Bool.{cases_eq, cases_lt}
use Rattle.std.proofs.lemmas.List.{get_or_append_left, get_or_push, get_or_read, length_push}
use Rattle.cg_recur.specs.declared.edge.Edge.{Edge}
use Rattle.cg_recur.specs.declared.moments.Step.{Step}
use Rattle.cg_recur.specs.Log.{IsWithin, no_step, step, IsStep, IsLog, IsShallow, time_of, depth_of, IsSlack, IsSettled, IsNext}

pub step_kept : (log : List Step) (s : Step) (i : ℕ) → i < length log → step (log ++ s ∷ []) i ≡ step log i
step_kept log s i l = get_or_append_left log (s ∷ []) no_step i l

pub step_new : (log : List Step) (s : Step) (i : ℕ) → length log ≡ i → step (log ++ s ∷ []) i ≡ s
step_new log s i e = get_or_push log s no_step i e

below_push : (log : List Step) (s : Step) (i : ℕ) → i < length (log ++ s ∷ []) → (i < length log) ⊎ (length log ≡ i)
below_push log s i l = ⊎_elim (λ h. inl h) (λ h. inr (let e = length_push log s in omega arith)) (cases_lt i (length log))

module _ (es : List Edge) (ii n : ℕ) (log : List Step) (last : List ℕ) (j : ℕ) (e : Edge) (s : Step) where
  -- s goes on from the latest moment of e's source, and is a rise of its target's time
  pub record IsRise : Type 0 where
    pub is : slice_get es j ≡ Some e
    pub node : s.node ≡ e.target
    pub edge : s.edge ≡ j
    pub before : s.before ≡ slice_index last e.source
    pub sum : time_of log last e.source + e.latency ≡ s.time + ii * e.distance
    pub deeper : s.depth ≡ depth_of log last e.source + 1
    pub rises : time_of log last e.target < s.time

module _ (es : List Edge) (ii n : ℕ) (log : List Step) (last : List ℕ) (j : ℕ) (e : Edge) (s : Step) (within : IsWithin es n) (good : IsLog es ii n log last) (rise : IsRise es ii n log last j e s) where
  pub log' : List Step
  log' = log ++ s ∷ []

  pub last' : List ℕ
  last' = set last e.target (length log)

  target_in : e.target < length last
  target_in = let a = (within j e rise.is).1 in let b = good.each in omega arith

  last_new : slice_index last' e.target ≡ length log
  unfolding last'
  last_new = get_or-set_same last e.target (length log) 0 target_in

  last_same : (v : ℕ) → v ≢ e.target → slice_index last' v ≡ slice_index last v
  unfolding last'
  last_same v ne = get_or-set_other last e.target v (length log) 0 ne

  kept : (i : ℕ) → i < length log → step log' i ≡ step log i
  unfolding log'
  kept i l = step_kept log s i l

  new : step log' (length log) ≡ s
  unfolding log'
  new = step_new log s (length log) refl

  longer : length log' ≡ length log + 1
  unfolding log'
  longer = length_push log s

  cases : (i : ℕ) → i < length log' → (i < length log) ⊎ (length log ≡ i)
  unfolding log'
  cases i l = below_push log s i l

  pub step_same : (v : ℕ) → v < n → v ≢ e.target → step log' (slice_index last' v) ≡ step log (slice_index last v)
  step_same v l ne = ap (step log') (last_same v ne) ∙ kept (slice_index last v) (good.known v l)

  pub step_target : step log' (slice_index last' e.target) ≡ s
  step_target = ap (step log') last_new ∙ new

  time_rises : (v : ℕ) → v < n → time_of log last v ≤ time_of log' last' v
  time_rises v l =
      ⊎_elim
      (λ (q : v ≡ e.target). let a = ap (time_of log last) q in let b = ap (time_of log' last') q in let c = ap (λ z. z.time) step_target in let d = rise.rises in omega arith)
      (λ ne. let a = ap (λ z. z.time) (step_same v l ne) in omega arith)
      (cases_eq v e.target)

  old_step : (i : ℕ) → i < length log → IsStep es ii n log' i (step log' i)
  old_step i l =
      let a = good.steps i l in
      let b : IsStep es ii n log' i (step log i) =
      record {
        node = a.node;
        small = a.small;
        from = ⊎_elim (λ z. inl z) (λ f.
            let k = kept (step log i).before (let h = f.earlier in omega arith) in
            inr (record {
              earlier = f.earlier;
              by = f.by;
              is = f.is;
              source = f.source ∙ sym (ap (λ z. z.node) k);
              target = f.target;
              sum = ap (λ z. z.time + f.by.latency) k ∙ f.sum;
              deeper = f.deeper ∙ sym (ap (λ z. z.depth + 1) k);
            })) a.from;
      }
      in
      subst (λ z. IsStep es ii n log' i z) (sym (kept i l)) b

  source_in : slice_index last e.source < length log
  source_in = good.known e.source ((within j e rise.is).0)

  new_step : IsStep es ii n log' (length log) s
  new_step =
      let l : s.before < length log = let a = rise.before in let b = source_in in omega arith in
      let k : step log' s.before ≡ step log (slice_index last e.source) = kept s.before l ∙ ap (step log) rise.before in
      let small = (good.steps (slice_index last e.source) source_in).small in
      let lat = (within j e rise.is).2 in
      record {
        node = let a = (within j e rise.is).1 in let b = rise.node in omega arith;
        small = let a = rise.deeper in let b = rise.sum in let c = ap (λ z. z * 2 ^ 16) a in omega arith;
        from = inr (record {
          earlier = l;
          by = e;
          is = ap (slice_get es) rise.edge ∙ rise.is;
          source = sym (good.its e.source ((within j e rise.is).0)) ∙ sym (ap (λ z. z.node) k);
          target = sym rise.node;
          sum = ap (λ z. z.time + e.latency) k ∙ rise.sum;
          deeper = rise.deeper ∙ sym (ap (λ z. z.depth + 1) k);
        });
      }

  each_same : length last' ≡ n
  unfolding last'
  each_same = length-set last e.target (length log) ∙ good.each

  pushed : IsLog es ii n log' last'
  pushed =
      record {
        steps = λ i l. ⊎_elim (old_step i) (λ q. subst (λ z. IsStep es ii n log' z (step log' z)) q (subst (λ z. IsStep es ii n log' (length log) z) (sym new) new_step)) (cases i l);
        rising = λ i k il kl same.
            let ik : i < length log = let a = longer in omega arith in
            ⊎_elim
            (λ h. let x = kept i ik in let y = kept k h in rw (x, y) (good.rising i k il h (sym (ap (λ z. z.node) x) ∙ same ∙ ap (λ z. z.node) y)))
            (λ q.
            let x = kept i ik in
            let y : step log' k ≡ s = ap (step log') (sym q) ∙ new in
            let at : (step log i).node ≡ e.target = sym (ap (λ z. z.node) x) ∙ same ∙ ap (λ z. z.node) y ∙ rise.node in
            let b = good.latest i ik in
            let c = ap (time_of log last) at in
            let d = rise.rises in
            rw (x, y) (omega arith))
            (cases k kl);
        each = each_same;
        known = λ v l. ⊎_elim (λ (q : v ≡ e.target). let a = ap (slice_index last') q in let b = last_new in let c = longer in omega arith) (λ ne. let a = last_same v ne in let b = good.known v l in let c = longer in omega arith) (cases_eq v e.target);
        its = λ v l. ⊎_elim (λ (q : v ≡ e.target). ap (λ z. (step log' (slice_index last' z)).node) q ∙ ap (λ z. z.node) step_target ∙ rise.node ∙ sym q) (λ ne. ap (λ z. z.node) (step_same v l ne) ∙ good.its v l) (cases_eq v e.target);
        latest = λ i l.
            ⊎_elim
            (λ h. let x = kept i h in let a = good.latest i h in let b = time_rises (step log i).node (good.steps i h).node in rw x (omega arith))
            (λ q. let y : step log' i ≡ s = ap (step log') (sym q) ∙ new in rw y (let a = ap (time_of log' last') rise.node in let b = ap (λ z. z.time) step_target in omega arith))
            (cases i l);
      }

  slack_kept : (x : Edge) → x.source < n → x.target < n → x.source ≢ e.target → IsSlack ii log last x → IsSlack ii log' last' x
  slack_kept x sl tl ne h =
      let a = ap (λ z. z.time) (step_same x.source sl ne) in
      let b = time_rises x.target tl in
      omega arith

  -- before the visit e asked for more than there was
  asked : (r : ℕ) → IsSettled es ii r j log last → r ≤ depth_of log last e.source
  asked r h = ⊎_elim (λ a. absurd (let b = rise.rises in let c = rise.sum in omega arith)) (λ a. a) (h j e rise.is).1

  settled : (r : ℕ) → IsSettled es ii r j log last → IsSettled es ii r (j + 1) log' last'
  settled r h k x is =
      let w = within k x is in
      ⊎_elim
      (λ (q : x.source ≡ e.target).
      let a : r + 1 ≤ depth_of log' last' x.source =
      let b = ap (depth_of log' last') q in let c = ap (λ z. z.depth) step_target in let d = rise.deeper in let f = asked r h in omega arith
      in
      (λ l. inr a, inr (let b = a in omega arith)))
      (λ ne.
      let dep = ap (λ z. z.depth) (step_same x.source w.0 ne) in (
        λ l. ⊎_elim
            (λ (kj : k < j). ⊎_elim (λ y. inl (slack_kept x w.0 w.1 ne y)) (λ y. inr (omega arith)) ((h k x is).0 kj))
            (λ jk. inl (new_slack k x is ne (omega arith)))
            (cases_lt k j),
        ⊎_elim (λ y. inl (slack_kept x w.0 w.1 ne y)) (λ y. inr (omega arith)) (h k x is).1,
      ))
      (cases_eq x.source e.target)
    where
      new_slack : (k : ℕ) (x : Edge) → slice_get es k ≡ Some x → x.source ≢ e.target → k ≡ j → IsSlack ii log' last' x
      new_slack k x is ne q =
          let same : x ≡ e = let a = sym is ∙ ap (slice_get es) q ∙ rise.is in cc in
          let ne' : e.source ≢ e.target = rw same at ne in
          rw same
          (let a = ap (λ z. z.time) (step_same e.source (within j e rise.is).0 ne') in
          let b = ap (λ z. z.time) step_target in
          let c = rise.sum in
          omega arith)

  pub next_raised : IsNext es ii n j log last (log ++ s ∷ []) (set last e.target (length log))
  unfolding log' last'
  next_raised = (pushed, settled)

-- nothing rose
pub next_same : (es : List Edge) (ii n j : ℕ) (log : List Step) (last : List ℕ) (e : Edge) → slice_get es j ≡ Some e → IsLog es ii n log last → IsSlack ii log last e → IsNext es ii n j log last log last
next_same es ii n j log last e is good slack =
    (good, λ r h k x xs. (λ l. ⊎_elim (λ kj. (h k x xs).0 kj) (λ jk. inl (same k x xs (omega arith))) (cases_lt k j), (h k x xs).1))
  where
    same : (k : ℕ) (x : Edge) → slice_get es k ≡ Some x → k ≡ j → IsSlack ii log last x
    same k x xs q = let a : x ≡ e = let b = sym xs ∙ ap (slice_get es) q ∙ is in cc in subst (IsSlack ii log last) (sym a) slack

-- what the code reads and writes is a rise
module _ (es : List Edge) (ii n : ℕ) (log : List Step) (last : List ℕ) (j : ℕ) (e : Edge) (source target : ℕ) (s t : Step) where
  abbrev pub raised_step : Step
  raised_step = record { node = e.target; edge = j; before = source; time = s.time + e.latency - ii * e.distance; depth = s.depth + 1 }

  pub rise_from_reads : IsWithin es n → IsLog es ii n log last → slice_get es j ≡ Some e → source ≡ get_or last e.source source → target ≡ get_or last e.target target → s ≡ get_or log source s → t ≡ get_or log target t →
      t.time + ii * e.distance < s.time + e.latency → IsRise es ii n log last j e raised_step
  rise_from_reads within good is a b c d lt =
      let w = within j e is in
      let l : e.source < length last = let x = good.each in let y = w.0 in omega arith in
      let m : e.target < length last = let x = good.each in let y = w.1 in omega arith in
      let a' : source ≡ slice_index last e.source = get_or_read last e.source source l a 0 in
      let b' : target ≡ slice_index last e.target = get_or_read last e.target target m b 0 in
      let ls : source < length log = let x = good.known e.source w.0 in omega arith in
      let lt' : target < length log = let x = good.known e.target w.1 in omega arith in
      let c' : s ≡ step log (slice_index last e.source) = get_or_read log source s ls c no_step ∙ ap (step log) a' in
      let d' : t ≡ step log (slice_index last e.target) = get_or_read log target t lt' d no_step ∙ ap (step log) b' in
      let f = ap (λ z. z.time) c' in
      let g = ap (λ z. z.depth) c' in
      let h = ap (λ z. z.time) d' in
      record { is = is; node = refl; edge = refl; before = a'; sum = omega arith; deeper = omega arith; rises = omega arith }

pub shallow_more : (n : ℕ) (log : List Step) (s : Step) → IsShallow n log → s.depth < n → IsShallow n (log ++ s ∷ [])
shallow_more n log s h l i b =
    ⊎_elim
    (λ x. let a = ap (λ z. z.depth) (step_kept log s i x) in let b = h i x in omega arith)
    (λ x. let a = ap (λ z. z.depth) (step_new log s i x) in omega arith)
    (below_push log s i b)

-- what the code leaves after a rise
module _ (es : List Edge) (ii n : ℕ) (log log' : List Step) (last : List ℕ) (j : ℕ) (e : Edge) (source target at : ℕ) (s t : Step) where
  abbrev pub what_is_left : Type 0
  what_is_left =
      IsWithin es n → IsLog es ii n log last → slice_get es j ≡ Some e → source ≡ get_or last e.source source → target ≡ get_or last e.target target → s ≡ get_or log source s → t ≡ get_or log target t →
      t.time + ii * e.distance < s.time + e.latency → log' ≡ log ++ raised_step es ii n log last j e source target s t ∷ [] → at ≡ length log →
      IsNext es ii n j log last log' (set last e.target at)

  pub left_next : what_is_left
  left_next within good is a b c d lt is' at_is =
      let r = rise_from_reads es ii n log last j e source target s t within good is a b c d lt in
      let h = next_raised es ii n log last j e (raised_step es ii n log last j e source target s t) within good r in
      rw (is', at_is) h

  pub left_deep : s.depth + 1 ≡ n → log' ≡ log ++ raised_step es ii n log last j e source target s t ∷ [] → (i : ℕ) × (length log' ≡ i + 1) × ((step log' i).depth ≡ n)
  left_deep e is' =
      (length log, ap length is' ∙ length_push log _, ap (λ z. (step z (length log)).depth) is' ∙ ap (λ z. z.depth) (step_new log _ (length log) refl) ∙ e)

  pub left_shallow : IsWithin es n → IsLog es ii n log last → slice_get es j ≡ Some e → source ≡ get_or last e.source source → IsShallow n log → s ≡ get_or log source s → s.depth + 1 ≢ n → log' ≡ log ++ raised_step es ii n log last j e source target s t ∷ [] → IsShallow n log'
  left_shallow within good is a h c ne is' =
      let w = within j e is in
      let m : e.source < length last = let x = good.each in let y = w.0 in omega arith in
      let l : source < length log = let x = good.known e.source w.0 in let y = get_or_read last e.source source m a 0 in omega arith in
      let a = h source l in
      let b = ap (λ z. z.depth) (get_or_read log source s l c no_step) in
      subst (IsShallow n) (sym is') (shallow_more n log _ h (omega arith))
