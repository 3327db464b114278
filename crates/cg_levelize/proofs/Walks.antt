-- What opening and closing a resource leave of a walk.
use Rattle.std.proofs.Common.{◌≡◌, ◌≢◌, ℕ, ◌+◌, ◌-◌, ◌<◌, ◌≤◌, Bool, cond, List, [], ◌∷◌, ◌++◌, length, take, set, sym, ◌∙◌, subst, ap, arith, ⊎_elim, refl}
use Rattle.std.specs.Prelude.{Contains, slice_index, count_by}
use Rattle.std.proofs.lemmas.Bool.{cases_lt, cases_eq}
use Rattle.std.proofs.lemmas.List.{get_or_append_left, get_or_push, get_or-set_same, get_or-set_other, get_or_past, length-set, length_push, take-append-le, take_all}
use Rattle.std.proofs.lemmas.List.Elements.{Contains-append_left, Contains-push, Contains-push_cases}
use Rattle.std.proofs.lemmas.List.Sums.{sum_by-set}
use Rattle.cg_model.specs.declared.array.Resource.{Resource}
use Rattle.cg_levelize.specs.declared.walk.Mark.{Mark}
use Rattle.cg_levelize.specs.declared.walk.Mark.TheVariants.{New, Open, Done}
use Rattle.cg_levelize.specs.declared.walk.Walk.{Walk}
use Rattle.cg_levelize.specs.Topological.{Passes}
use Rattle.cg_levelize.specs.Walk.{mark, is_new, is_done, inputs, IsPath, IsClosed, AreMarks, ArePassed, IsWalk, Keeps, Opens, Closes, left}
use Rattle.cg_levelize.proofs.Passing.{place_in, item_in}

-- places of a list with one number more
push_low : (xs : List ℕ) (x k : ℕ) → k < length xs → slice_index (xs ++ x ∷ []) k ≡ slice_index xs k
push_low xs x k h = get_or_append_left xs (x ∷ []) 0 k h

push_last : (xs : List ℕ) (x k : ℕ) → k ≡ length xs → slice_index (xs ++ x ∷ []) k ≡ x
push_last xs x k e = get_or_push xs x 0 k (sym e)

-- a fact of each place of a list with one number more
push_each : (P : ℕ → ℕ → Type 0) (xs : List ℕ) (x : ℕ) → ((k : ℕ) → k < length xs → P k (slice_index xs k)) → P (length xs) x → (k : ℕ) → k < length (xs ++ x ∷ []) → P k (slice_index (xs ++ x ∷ []) k)
push_each P xs x below here k h =
    let long = length_push xs x in
    ⊎_elim
    (λ lt. subst (P k) (sym (push_low xs x k lt)) (below k lt))
    (λ ge.
    let e : k ≡ length xs = omega arith in
    subst (P k) (sym (push_last xs x k e)) (subst (λ n. P n x) (sym e) here))
    (cases_lt k (length xs))

-- ---- paths

pub path_opened : (rs : List Resource) (path : List ℕ) (q : ℕ) → IsPath rs path → q < length rs → (Contains path q → ⊥) → (0 < length path → Passes rs q (slice_index path (length path - 1))) → IsPath rs (path ++ q ∷ [])
path_opened rs path q is known apart passes =
    let long = length_push path q in
    record {
      known = push_each (λ k x. x < length rs) path q is.known known;
      once = λ j k hj hk e.
          ⊎_elim
          (λ lj. ⊎_elim
          (λ lk. is.once j k lj lk (sym (push_low path q j lj) ∙ e ∙ push_low path q k lk))
          (λ gk. absurd (apart (item_in path j q lj (sym (push_low path q j lj) ∙ e ∙ push_last path q k (let z : k ≡ length path = omega arith in z)))))
          (cases_lt k (length path)))
          (λ gj. ⊎_elim
          (λ lk. absurd (apart (item_in path k q lk (sym (push_low path q k lk) ∙ sym e ∙ push_last path q j (let z : j ≡ length path = omega arith in z)))))
          (λ gk. omega arith)
          (cases_lt k (length path)))
          (cases_lt j (length path));
      links = λ k h.
          let low : k < length path = omega arith in
          ⊎_elim
          (λ lt. rw (push_low path q (k + 1) lt, push_low path q k low) (is.links k lt))
          (λ ge.
          let e : k + 1 ≡ length path = omega arith in
          let last : length path - 1 ≡ k = omega arith in
          rw (push_last path q (k + 1) e, push_low path q k low) (subst (λ i. Passes rs q (slice_index path i)) last (passes (omega arith))))
          (cases_lt (k + 1) (length path));
    }

pub path_closed : (rs : List Resource) (path : List ℕ) (r : ℕ) → IsPath rs (path ++ r ∷ []) → IsPath rs path
path_closed rs path r is =
    let long = length_push path r in
    record {
      known = λ k h. subst (λ x. x < length rs) (push_low path r k h) (is.known k (omega arith));
      once = λ j k hj hk e. is.once j k (omega arith) (omega arith) (push_low path r j hj ∙ e ∙ sym (push_low path r k hk));
      links = λ k h.
          let low : k < length path = omega arith in
          subst (λ x. Passes rs x (slice_index path k)) (push_low path r (k + 1) h) (subst (λ x. Passes rs (slice_index (path ++ r ∷ []) (k + 1)) x) (push_low path r k low) (is.links k (omega arith)));
    }

-- ---- the order

pub order_closed : (rs : List Resource) (order : List ℕ) (r : ℕ) → IsClosed rs order → r < length rs → ((q : ℕ) → Passes rs q r → Contains order q) → IsClosed rs (order ++ r ∷ [])
order_closed rs order r is known before =
    record {
      known = push_each (λ k x. x < length rs) order r is.known known;
      rising = λ k q h. push_each (λ i x. Passes rs q x → Contains (take i (order ++ r ∷ [])) q) order r
          (λ i lt p. let short : i ≤ length order = omega arith in rw (take-append-le i order (r ∷ []) short) (is.rising i q lt p))
          (λ p. let all : length order ≤ length order = omega arith in rw (take-append-le (length order) order (r ∷ []) all) (rw (take_all (length order) order all) (before q p)))
          k h;
    }

-- ---- marks

marked_known : (marks : List Mark) (r : ℕ) (m : Mark) → mark marks r ≡ m → New ≢ m → r < length marks
marked_known marks r m e ne = ⊎_elim (λ h. h) (λ h. absurd (ne (sym (get_or_past marks r New h) ∙ e))) (cases_lt r (length marks))

-- a test's count after a mark was set
counted : (p : Mark → Bool) (marks : List Mark) (r : ℕ) (m : Mark) → r < length marks → count_by p (set marks r m) + cond (p (mark marks r)) 1 0 ≡ count_by p marks + cond (p m) 1 0
counted p marks r m h = sum_by-set (λ x. cond (p x) 1 0) marks r m New h

counted_as : (p : Mark → Bool) (marks : List Mark) (r : ℕ) (m m' : Mark) → r < length marks → mark marks r ≡ m → count_by p (set marks r m') + cond (p m) 1 0 ≡ count_by p marks + cond (p m') 1 0
counted_as p marks r m m' h e = subst (λ x. count_by p (set marks r m') + cond (p x) 1 0 ≡ count_by p marks + cond (p m') 1 0) e (counted p marks r m' h)

pub marks_opened : (rs : List Resource) (marks : List Mark) (path order : List ℕ) (q : ℕ) → AreMarks rs marks path order → q < length marks → mark marks q ≡ New → AreMarks rs (set marks q Open) (path ++ q ∷ []) order
marks_opened rs marks path order q are known new =
    let same = get_or-set_same marks q Open New known in
    record {
      long = length-set marks q Open ∙ are.long;
      opened = push_each (λ k x. mark (set marks q Open) x ≡ Open) path q
          (λ k h. ⊎_elim
          (λ e. rw e same)
          (λ ne. get_or-set_other marks q (slice_index path k) Open New ne ∙ are.opened k h)
          (cases_eq (slice_index path k) q))
          same;
      on_path = λ r e. ⊎_elim
          (λ is. rw is (Contains-push path q))
          (λ ne. Contains-append_left path (q ∷ []) r (are.on_path r (sym (get_or-set_other marks q r Open New ne) ∙ e)))
          (cases_eq r q);
      in_order = λ r e. ⊎_elim
          (λ is. let no : Open ≡ Done = sym same ∙ ap (λ i. mark (set marks q Open) i) (sym is) ∙ e in absurd (cc))
          (λ ne. are.in_order r (sym (get_or-set_other marks q r Open New ne) ∙ e))
          (cases_eq r q);
      count =
          let c : count_by is_done (set marks q Open) + 0 ≡ count_by is_done marks + 0 = counted_as is_done marks q New Open known new in
          let n : count_by is_done marks ≡ length order = are.count in
          omega arith;
    }

pub marks_closed : (rs : List Resource) (marks : List Mark) (path order : List ℕ) (r : ℕ) → IsPath rs (path ++ r ∷ []) → AreMarks rs marks (path ++ r ∷ []) order → AreMarks rs (set marks r Done) path (order ++ r ∷ [])
marks_closed rs marks path order r is are =
    let long = length_push path r in
    let last : slice_index (path ++ r ∷ []) (length path) ≡ r = push_last path r (length path) refl in
    let was : mark marks r ≡ Open = ap (λ i. mark marks i) (sym last) ∙ are.opened (length path) (omega arith) in
    let known : r < length marks = marked_known marks r Open was (λ e. cc) in
    let same = get_or-set_same marks r Done New known in
    record {
      long = length-set marks r Done ∙ are.long;
      opened = λ k h.
          let low = push_low path r k h in
          let ne : slice_index path k ≢ r = λ e.
          let one : k ≡ length path = is.once k (length path) (omega arith) (omega arith) (low ∙ e ∙ sym last) in
          omega arith in
          get_or-set_other marks r (slice_index path k) Done New ne ∙ ap (λ i. mark marks i) (sym low) ∙ are.opened k (omega arith);
      on_path = λ q e. ⊎_elim
          (λ is'. let no : Done ≡ Open = sym same ∙ ap (λ i. mark (set marks r Done) i) (sym is') ∙ e in absurd (cc))
          (λ ne. ⊎_elim (λ c. c) (λ is'. absurd (ne (sym is'))) (Contains-push_cases path r q (are.on_path q (sym (get_or-set_other marks r q Done New ne) ∙ e))))
          (cases_eq q r);
      in_order = λ q e. ⊎_elim
          (λ is'. rw is' (Contains-push order r))
          (λ ne. Contains-append_left order (r ∷ []) q (are.in_order q (sym (get_or-set_other marks r q Done New ne) ∙ e)))
          (cases_eq q r);
      count =
          let c : count_by is_done (set marks r Done) + 0 ≡ count_by is_done marks + 1 = counted_as is_done marks r Open Done known was in
          let n : count_by is_done marks ≡ length order = are.count in
          let m = length_push order r in
          omega arith;
    }

-- ---- drivers passed

pub passed_more : (rs : List Resource) (passed order : List ℕ) (r : ℕ) → ArePassed rs passed order → ArePassed rs passed (order ++ r ∷ [])
passed_more rs passed order r are =
    record {
      long = are.long;
      done = λ x p h l. Contains-append_left order (r ∷ []) _ (are.done x p h l);
    }

pub passed_set : (rs : List Resource) (passed order : List ℕ) (r place : ℕ) → ArePassed rs passed order → r < length passed →
    ((p : ℕ) → p < place → p < length (inputs rs r) → Contains order (slice_index (inputs rs r) p)) → ArePassed rs (set passed r place) order
passed_set rs passed order r place are known done =
    record {
      long = length-set passed r place ∙ are.long;
      done = λ x p h l. ⊎_elim
          (λ e.
          let at : slice_index (set passed r place) x ≡ place = ap (λ i. slice_index (set passed r place) i) e ∙ get_or-set_same passed r place 0 known in
          let lt : p < place = omega arith in
          subst (λ i. Contains order (slice_index (inputs rs i) p)) (sym e) (done p lt (subst (λ i. p < length (inputs rs i)) e l)))
          (λ ne.
          let at : slice_index (set passed r place) x ≡ slice_index passed x = get_or-set_other passed r x place 0 ne in
          are.done x p (omega arith) l)
          (cases_eq x r);
    }

-- ---- whole walks

walk_from : (rs : List Resource) (w : Walk) (marks : List Mark) (passed path order : List ℕ) → w.marks.items ≡ marks → w.passed.items ≡ passed → w.path.items ≡ path → w.order.items ≡ order →
    IsPath rs path → IsClosed rs order → AreMarks rs marks path order → ArePassed rs passed order → IsWalk rs w
walk_from rs w marks passed path order em ep ew eo a b c d =
    record { path = rw ew a; order = rw eo b; marks = rw (em, ew, eo) c; passed = rw (ep, eo) d }

keeps_set : (marks new : List Mark) (r : ℕ) (m : Mark) → m ≢ New → r < length marks → new ≡ set marks r m → (x : ℕ) → mark marks x ≢ New → mark new x ≢ New
keeps_set marks new r m ne h e x was = ⊎_elim
    (λ is z. ne (sym (ap (λ (ms : List Mark). mark ms x) e ∙ ap (λ i. mark (set marks r m) i) is ∙ get_or-set_same marks r m New h) ∙ z))
    (λ other z. was (sym (ap (λ (ms : List Mark). mark ms x) e ∙ get_or-set_other marks r x m New other) ∙ z))
    (cases_eq x r)

-- a new resource that drives the last of the path, if there's one, is opened
pub walk_opened : (rs : List Resource) (old new : Walk) (q : ℕ) → IsWalk rs old → Opens old new q → q < length rs → mark old.marks.items q ≡ New →
    (0 < length old.path.items → Passes rs q (slice_index old.path.items (length old.path.items - 1))) → IsWalk rs new
walk_opened rs old new q is opens known fresh passes =
    let long : length old.marks.items ≡ length rs = is.marks.long in
    let apart : Contains old.path.items q → ⊥ = λ c.
    let p = place_in old.path.items q c in
    let no : New ≡ Open = sym fresh ∙ ap (λ i. mark old.marks.items i) (sym p.2) ∙ is.marks.opened p.0 p.1 in
    cc in
    walk_from rs new (set old.marks.items q Open) old.passed.items (old.path.items ++ q ∷ []) old.order.items opens.marks opens.passed opens.path opens.order
    (path_opened rs old.path.items q is.path known apart passes)
    is.order
    (marks_opened rs old.marks.items old.path.items old.order.items q is.marks (omega arith) fresh)
    is.passed

pub opened_keeps : (old new : Walk) (q : ℕ) → Opens old new q → q < length old.marks.items → Keeps old new
opened_keeps old new q opens h = keeps_set old.marks.items new.marks.items q Open (λ e. cc) h opens.marks

pub opened_met : (old new : Walk) (q : ℕ) → Opens old new q → q < length old.marks.items → mark new.marks.items q ≢ New
opened_met old new q opens h = rw (opens.marks, get_or-set_same old.marks.items q Open New h) (λ e. cc)

pub opened_less : (old new : Walk) (q : ℕ) → Opens old new q → q < length old.marks.items → mark old.marks.items q ≡ New → left new < left old
opened_less old new q opens h fresh =
    let c : count_by is_new (set old.marks.items q Open) + 1 ≡ count_by is_new old.marks.items + 0 = counted_as is_new old.marks.items q New Open h fresh in
    let long = length_push old.path.items q in
    rw (opens.marks, opens.path) (omega arith)

-- the last resource of the path is closed, where all that drive it in the same cycle are done
pub walk_closed : (rs : List Resource) (old new : Walk) (r : ℕ) → IsWalk rs old → Closes old new r → r < length rs → ((q : ℕ) → Passes rs q r → Contains old.order.items q) → IsWalk rs new
walk_closed rs old new r is closes known before =
    let path : IsPath rs (new.path.items ++ r ∷ []) = subst (IsPath rs) closes.path is.path in
    let marks : AreMarks rs old.marks.items (new.path.items ++ r ∷ []) old.order.items = subst (λ p. AreMarks rs old.marks.items p old.order.items) closes.path is.marks in
    walk_from rs new (set old.marks.items r Done) old.passed.items new.path.items (old.order.items ++ r ∷ []) closes.marks closes.passed refl closes.order
    (path_closed rs new.path.items r path)
    (order_closed rs old.order.items r is.order known before)
    (marks_closed rs old.marks.items new.path.items old.order.items r path marks)
    (passed_more rs old.passed.items old.order.items r is.passed)

pub closed_keeps : (old new : Walk) (r : ℕ) → Closes old new r → r < length old.marks.items → Keeps old new
closed_keeps old new r closes h = keeps_set old.marks.items new.marks.items r Done (λ e. cc) h closes.marks

pub closed_less : (rs : List Resource) (old new : Walk) (r : ℕ) → IsWalk rs old → Closes old new r → r < length old.marks.items → left new < left old
closed_less rs old new r is closes h =
    let long = length_push new.path.items r in
    let same : length old.path.items ≡ length (new.path.items ++ r ∷ []) = ap (λ (xs : List ℕ). length xs) closes.path in
    let at : slice_index old.path.items (length new.path.items) ≡ r = ap (λ (xs : List ℕ). slice_index xs (length new.path.items)) closes.path ∙ push_last new.path.items r (length new.path.items) refl in
    let was : mark old.marks.items r ≡ Open = ap (λ i. mark old.marks.items i) (sym at) ∙ is.marks.opened (length new.path.items) (omega arith) in
    let c : count_by is_new (set old.marks.items r Done) + 0 ≡ count_by is_new old.marks.items + 0 = counted_as is_new old.marks.items r Open Done h was in
    rw closes.marks (omega arith)
