-- Resources have an order or a loop.
use Rattle.std.proofs.Common.{◌≡◌, ◌≢◌, ℕ, zero, suc, ◌+◌, ◌-◌, ◌<◌, ◌≤◌, ◌⊎◌, inl, inr, List, [], ◌∷◌, ◌++◌, length, drop, reverse, refl, sym, subst, ap, arith, ⊎_elim}
use Rattle.std.specs.Prelude.{Contains, slice_index, slice_range, eqb, if◌then◌else◌}
use Rattle.std.proofs.lemmas.Bool.{cases_lt, cases_eq, ne_eqb, eq-eqb}
use Rattle.std.proofs.lemmas.List.{length_push, get_or_push}
use Rattle.std.proofs.lemmas.List.Elements.{Contains-push, Contains-push_cases, Contains-append_left, Contains-append_right, Contains-append_cases}
use Rattle.cg_model.specs.declared.array.Resource.{Resource}
use Rattle.cg_levelize.specs.Topological.{Passes, IsTopological, IsCombinationalLoop, AreKnown}
use Rattle.cg_levelize.specs.Walk.{inputs, IsPath, IsClosed}
use Rattle.cg_levelize.proofs.Passing.{place_in, none_in, input_passes, passes_input}
use Rattle.cg_levelize.proofs.Turned.{ring_loop, turned_ring}
use Rattle.cg_levelize.proofs.Walks.{path_opened, order_closed}

-- ---- lists that get shorter

-- the list holds y
abbrev Has : List ℕ → ℕ → Type 0
Has [] y = ⊥
Has (x ∷ xs) y = (y ≡ x) ⊎ Has xs y

-- the list without the first w of it
abbrev without : ℕ → List ℕ → List ℕ
without w [] = []
without w (x ∷ xs) = if eqb x w then xs else x ∷ without w xs

-- the numbers below k
abbrev below : ℕ → List ℕ
below zero = []
below (suc k) = k ∷ below k

has_below : (k y : ℕ) → y < k → Has (below k) y
has_below zero y h = absurd (omega arith)
has_below (suc k) y h = ⊎_elim (λ e. inl e) (λ no. inr (has_below k y (omega arith))) (cases_eq y k)

below_has : (k y : ℕ) → Has (below k) y → y < k
below_has zero y h = absurd h
below_has (suc k) y (inl e) = omega arith
below_has (suc k) y (inr h) = let lt : y < k = below_has k y h in omega arith

length_below : (k : ℕ) → length (below k) ≡ k
length_below zero = refl
length_below (suc k) = let h = length_below k in omega arith

behind : (w x : ℕ) (xs : List ℕ) → x ≢ w → Has (x ∷ xs) w → Has xs w
behind w x xs ne (inl e) = absurd (ne (sym e))
behind w x xs ne (inr h) = h

shorter : (w : ℕ) (xs : List ℕ) → Has xs w → length (without w xs) + 1 ≡ length xs
shorter w [] h = absurd h
shorter w (x ∷ xs) h =
    ⊎_elim (λ e. rw (eq-eqb x w e) (omega arith))
    (λ ne. let k : length (without w xs) + 1 ≡ length xs = shorter w xs (behind w x xs ne h) in rw (ne_eqb x w ne) (omega arith))
    (cases_eq x w)

others : (w y : ℕ) (xs : List ℕ) → y ≢ w → Has xs y → Has (without w xs) y
others w y [] ne h = absurd h
others w y (x ∷ xs) ne h =
    ⊎_elim (λ e. rw (eq-eqb x w e) (⊎_elim (λ q. absurd (ne (let z : y ≡ w = omega arith in z))) (λ z. z) h))
    (λ no. rw (ne_eqb x w no) (⊎_elim (λ q. inl q) (λ z. inr (others w y xs ne z)) h))
    (cases_eq x w)

still : (w y : ℕ) (xs : List ℕ) → Has (without w xs) y → Has xs y
still w y [] h = absurd h
still w y (x ∷ xs) h =
    ⊎_elim
    (λ e. inr (let same = eq-eqb x w e in rw same at h))
    (λ no.
    let k : Has (x ∷ without w xs) y = let same = ne_eqb x w no in rw same at h in
    ⊎_elim (λ q. inl q) (λ z. inr (still w y xs z)) k)
    (cases_eq x w)

-- whether a list has a number is decided
abbrev IsIn : List ℕ → ℕ → Type 0
IsIn xs y = Contains xs y ⊎ (Contains xs y → ⊥)

in_front : (x : ℕ) (xs : List ℕ) → Contains (x ∷ xs) x
in_front x xs = Contains-append_left (x ∷ []) xs x (Contains-push [] x)

in_rest : (x y : ℕ) (xs : List ℕ) → Contains xs y → Contains (x ∷ xs) y
in_rest x y xs c = Contains-append_right (x ∷ []) xs y c

in_one : (x y : ℕ) (xs : List ℕ) → Contains (x ∷ xs) y → (x ≡ y) ⊎ Contains xs y
in_one x y xs c = ⊎_elim (λ h. ⊎_elim (λ n. absurd (none_in y n)) (λ e. inl e) (Contains-push_cases [] x y h)) (λ h. inr h) (Contains-append_cases (x ∷ []) xs y c)

is_in : (xs : List ℕ) (y : ℕ) → IsIn xs y
is_in [] y = inr (none_in y)
is_in (x ∷ xs) y =
    ⊎_elim
    (λ e. inl (subst (Contains (x ∷ xs)) e (in_front x xs)))
    (λ ne. ⊎_elim (λ c. inl (in_rest x y xs c)) (λ no. inr (λ c. ⊎_elim ne no (in_one x y xs c))) (is_in xs y))
    (cases_eq x y)

-- ---- which resources can be next

-- all numbers of a list are in another, or one isn't
abbrev AllIn : List ℕ → List ℕ → Type 0
AllIn xs ys = (q : ℕ) → Contains xs q → Contains ys q

abbrev OneOut : List ℕ → List ℕ → Type 0
OneOut xs ys = (q : ℕ) × Contains xs q × (Contains ys q → ⊥)

all_or_one : (xs ys : List ℕ) → AllIn xs ys ⊎ OneOut xs ys
all_or_one [] ys = inl (λ q c. absurd (none_in q c))
all_or_one (x ∷ xs) ys =
    ⊎_elim
    (λ c. ⊎_elim
    (λ all. inl (λ q h. ⊎_elim (λ e. subst (Contains ys) e c) (λ h. all q h) (in_one x q xs h)))
    (λ o. inr (o.0, in_rest x o.0 xs o.1, o.2))
    (all_or_one xs ys))
    (λ no. inr (x, in_front x xs, no))
    (is_in ys x)

-- all that drive resource x in the same cycle are in the order
abbrev IsReady : List Resource → List ℕ → ℕ → Type 0
IsReady rs order x = (q : ℕ) → Passes rs q x → Contains order q

-- one of them isn't
abbrev IsStuck : List Resource → List ℕ → ℕ → Type 0
IsStuck rs order x = (q : ℕ) × Passes rs q x × (Contains order q → ⊥)

abbrev OneReady : List Resource → List ℕ → List ℕ → Type 0
OneReady rs order xs = (x : ℕ) × Has xs x × IsReady rs order x

one_ready : (rs : List Resource) (order xs : List ℕ) → OneReady rs order xs ⊎ ((x : ℕ) → Has xs x → IsStuck rs order x)
one_ready rs order [] = inr (λ x h. absurd h)
one_ready rs order (x ∷ xs) =
    ⊎_elim
    (λ all. inl (x, inl refl, λ q p. all q (passes_input rs x q p)))
    (λ o. ⊎_elim
    (λ f. inl (f.0, inr f.1, f.2))
    (λ stuck. inr (λ y h. ⊎_elim (λ e. subst (IsStuck rs order) (sym e) (o.0, input_passes rs x o.0 o.1, o.2)) (λ z. stuck y z) h))
    (one_ready rs order xs))
    (all_or_one (inputs rs x) order)

-- ---- loops

-- the least of some numbers
abbrev IsLeastOf : (ℕ → ℕ) → ℕ → ℕ → ℕ → Type 0
IsLeastOf f from count p = (from ≤ p) × (p ≤ from + count) × ((k : ℕ) → from ≤ k → k ≤ from + count → f p ≤ f k)

least_of : (f : ℕ → ℕ) (from count : ℕ) → (p : ℕ) × IsLeastOf f from count p
least_of f from zero = (from, (omega arith, omega arith, λ k low high. let e : from ≡ k = omega arith in let same : f from ≡ f k = ap f e in omega arith))
least_of f from (suc count) =
    let b = least_of f from count in
    let low : from ≤ b.0 = b.1.0 in
    let high : b.0 ≤ from + count = b.1.1 in
    ⊎_elim
    (λ lt. (
      from + suc count,
      (
        omega arith,
        omega arith,
        λ k l h. ⊎_elim
            (λ before. let best : f b.0 ≤ f k = b.1.2 k l (omega arith) in omega arith)
            (λ after. let e : from + suc count ≡ k = omega arith in let same : f (from + suc count) ≡ f k = ap f e in omega arith)
            (cases_lt k (from + suc count)),
      ),
    ))
    (λ ge. (
      b.0,
      (
        low,
        omega arith,
        λ k l h. ⊎_elim
            (λ before. b.1.2 k l (omega arith))
            (λ after. let e : from + suc count ≡ k = omega arith in let same : f (from + suc count) ≡ f k = ap f e in omega arith)
            (cases_lt k (from + suc count)),
      ),
    ))
    (cases_lt (f (from + suc count)) (f b.0))

abbrev SomeLoop : List Resource → Type 0
SomeLoop rs = (loop : List ℕ) × IsCombinationalLoop rs loop

-- a path whose last resource is driven by one of it gives a loop
closed_path : (rs : List Resource) (path : List ℕ) (q : ℕ) → IsPath rs path → Passes rs q (slice_index path (length path - 1)) → Contains path q → SomeLoop rs
closed_path rs path q is passes c =
    let from = place_in path q c in
    let within : from.0 < length path = from.1 in
    let least = least_of (λ k. slice_index path k) from.0 (length path - 1 - from.0) in
    let after : from.0 ≤ least.0 = least.1.0 in
    let high : least.0 ≤ from.0 + (length path - 1 - from.0) = least.1.1 in
    let ring : List ℕ = reverse (slice_range path from.0 (least.0 + 1)) ++ reverse (drop (least.0 + 1) path) in
    (ring, ring_loop rs path q ring is passes (turned_ring path q from.0 least.0 ring from.2 after (omega arith) (λ k l h. least.1.2 k l (omega arith)) refl))

-- where each of some resources is driven by one of them, a path among them closes
module _ (rs : List Resource) (left : List ℕ) (known : (x : ℕ) → Has left x → x < length rs) (driven : (x : ℕ) → Has left x → (q : ℕ) × Passes rs q x × Has left q) where
  -- each of them is on the path, or still to come
  abbrev Splits : List ℕ → List ℕ → Type 0
  Splits path fresh = (x : ℕ) → Has left x → Contains path x ⊎ Has fresh x

  split_more : (path fresh : List ℕ) (q : ℕ) → Splits path fresh → Splits (path ++ q ∷ []) (without q fresh)
  split_more path fresh q split x l =
      ⊎_elim
      (λ e. inl (subst (Contains (path ++ q ∷ [])) (sym e) (Contains-push path q)))
      (λ ne. ⊎_elim (λ c. inl (Contains-append_left path (q ∷ []) x c)) (λ f. inr (others q x fresh ne f)) (split x l))
      (cases_eq x q)

  last_of : (path : List ℕ) (q : ℕ) → slice_index (path ++ q ∷ []) (length (path ++ q ∷ []) - 1) ≡ q
  last_of path q =
      let long = length_push path q in
      let end : length path ≡ length (path ++ q ∷ []) - 1 = omega arith in
      get_or_push path q 0 (length (path ++ q ∷ []) - 1) end

  to_come : (path fresh : List ℕ) (q : ℕ) → Splits path fresh → Has left q → (Contains path q → ⊥) → Has fresh q
  to_come path fresh q split l off = ⊎_elim {C = Has fresh q} (λ c. absurd (off c)) (λ h. h) (split q l)

  walk_on : (most : ℕ) (path fresh : List ℕ) → IsPath rs path → 0 < length path → Has left (slice_index path (length path - 1)) → Splits path fresh → length fresh ≤ most → SomeLoop rs
  walk_on zero path fresh is some last split few =
      let q = driven (slice_index path (length path - 1)) last in
      ⊎_elim
      (λ c. closed_path rs path q.0 is q.1 c)
      (λ off. absurd (let h = shorter q.0 fresh (to_come path fresh q.0 split q.2 off) in omega arith))
      (is_in path q.0)
  walk_on (suc most) path fresh is some last split few =
      let q = driven (slice_index path (length path - 1)) last in
      ⊎_elim
      (λ c. closed_path rs path q.0 is q.1 c)
      (λ off.
      let h = shorter q.0 fresh (to_come path fresh q.0 split q.2 off) in
      let long = length_push path q.0 in
      walk_on most (path ++ q.0 ∷ []) (without q.0 fresh)
      (path_opened rs path q.0 is (known q.0 q.2) off (λ s. q.1))
      (omega arith)
      (subst (Has left) (sym (last_of path q.0)) q.2)
      (split_more path fresh q.0 split)
      (omega arith))
      (is_in path q.0)

-- ---- orders

has_none : (xs : List ℕ) → length xs ≡ 0 → (y : ℕ) → Has xs y → ⊥
has_none [] e y h = h
has_none (x ∷ xs) e y h = absurd (omega arith)

has_some : (xs : List ℕ) → 0 < length xs → (y : ℕ) × Has xs y
has_some [] h = absurd (omega arith)
has_some (x ∷ xs) h = (x, inl refl)

path_none : (rs : List Resource) → IsPath rs []
path_none rs = record { known = λ k h. absurd (omega arith); once = λ j k hj hk e. absurd (omega arith); links = λ k h. absurd (omega arith) }

path_one : (rs : List Resource) (x : ℕ) → x < length rs → IsPath rs (x ∷ [])
path_one rs x h = path_opened rs [] x (path_none rs) h (none_in x) (λ s. absurd (omega arith))

closed_none : (rs : List Resource) → IsClosed rs []
closed_none rs = record { known = λ k h. absurd (omega arith); rising = λ k q h p. absurd (omega arith) }

abbrev SomeOrder : List Resource → Type 0
SomeOrder rs = (order : List ℕ) × IsTopological rs order

-- an order so far, with what is left
record IsPartial (rs : List Resource) (order left : List ℕ) : Type 0 where
  long : length order + length left ≡ length rs
  closed : IsClosed rs order
  known : (x : ℕ) → Has left x → x < length rs
  split : (r : ℕ) → r < length rs → Contains order r ⊎ Has left r

whole : (rs : List Resource) (order left : List ℕ) → IsPartial rs order left → length left ≡ 0 → SomeOrder rs
whole rs order left is none =
    let long : length order + length left ≡ length rs = is.long in (
      order,
      record {
        long = omega arith;
        known = is.closed.known;
        all = λ r h. ⊎_elim {C = Contains order r} (λ c. c) (λ l. absurd (has_none left none r l)) (is.split r h);
        rising = is.closed.rising;
      },
    )

-- one that is ready is next
taken_next : (rs : List Resource) (order left : List ℕ) (x : ℕ) → IsPartial rs order left → Has left x → IsReady rs order x → IsPartial rs (order ++ x ∷ []) (without x left)
taken_next rs order left x is l ready =
    let long : length order + length left ≡ length rs = is.long in
    let less = shorter x left l in
    let more = length_push order x in
    record {
      long = omega arith;
      closed = order_closed rs order x is.closed (is.known x l) ready;
      known = λ y h. is.known y (still x y left h);
      split = λ r h. ⊎_elim
          (λ e. inl (subst (Contains (order ++ x ∷ [])) (sym e) (Contains-push order x)))
          (λ ne. ⊎_elim (λ c. inl (Contains-append_left order (x ∷ []) r c)) (λ f. inr (others x r left ne f)) (is.split r h))
          (cases_eq r x);
    }

-- where none is ready there is a loop
stuck_loop : (rs : List Resource) → AreKnown rs → (order left : List ℕ) → IsPartial rs order left → 0 < length left → ((x : ℕ) → Has left x → IsStuck rs order x) → SomeLoop rs
stuck_loop rs drivers order left is some stuck =
    let start = has_some left some in
    let driven : (x : ℕ) → Has left x → (q : ℕ) × Passes rs q x × Has left q =
    λ x l. let s = stuck x l in (s.0, s.1, ⊎_elim {C = Has left s.0} (λ c. absurd (s.2 c)) (λ h. h) (is.split s.0 (drivers s.0 x s.1.driver))) in
    walk_on rs left is.known driven (length left) (start.0 ∷ []) left (path_one rs start.0 (is.known start.0 start.1)) (omega arith) start.1 (λ x l. inr l) (omega arith)

solved_from : (rs : List Resource) → AreKnown rs → (n : ℕ) (order left : List ℕ) → IsPartial rs order left → length left ≡ n → SomeOrder rs ⊎ SomeLoop rs
solved_from rs drivers zero order left is e = inl (whole rs order left is e)
solved_from rs drivers (suc n) order left is e =
    ⊎_elim
    (λ f. let less = shorter f.0 left f.1 in solved_from rs drivers n (order ++ f.0 ∷ []) (without f.0 left) (taken_next rs order left f.0 is f.1 f.2) (omega arith))
    (λ stuck. inr (stuck_loop rs drivers order left is (omega arith) stuck))
    (one_ready rs order left)

-- resources whose drivers are known have an order, or else a loop
pub order_or_loop : (rs : List Resource) → AreKnown rs → ((order : List ℕ) × IsTopological rs order) ⊎ ((loop : List ℕ) × IsCombinationalLoop rs loop)
order_or_loop rs drivers =
    let long = length_below (length rs) in
    solved_from rs drivers (length rs) [] (below (length rs))
    (record {
      long = omega arith;
      closed = closed_none rs;
      known = λ x h. below_has (length rs) x h;
      split = λ r h. inr (has_below (length rs) r h);
    })
    long
