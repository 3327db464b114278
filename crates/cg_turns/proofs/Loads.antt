-- Loads that are taken in, written over those of their nodes or beside them.
use Rattle.std.proofs.Common.{◌≡◌, ℕ, ◌+◌, ◌<◌, ◌≤◌, inl, inr, zero, suc, Bool, false, cond, List, [], ◌∷◌, ◌++◌, length, sym, ap, ◌∙◌, subst, arith, ⊎_elim, refl, take, set, get_or, length-set}
use Rattle.std.specs.Prelude.{Contains, Some, None}
use Rattle.std.proofs.lemmas.Bool.{cases_eq, ne_eqb}
use Rattle.std.proofs.lemmas.List.{get_or-set_same, get_or-set_other, get_or_default, get_or_read_under}
use Rattle.std.proofs.lemmas.List.Elements.{Contains-push, Contains-push_cases, Contains-append_left}
use Rattle.cg_turns.specs.declared.pair.Access.{Access}
use Rattle.cg_turns.specs.Trace.{Covers, IsThinned, Takes, Keeps, no_access}
use Rattle.cg_turns.specs.Last.{no_store, store_at, kept_in, with_store_place, IsThinnedBehind, TakesBehind}
use Rattle.cg_turns.proofs.Pairs.{item_last, item_first, item_here}

-- an access of a list covers itself
pub covers_self : (xs : List Access) (x : Access) → Contains xs x → Covers xs x.node x.turn
covers_self xs x c = (x, c, refl, (let z : x.turn ≤ x.turn = omega arith in z))

pub takes_push : (x : Access) (old : List Access) → Takes x old (old ++ x ∷ [])
takes_push x old =
    record {
      has = covers_self (old ++ x ∷ []) x (Contains-push old x);
      covers = λ y c. covers_self (old ++ x ∷ []) y (Contains-append_left old (x ∷ []) y c);
      origin = λ y c. ⊎_elim (λ h. inr h) (λ e. inl (sym e)) (Contains-push_cases old x y c);
    }

-- a list that has a later access of the node stays
pub takes_none : (x : Access) (old : List Access) (p : ℕ) → p < length old → (get_or old p no_access).node ≡ x.node → x.turn ≤ (get_or old p no_access).turn → Takes x old old
takes_none x old p h e later =
    record {
      has = (get_or old p no_access, (p, h, get_or_default old p (get_or old p no_access) no_access h), e, later);
      covers = λ y c. covers_self old y c;
      origin = λ y c. inr c;
    }

pub takes_set : (x : Access) (old : List Access) (p : ℕ) → p < length old → (get_or old p no_access).node ≡ x.node → (get_or old p no_access).turn ≤ x.turn → Takes x old (set old p x)
takes_set x old p h e earlier =
    let long = length-set old p x in
    let here : Contains (set old p x) x = (p, (let z : p < length (set old p x) = omega arith in z), get_or-set_same old p x x h) in
    record {
      has = covers_self (set old p x) x here;
      covers = λ y c.
          ⊎_elim
          (λ q.
          let is : get_or old p no_access ≡ y = ap (λ z. get_or old z no_access) (sym q) ∙ sym (get_or_default old c.0 y no_access c.1) ∙ c.2 in
          (x, here, sym e ∙ ap (λ (z : Access). z.node) is, (let t : y.turn ≡ (get_or old p no_access).turn = ap (λ (z : Access). z.turn) (sym is) in let z : y.turn ≤ x.turn = omega arith in z)))
          (λ q. covers_self (set old p x) y (c.0, (let z : c.0 < length (set old p x) = let b : c.0 < length old = c.1 in omega arith in z), get_or-set_other old p c.0 x y q ∙ c.2))
          (cases_eq c.0 p);
      origin = λ y c.
          ⊎_elim (λ q. inl (sym c.2 ∙ ap (λ z. get_or (set old p x) z y) q ∙ get_or-set_same old p x y h))
          (λ q. inr (c.0, (let z : c.0 < length old = let b : c.0 < length (set old p x) = c.1 in omega arith in z), sym (get_or-set_other old p c.0 x y q) ∙ c.2))
          (cases_eq c.0 p);
    }

-- what covers a list's accesses
covered : (old new : List Access) (v i : ℕ) → ((y : Access) → Contains old y → Covers new y.node y.turn) → Covers old v i → Covers new v i
covered old new v i h c = let x = h c.0 c.1 in (x.0, x.1, x.2 ∙ c.2, (let a : i ≤ c.0.turn = c.3 in let b : c.0.turn ≤ x.0.turn = x.3 in let z : i ≤ x.0.turn = omega arith in z))

-- a list that was thinned first
pub takes_thinned : (x : Access) (old thin new : List Access) → IsThinned old thin → Takes x thin new → Takes x old new
takes_thinned x old thin new t k =
    record {
      has = k.has;
      covers = λ y c. covered thin new y.node y.turn k.covers (t.covers y c);
      origin = λ y c. ⊎_elim (λ e. inl e) (λ h. inr (t.origin y h)) (k.origin y c);
    }

pub thinned_self : (xs : List Access) → IsThinned xs xs
thinned_self xs = record { covers = λ y c. covers_self xs y c; origin = λ y c. c }

-- a thinned list takes in the next access
pub thinned_more : (xs : List Access) (p : ℕ) → p < length xs → (old new : List Access) → IsThinned (take p xs) old → Takes (get_or xs p no_access) old new → IsThinned (take (p + 1) xs) new
thinned_more xs p h old new t k =
    record {
      covers = λ y c.
          ⊎_elim
          (λ b. covered old new y.node y.turn k.covers (t.covers y b))
          (λ e. subst (λ (z : Access). Covers new z.node z.turn) e k.has)
          (item_last xs p y c h);
      origin = λ y c. ⊎_elim (λ e. subst (λ z. Contains (take (p + 1) xs) z) (sym e) (item_here xs p h)) (λ b. item_first xs p y h (t.origin y b)) (k.origin y c);
    }

-- a list whose first place is the store's

pub behind_self : (xs : List Access) → 0 < length xs → IsThinnedBehind xs xs
behind_self [] h = absurd (omega arith)
behind_self (x ∷ xs) h = (refl, thinned_self xs)

pub behind_push : (x : Access) (old : List Access) → 0 < length old → TakesBehind x old (old ++ x ∷ [])
behind_push x [] h = absurd (omega arith)
behind_push x (y ∷ old) h = (refl, takes_push x old)

pub behind_kept : (x : Access) (old : List Access) (p : ℕ) → 0 < p → p < length old → (get_or old p no_access).node ≡ x.node → x.turn ≤ (get_or old p no_access).turn → TakesBehind x old old
behind_kept x [] p a h e later = absurd (omega arith)
behind_kept x (y ∷ old) zero a h e later = absurd (omega arith)
behind_kept x (y ∷ old) (suc p) a h e later = (refl, takes_none x old p (omega arith) e later)

pub behind_set : (x : Access) (old : List Access) (p : ℕ) → 0 < p → p < length old → (get_or old p no_access).node ≡ x.node → (get_or old p no_access).turn ≤ x.turn → TakesBehind x old (set old p x)
behind_set x [] p a h e earlier = absurd (omega arith)
behind_set x (y ∷ old) zero a h e earlier = absurd (omega arith)
behind_set x (y ∷ old) (suc p) a h e earlier = (refl, takes_set x old p (omega arith) e earlier)

pub behind_more : (xs : List Access) (p : ℕ) → 0 < p → p < length xs → (old new : List Access) → IsThinnedBehind (take p xs) old → TakesBehind (get_or xs p no_access) old new → IsThinnedBehind (take (p + 1) xs) new
behind_more [] p a h old new t k = absurd (omega arith)
behind_more (x ∷ xs) zero a h old new t k = absurd (omega arith)
behind_more (x ∷ xs) (suc p) a h [] new t k = absurd t
behind_more (x ∷ xs) (suc p) a h (y ∷ old) [] t k = absurd k
behind_more (x ∷ xs) (suc p) a h (y ∷ old) (z ∷ new) t k =
    let more : IsThinnedBehind (take (suc (p + 1)) (x ∷ xs)) (z ∷ new) = (k.0 ∙ t.0, thinned_more xs p (omega arith) old new t.1 k.1) in
    subst (λ (n : ℕ). IsThinnedBehind (take n (x ∷ xs)) (z ∷ new)) (let e : suc (p + 1) ≡ suc p + 1 = omega arith in e) more

-- at first the store's place alone
pub behind_first : (xs : List Access) (y : Access) (new : List Access) → 0 < length xs → y ≡ get_or xs 0 y → new ≡ y ∷ [] → IsThinnedBehind (take 1 xs) new
behind_first [] y new h r e = absurd (omega arith)
behind_first (x ∷ xs) y new h r e = subst (λ z. IsThinnedBehind (x ∷ []) z) (sym e) (r, thinned_self [])

pub behind_some : (old new : List Access) → IsThinnedBehind old new → 0 < length new
behind_some [] new t = absurd t
behind_some (x ∷ old) [] t = absurd t
behind_some (x ∷ old) (y ∷ new) t = let h : 0 < suc (length new) = omega arith in h

-- the same by what was read of the lists
pub behind_written : (x y : Access) (old now : List Access) (p : ℕ) → now ≡ old → 0 < p → p < length now → (get_or now p no_access).node ≡ x.node → y ≡ get_or old p y → y.turn < x.turn → TakesBehind x old (set old p x)
behind_written x y old now p e a h n r earlier =
    let within : p < length old = subst (λ z. p < length z) e h in
    let read : y ≡ get_or old p no_access = get_or_read_under old p (length old) y no_access r within refl in
    let turn : y.turn ≡ (get_or old p no_access).turn = ap (λ (z : Access). z.turn) read in
    behind_set x old p a within (subst (λ z. (get_or z p no_access).node ≡ x.node) e n) (let z : (get_or old p no_access).turn ≤ x.turn = omega arith in z)

pub behind_read : (xs : List Access) (p : ℕ) (y : Access) → 0 < p → p < length xs → y ≡ get_or xs p y → (old new : List Access) → IsThinnedBehind (take p xs) old → TakesBehind y old new → IsThinnedBehind (take (p + 1) xs) new
behind_read xs p y a h r old new t k = behind_more xs p a h old new t (subst (λ z. TakesBehind z old new) (get_or_read_under xs p (length xs) y no_access r h refl) k)

-- a store is kept alone
pub keeps_store : (x : Access) (list : List Access) → x.node < no_store.node → list ≡ x ∷ [] → kept_in list ≡ record { store = Some x; loads = [] }
keeps_store x list h e = ap kept_in e ∙ ap (λ (b : Bool). record { store = cond b None (Some x); loads = [] }) (ne_eqb x.node no_store.node (λ q. absurd (omega arith)))

-- a load is kept beside the others, after they were thinned
pub keeps_load : (x : Access) (old thin new : List Access) → IsThinnedBehind (with_store_place old) thin → TakesBehind x thin new → Keeps false x (kept_in old) (kept_in new)
keeps_load x [] [] new t k = absurd t
keeps_load x (y ∷ old) [] new t k = absurd t
keeps_load x [] (z ∷ thin) [] t k = absurd k
keeps_load x (y ∷ old) (z ∷ thin) [] t k = absurd k
keeps_load x [] (z ∷ thin) (w ∷ new) t k = (ap store_at (k.0 ∙ t.0), takes_thinned x [] thin new t.1 k.1)
keeps_load x (y ∷ old) (z ∷ thin) (w ∷ new) t k = (ap store_at (k.0 ∙ t.0), takes_thinned x old thin new t.1 k.1)
