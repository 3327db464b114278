-- What a search takes.
use Rattle.std.proofs.Common.{◌≡◌, ℕ, ◌+◌, ◌^◌, ◌<◌, ◌≤◌, ◌≢◌, ◌⊎◌, inl, inr, List, [], ◌∷◌, ◌++◌, length, sym, ap, ◌∙◌, subst, arith, ⊎_elim, set, length-set, true, false, refl, get_or, take}
use Rattle.std.specs.Prelude.{Option, Some, None, Contains, IsPermutation, sum_by, replicate, eqb}
use Rattle.std.specs.Option.{option_eq}
use Rattle.std.specs.declared.cmp.Reverse.{Reverse}
use Rattle.std.proofs.lemmas.Bool.{cases_eq, cases_lt, lt-ltb, le-ltb, eqb-true, eq-eqb}
use Rattle.std.proofs.lemmas.List.{get_or-set_same, get_or-set_other, take_more, get_or-replicate}
use Rattle.std.proofs.Math.ListN.{get_or-eq_default, length-replicate}
use Rattle.std.proofs.lemmas.List.Elements.{Contains-push_cases, Contains-push, Contains-append_left, Contains-append_right, Contains-append_cases}
use Rattle.std.proofs.lemmas.List.Sorted.{Contains-permutation, IsPermutation-sym, length_permutation}
use Rattle.std.proofs.lemmas.List.Sums.{sum_by-set}
use Rattle.cg_distance.specs.declared.links.Link.{Link}
use Rattle.cg_distance.specs.declared.reach.Reached.{Reached}
use Rattle.cg_distance.specs.Found.{total_of, nearer, waiting, Waits, Has, weight, work, OnlyAt, Beyond, Due, Takes}
use Rattle.cg_distance.specs.Leaving.{link}

-- a total that is nearer is less than all that the node had
nearer_less : (x y : ℕ) (known : Option ℕ) → nearer x known ≡ true → known ≡ Some y → x < y
nearer_less x y None n e = absurd (cc)
nearer_less x y (Some z) n e =
    let same : z ≡ y = cc in
    ⊎_elim {C = x < y} (λ h. omega arith) (λ h. let no : nearer x (Some z) ≡ false = le-ltb x z h in absurd (cc)) (cases_lt x z)

nearer_weight : (x : ℕ) (known : Option ℕ) → x < 2 ^ 32 → nearer x known ≡ true → x < weight known
nearer_weight x None fits n = fits
nearer_weight x (Some y) fits n = nearer_less x y (Some y) n refl

-- a total that is not nearer is had
not_nearer : (totals : List (Option ℕ)) (v x : ℕ) (known : Option ℕ) → total_of totals v ≡ known → nearer x known ≡ false → Has totals v x
not_nearer totals v x None e n = absurd (cc)
not_nearer totals v x (Some y) e n =
    inr (y, e, ⊎_elim {C = y ≤ x} (λ h. let yes : nearer x (Some y) ≡ true = lt-ltb x y h in absurd (cc)) (λ h. h) (cases_lt x y))

-- all that was offered was had before
takes_none : (offered : ℕ → ℕ → Type 0) (totals : List (Option ℕ)) (queue : List (Reverse Reached)) → ((v e : ℕ) → offered v e → Has totals v e) → Takes offered totals queue totals queue
takes_none offered totals queue had = record {
  long = refl;
  taken = had;
  falls = λ v e h. h;
  fresh = λ v x is. inl is;
  kept = λ v x w. w;
  nodes = λ v x w. inl w;
  less = omega arith;
}

-- one total was nearer, and its node waits
module _ (u x : ℕ) (totals : List (Option ℕ)) (queue queue' : List (Reverse Reached)) where
  abbrev here : Reverse Reached
  here = waiting (record { total = x; node = u })

  abbrev lower : List (Option ℕ)
  lower = set totals u (Some x)

  at_node : u < length totals → total_of lower u ≡ Some x
  at_node h = get_or-set_same totals u (Some x) None h

  elsewhere : (v : ℕ) → v ≢ u → total_of lower v ≡ total_of totals v
  elsewhere v ne = get_or-set_other totals u v (Some x) None ne

  one_falls : u < length totals → nearer x (total_of totals u) ≡ true → (v e : ℕ) → Has totals v e → Has lower v e
  one_falls h n v e (inl z) = inl z
  one_falls h n v e (inr (y, is, le)) =
      ⊎_elim
      (λ s. let is' : total_of totals u ≡ Some y = subst (λ w. total_of totals w ≡ Some y) s is in
      let few : x < y = nearer_less x y (total_of totals u) n is' in
      let most : y ≤ e = le in
      inr (x, subst (λ w. total_of lower w ≡ Some x) (sym s) (at_node h), omega arith))
      (λ ne. inr (y, elsewhere v ne ∙ is, le))
      (cases_eq v u)

  one_less : u < length totals → nearer x (total_of totals u) ≡ true → x < 2 ^ 32 → IsPermutation (here ∷ queue) queue' → work lower queue' ≤ work totals queue
  one_less h n fits p =
      let longer : length queue' ≡ length (here ∷ queue) = length_permutation (here ∷ queue) queue' p in
      let sums : sum_by weight lower + weight (total_of totals u) ≡ sum_by weight totals + x = sum_by-set weight totals u (Some x) None h in
      let few : x < weight (total_of totals u) = nearer_weight x (total_of totals u) fits n in
      omega arith

  pub takes_one : u < length totals → nearer x (total_of totals u) ≡ true → x < 2 ^ 32 → IsPermutation (here ∷ queue) queue' → Takes (OnlyAt u x) totals queue lower queue'
  takes_one h n fits p =
      let first : Contains queue' here = Contains-permutation (here ∷ queue) queue' here p (Contains-append_left (here ∷ []) queue here (Contains-push [] here)) in
      record {
        long = length-set totals u (Some x);
        taken = λ v e o. inr (x, subst (λ w. total_of lower w ≡ Some x) (sym o.0) (at_node h), let same : e ≡ x = o.1 in omega arith);
        falls = one_falls h n;
        fresh = λ v y is. ⊎_elim
            (λ s. let same : Some y ≡ Some x = sym is ∙ subst (λ w. total_of lower w ≡ Some x) (sym s) (at_node h) in
            let yx : y ≡ x = cc in
            inr ((s, yx), rw (s, yx) first))
            (λ ne. inl (sym (elsewhere v ne) ∙ is))
            (cases_eq v u);
        kept = λ v y w. Contains-permutation (here ∷ queue) queue' (waiting (record { total = y; node = v })) p (Contains-append_right (here ∷ []) queue (waiting (record { total = y; node = v })) w);
        nodes = λ v y w.
            let q : Reverse Reached = waiting (record { total = y; node = v }) in
            ⊎_elim
            (λ c. ⊎_elim {C = Waits queue v y ⊎ (v < length totals)} (λ z. absurd (let less : z.0 < 0 = z.1 in omega arith)) (λ (e : here ≡ q). let s : u ≡ v = ap (λ (r : Reverse Reached). r.0.node) e in inr (let m : v < length totals = omega arith in m)) (Contains-push_cases [] here q c))
            (λ c. inl c)
            (Contains-append_cases (here ∷ []) queue q (Contains-permutation queue' (here ∷ queue) q (IsPermutation-sym (here ∷ queue) queue' p) w));
        less = one_less h n fits p;
      }

-- what is offered in two parts is taken in two steps
takes_more : (P Q R : ℕ → ℕ → Type 0) (a b c : List (Option ℕ)) (p q r : List (Reverse Reached)) → ((v e : ℕ) → R v e → P v e ⊎ Q v e) → ((v e : ℕ) → P v e → R v e) → ((v e : ℕ) → Q v e → R v e) →
    Takes P a p b q → Takes Q b q c r → Takes R a p c r
takes_more P Q R a b c p q r split left right s t = record {
  long = t.long ∙ s.long;
  taken = λ v e o. ⊎_elim (λ h. t.falls v e (s.taken v e h)) (λ h. t.taken v e h) (split v e o);
  falls = λ v e h. t.falls v e (s.falls v e h);
  fresh = λ v x is. ⊎_elim
      (λ h. ⊎_elim (λ k. inl k) (λ k. inr (left v x k.0, t.kept v x k.1)) (s.fresh v x h))
      (λ k. inr (right v x k.0, k.1))
      (t.fresh v x is);
  kept = λ v x w. t.kept v x (s.kept v x w);
  nodes = λ v x w. ⊎_elim (λ h. s.nodes v x h) (λ h. inr (subst (λ n. v < n) s.long h)) (t.nodes v x w);
  less = let one = s.less in let two = t.less in omega arith;
}

-- one link more was followed
pub takes_next : (links : List Link) (place x : ℕ) (none : Link) (a b c : List (Option ℕ)) (p q r : List (Reverse Reached)) → place < length links →
    Takes (Beyond (take place links) x) a p b q → Takes (OnlyAt (get_or links place none).to (x + (get_or links place none).distance)) b q c r → Takes (Beyond (take (place + 1) links) x) a p c r
takes_next links place x none a b c p q r h s t =
    let last : Link = get_or links place none in
    let longer : take (place + 1) links ≡ take place links ++ last ∷ [] = take_more links place none h in
    takes_more (Beyond (take place links) x) (OnlyAt last.to (x + last.distance)) (Beyond (take (place + 1) links) x) a b c p q r
    (λ v e o. ⊎_elim
    (λ k. inl (o.0, k, o.2))
    (λ (k : last ≡ link v o.0).
    let to : last.to ≡ v = ap (λ (z : Link). z.to) k in
    let by : last.distance ≡ o.0 = ap (λ (z : Link). z.distance) k in
    inr (sym to, o.2 ∙ ap (λ d. x + d) (sym by)))
    (Contains-push_cases (take place links) last (link v o.0) (subst (λ (xs : List Link). Contains xs (link v o.0)) longer o.1)))
    (λ v e o. (o.0, subst (λ (xs : List Link). Contains xs (link v o.0)) (sym longer) (Contains-append_left (take place links) (last ∷ []) (link v o.0) o.1), o.2))
    (λ v e o. (last.distance, subst (λ (xs : List Link). Contains xs (link v last.distance)) (sym longer) (subst (λ z. Contains (take place links ++ last ∷ []) (link z last.distance)) (sym o.0) (Contains-push (take place links) last)), o.1))
    s t

-- a total that is no 32-bit number counts as had
pub takes_unfit : (v e : ℕ) (totals : List (Option ℕ)) (queue : List (Reverse Reached)) → 2 ^ 32 ≤ e → Takes (OnlyAt v e) totals queue totals queue
takes_unfit v e totals queue h = takes_none (OnlyAt v e) totals queue (λ w f o. inl (let same : f ≡ e = o.1 in omega arith))

pub takes_not_nearer : (v e : ℕ) (totals : List (Option ℕ)) (queue : List (Reverse Reached)) → nearer e (total_of totals v) ≡ false → Takes (OnlyAt v e) totals queue totals queue
takes_not_nearer v e totals queue n = takes_none (OnlyAt v e) totals queue (λ w f o. rw (o.0, o.1) (not_nearer totals v e (total_of totals v) refl n))

pub none_found : (n v : ℕ) (totals : List (Option ℕ)) → totals ≡ replicate n None → total_of totals v ≡ None
none_found n v totals e = rw e (⊎_elim (λ h. get_or-replicate n v None None h) (λ h. get_or-eq_default (replicate n None) None (rw length-replicate h)) (cases_lt v n))

-- going on from r takes all that is due, or nothing is due
pub takes_due : (links : List Link) (r : Reached) (a b : List (Option ℕ)) (p q : List (Reverse Reached)) → total_of a r.node ≡ Some r.total → Takes (Beyond links r.total) a p b q → Takes (Due a links r) a p b q
takes_due links r a b p q is t = record {
  long = t.long;
  taken = λ v e o. t.taken v e o.1;
  falls = t.falls;
  fresh = λ v x h. ⊎_elim (λ k. inl k) (λ k. inr ((is, k.0), k.1)) (t.fresh v x h);
  kept = t.kept;
  nodes = t.nodes;
  less = t.less;
}

pub takes_overdue : (links : List Link) (r : Reached) (a : List (Option ℕ)) (p : List (Reverse Reached)) → (total_of a r.node ≡ Some r.total → ⊥) → Takes (Due a links r) a p a p
takes_overdue links r a p since = takes_none (Due a links r) a p (λ v e o. absurd (since o.0))

-- a total that was compared
pub is_same : (known : Option ℕ) (x : ℕ) → option_eq eqb known (Some x) ≡ true → known ≡ Some x
is_same None x h = absurd (cc)
is_same (Some y) x h = ap (λ (z : ℕ). Some z) (eqb-true y x h)

pub is_other : (known : Option ℕ) (x : ℕ) → option_eq eqb known (Some x) ≡ false → known ≡ Some x → ⊥
is_other None x h e = cc
is_other (Some y) x h e = let same : y ≡ x = cc in let yes : eqb y x ≡ true = eq-eqb y x same in cc
