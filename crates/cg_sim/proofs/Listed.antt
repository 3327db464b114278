-- Lists of resources with their drivers, as they grow.
use Rattle.std.proofs.Common.{◌≡◌, ◌≢◌, ℕ, suc, ◌+◌, ◌<◌, ◌≤◌, Bool, true, false, List, [], ◌∷◌, ◌++◌, length, take, Contains, refl, sym, ap, ◌∙◌, subst, arith, ⊎_elim, length-append}
use Rattle.std.specs.Prelude.{slice_index}
use Rattle.std.proofs.lemmas.Bool.{cases_lt, true≢false}
use Rattle.std.proofs.lemmas.List.{get_or_append_left, get_or-append-add, get_or_push, get_or-take, get_or_default, length-take-le}
use Rattle.std.proofs.Math.Seq.{get_or-append_seam}
use Rattle.cg_model.specs.declared.array.Kind.{Kind}
use Rattle.cg_model.specs.declared.array.Kind.TheVariants.{Wire, Register, Port, Out}
use Rattle.cg_model.specs.Array.{Arch, resource, delay_by}
use Rattle.cg_levelize.specs.Topological.{IsTopological}
use Rattle.cg_sim.specs.declared.plan.Link.{Link}
use Rattle.cg_sim.specs.Plan.{is_register, is_net, link, IsLinked, AreListed, AreLinks, AreRising}

abbrev no_link : Link
no_link = record { resource = 0; first = 0 }

pub listed_none : (A : Arch) (kinds : Kind → Bool) (order : List ℕ) → AreListed A kinds order 0 [] []
listed_none A kinds order = record { linked = λ j h. absurd (omega arith); chosen = λ j h. absurd (omega arith); all = λ k h. absurd (omega arith) }

pub rising_none : (A : Arch) → AreRising A []
rising_none A = λ j q h. absurd (omega arith)

-- a resource of another kind is left out
pub listed_skip : (A : Arch) (kinds : Kind → Bool) (order : List ℕ) (n : ℕ) (ls : List Link) (drivers : List ℕ) →
    kinds (resource A (slice_index order n)).kind ≡ false → AreListed A kinds order n ls drivers → AreListed A kinds order (n + 1) ls drivers
listed_skip A kinds order n ls drivers other l =
    record {
      linked = l.linked;
      chosen = l.chosen;
      all = λ k h is. ⊎_elim (λ b. l.all k b is) (λ b. let e : k ≡ n = omega arith in absurd (true≢false (sym is ∙ ap (λ z. kinds (resource A (slice_index order z)).kind) e ∙ other))) (cases_lt k n);
    }

-- an entry's drivers stay where they are in a list that grows
linked_kept : (A : Arch) (drivers more : List ℕ) (l : Link) → IsLinked A drivers l → IsLinked A (drivers ++ more) l
linked_kept A drivers more l is =
    let long = length-append drivers more in
    let within = is.within in
    record {
      known = is.known;
      within = omega arith;
      none = get_or_append_left drivers more 0 l.first (omega arith) ∙ is.none;
      each = λ k h. get_or_append_left drivers more 0 (l.first + suc k) (omega arith) ∙ is.each k h;
    }

linked_last : (A : Arch) (drivers : List ℕ) (r : ℕ) → r < length A.resources →
    IsLinked A (drivers ++ length A.resources ∷ (resource A r).drivers) (record { resource = r; first = length drivers })
linked_last A drivers r known =
    let long = length-append drivers (length A.resources ∷ (resource A r).drivers) in
    record {
      known = known;
      within = omega arith;
      none = get_or-append_seam drivers (length A.resources) (resource A r).drivers 0;
      each = λ k h. get_or-append-add drivers (length A.resources ∷ (resource A r).drivers) (suc k) 0;
    }

-- the entries with one more
old_link : (ls : List Link) (l : Link) (j : ℕ) → j < length ls → link (ls ++ l ∷ []) j ≡ link ls j
old_link ls l j h = get_or_append_left ls (l ∷ []) no_link j h

last_link : (ls : List Link) (l : Link) (j : ℕ) → j ≡ length ls → link (ls ++ l ∷ []) j ≡ l
last_link ls l j e = get_or_push ls l no_link j (sym e)

-- what holds of the old entries and of the last one holds of each
each_link : (P : Link → Type 0) (ls : List Link) (l : Link) → ((j : ℕ) → j < length ls → P (link ls j)) → P l →
    (j : ℕ) → j < length (ls ++ l ∷ []) → P (link (ls ++ l ∷ []) j)
each_link P ls l old last j h =
    let long : length (ls ++ l ∷ []) ≡ length ls + 1 = length-append ls (l ∷ []) in
    ⊎_elim (λ b. subst P (sym (old_link ls l j b)) (old j b)) (λ b. let e : j ≡ length ls = omega arith in subst P (sym (last_link ls l j e)) last)
    (cases_lt j (length ls))

module _ (A : Arch) (kinds : Kind → Bool) (order : List ℕ) (n : ℕ) (ls : List Link) (drivers : List ℕ) (r : ℕ) (r_is : r ≡ slice_index order n) (known : r < length A.resources) where
  -- a resource of these kinds is added
  pub listed_more : kinds (resource A r).kind ≡ true → AreListed A kinds order n ls drivers →
      AreListed A kinds order (n + 1) (ls ++ record { resource = r; first = length drivers } ∷ []) (drivers ++ length A.resources ∷ (resource A r).drivers)
  listed_more is l =
      let new : Link = record { resource = r; first = length drivers } in
      let long : length (ls ++ new ∷ []) ≡ length ls + 1 = length-append ls (new ∷ []) in
      record {
        linked = each_link (IsLinked A (drivers ++ length A.resources ∷ (resource A r).drivers)) ls new
            (λ j h. linked_kept A drivers (length A.resources ∷ (resource A r).drivers) (link ls j) (l.linked j h)) (linked_last A drivers r known);
        chosen = each_link (λ (x : Link). kinds (resource A x.resource).kind ≡ true) ls new l.chosen is;
        all = λ k h of_kind. ⊎_elim
            (λ b. let (j, inside, same) = l.all k b of_kind in (j, omega arith, ap (λ (x : Link). x.resource) (old_link ls new j inside) ∙ same))
            (λ b. let e : k ≡ n = omega arith in (length ls, omega arith, ap (λ (x : Link). x.resource) (last_link ls new (length ls) refl) ∙ r_is ∙ ap (slice_index order) (sym e)))
            (cases_lt k n);
      }

-- a wire or port is reached at once
at_once : (k : Kind) → is_net k ≡ true → delay_by k ≡ 0
at_once Wire h = refl
at_once Port h = refl
at_once Register h = absurd (true≢false (sym h))
at_once Out h = refl

-- what is among the first n of a list has a place below n
among_first : (order : List ℕ) (n q : ℕ) → n ≤ length order → Contains (take n order) q → (k : ℕ) × (k < n) × (slice_index order k ≡ q)
among_first order n q inside (k, below, same) =
    let few : length (take n order) ≡ n = length-take-le n order inside in
    (k, omega arith, sym (get_or-take n order k 0 (omega arith)) ∙ get_or_default (take n order) k 0 q below ∙ same)

module _ (A : Arch) (order : List ℕ) (n : ℕ) (ls : List Link) (drivers : List ℕ) (r first : ℕ) (r_is : r ≡ slice_index order n) (inside : n < length order) (topological : IsTopological A.resources order) where
  -- what drives the last entry at once is an entry already
  driver_before : is_net (resource A r).kind ≡ true → AreListed A is_net order n ls drivers → (q : ℕ) → Contains (resource A r).drivers q → is_net (resource A q).kind ≡ true →
      (i : ℕ) × (i < length ls) × ((link ls i).resource ≡ q)
  driver_before is l q d net =
      let d' = subst (λ z. Contains (resource A z).drivers q) r_is d in
      let delay = subst (λ z. delay_by (resource A z).kind ≡ 0) r_is (at_once (resource A r).kind is) in
      let (k, kn, at) = among_first order n q (omega arith) (topological.rising n q inside (record { driver = d'; at_once = delay })) in
      let (i, here, is_q) = l.all k kn (subst (λ z. is_net (resource A z).kind ≡ true) (sym at) net) in
      (i, here, is_q ∙ at)

  pub rising_more : is_net (resource A r).kind ≡ true → AreListed A is_net order n ls drivers → AreRising A ls → AreRising A (ls ++ record { resource = r; first = first } ∷ [])
  rising_more is l rising j q h d net =
      let new : Link = record { resource = r; first = first } in
      let long : length (ls ++ new ∷ []) ≡ length ls + 1 = length-append ls (new ∷ []) in
      ⊎_elim
      (λ b.
      let (i, lower, same) = rising j q b (subst (λ (x : Link). Contains (resource A x.resource).drivers q) (old_link ls new j b) d) net in
      (i, lower, ap (λ (x : Link). x.resource) (old_link ls new i (omega arith)) ∙ same))
      (λ b.
      let e : j ≡ length ls = omega arith in
      let (i, lower, same) = driver_before is l q (subst (λ (x : Link). Contains (resource A x.resource).drivers q) (last_link ls new j e) d) net in
      (i, omega arith, ap (λ (x : Link). x.resource) (old_link ls new i lower) ∙ same))
      (cases_lt j (length ls))

-- when the whole order is gone through, all resources of the kinds are entries
pub all_listed : (A : Arch) (kinds : Kind → Bool) (order : List ℕ) (n : ℕ) (ls : List Link) (drivers : List ℕ) → n ≡ length order → IsTopological A.resources order → AreListed A kinds order n ls drivers → AreLinks A kinds ls drivers
all_listed A kinds order n ls drivers e topological l =
    record {
      linked = l.linked;
      chosen = l.chosen;
      all = λ r known is.
          let (k, below, same) = topological.all r known in
          let at : slice_index order k ≡ r = get_or_default order k 0 r below ∙ same in
          let (j, here, is_r) = l.all k (omega arith) (subst (λ z. kinds (resource A z).kind ≡ true) (sym at) is) in
          (j, here, is_r ∙ at);
    }

-- the same, of lists that are equal to those
pub listed_added : (A : Arch) (kinds : Kind → Bool) (order : List ℕ) (n : ℕ) (ls : List Link) (drivers : List ℕ) (r : ℕ) → r ≡ slice_index order n → r < length A.resources →
    kinds (resource A r).kind ≡ true → AreListed A kinds order n ls drivers →
    (ls' : List Link) (drivers' : List ℕ) (none : ℕ) (ds : List ℕ) → none ≡ length A.resources → ds ≡ (resource A r).drivers →
    ls' ≡ ls ++ record { resource = r; first = length drivers } ∷ [] → drivers' ≡ drivers ++ none ∷ ds →
    AreListed A kinds order (n + 1) ls' drivers'
listed_added A kinds order n ls drivers r r_is known is l ls' drivers' none ds en ed el e =
    subst (λ z. AreListed A kinds order (n + 1) z drivers') (sym el)
    (subst (λ z. AreListed A kinds order (n + 1) (ls ++ record { resource = r; first = length drivers } ∷ []) z) (sym (e ∙ ap (λ z. drivers ++ z ∷ ds) en ∙ ap (λ z. drivers ++ length A.resources ∷ z) ed))
    (listed_more A kinds order n ls drivers r r_is known is l))

pub no_register : (k : Kind) → k ≢ Register → is_register k ≡ false
no_register Wire h = refl
no_register Port h = refl
no_register Register h = absurd (h refl)
no_register Out h = refl

pub a_net : (k : Kind) → k ≢ Out → k ≢ Register → is_net k ≡ true
a_net Wire o r = refl
a_net Port o r = refl
a_net Register o r = absurd (r refl)
a_net Out o r = absurd (o refl)
