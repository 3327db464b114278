-- The resources that each resource drives, and a driver more.
use Rattle.std.proofs.Common.{◌≡◌, ℕ, zero, suc, ◌+◌, ◌<◌, ◌≤◌, ◌≢◌, eqb, Bool, true, false, if◌then◌else◌, List, [], ◌∷◌, ◌++◌, length, sym, ap, ◌∙◌, subst, arith, ⊎_elim, set, length-set, get_or, take, refl}
use Rattle.std.specs.Prelude.{replicate, ◌||◌, All}
use Rattle.std.specs.List.{list_any}
use Rattle.std.proofs.lemmas.Bool.{cases_eq, ne_eqb, eq-eqb}
use Rattle.std.proofs.Math.Seq.{take-suc}
use Rattle.std.proofs.lemmas.List.{append-nil, get_or-set_same, get_or-set_other, get_or-replicate, length-replicate, take_all, get_or_read_under}
use Rattle.std.proofs.lemmas.List.Folds.{list_any-append}
use Rattle.std.proofs.lemmas.List.Elements.{All-nil, All-cons, All-append}
use Rattle.cg_model.specs.declared.array.Resource.{Resource}
use Rattle.cg_model.specs.declared.array.Kind.TheVariants.{Wire}
use Rattle.cg_model.specs.Array.{Arch, IsArch, resource}
use Rattle.cg_mrrg.specs.Graph.{users_below, users}
use Rattle.cg_mrrg.specs.Users.{AreUsers, users_of}

pub no_users : (A : Arch) → AreUsers A 0 0 (replicate (length A.resources) [])
unfolding users_below
no_users A = record {
  each = length-replicate (length A.resources) [];
  right = λ q h. get_or-replicate (length A.resources) q [] [] h;
}

-- all drivers of r were seen
pub next : (A : Arch) (r p : ℕ) (lists : List (List ℕ)) → p ≡ length (resource A r).drivers → AreUsers A r p lists → AreUsers A (r + 1) 0 lists
unfolding users_below
next A r p lists e t = record {
  each = t.each;
  right = λ q h.
      let one_more : r + 1 ≡ suc r = omega arith in
      let seen : users_of lists q ≡ users_below A q (suc r) =
      t.right q h ∙ ap (λ z. users_below A q r ++ (if list_any (eqb q) z then r ∷ [] else [])) (take_all p (resource A r).drivers (omega (arith, e))) in
      seen ∙ ap (users_below A q) (sym one_more) ∙ sym (append-nil (users_below A q (r + 1)));
}

or_not : (a : Bool) → (a || (false || false)) ≡ a
or_not true = refl
or_not false = refl

or_so : (a : Bool) → (a || (true || false)) ≡ true
or_so true = refl
or_so false = refl

any_more : (x : ℕ) (ds : List ℕ) (p : ℕ) → p < length ds → list_any (eqb x) (take (suc p) ds) ≡ (list_any (eqb x) (take p ds) || (eqb x (get_or ds p 0) || false))
any_more x ds p h = ap (list_any (eqb x)) (take-suc ds p 0 h) ∙ list_any-append (eqb x) (take p ds) (get_or ds p 0 ∷ [])

pub any_other : (x : ℕ) (ds : List ℕ) (p : ℕ) → p < length ds → x ≢ get_or ds p 0 → list_any (eqb x) (take (suc p) ds) ≡ list_any (eqb x) (take p ds)
any_other x ds p h ne = any_more x ds p h ∙ ap (λ z. list_any (eqb x) (take p ds) || (z || false)) (ne_eqb x (get_or ds p 0) ne) ∙ or_not (list_any (eqb x) (take p ds))

pub any_here : (ds : List ℕ) (p : ℕ) → p < length ds → list_any (eqb (get_or ds p 0)) (take (suc p) ds) ≡ true
any_here ds p h = any_more (get_or ds p 0) ds p h ∙ ap (λ z. list_any (eqb (get_or ds p 0)) (take p ds) || (z || false)) (eq-eqb (get_or ds p 0) (get_or ds p 0) refl) ∙ or_so (list_any (eqb (get_or ds p 0)) (take p ds))

-- a number that is none of the first j
pub none_before : (x : ℕ) (ds : List ℕ) (j : ℕ) → j ≤ length ds → ((k : ℕ) → k < j → x ≢ get_or ds k 0) → list_any (eqb x) (take j ds) ≡ false
none_before x ds zero h ne = refl
none_before x ds (suc j) h ne = any_other x ds j (omega (arith, h)) (ne j (omega arith)) ∙ none_before x ds j (omega (arith, h)) (λ k l. ne k (omega (arith, l)))

-- driver number p of r was seen
pub driver_seen : (A : Arch) → IsArch A → (r p : ℕ) (lists : List (List ℕ)) → p < length (resource A r).drivers → get_or (resource A r).drivers p 0 < length A.resources →
    AreUsers A r p lists → AreUsers A r (p + 1) (set lists (get_or (resource A r).drivers p 0) (users_of lists (get_or (resource A r).drivers p 0) ++ r ∷ []))
driver_seen A good r p lists h known t =
    let ds = (resource A r).drivers in
    let q : ℕ = get_or ds p 0 in
    let longer : List ℕ = users_of lists q ++ r ∷ [] in
    let one_more : p + 1 ≡ suc p = omega arith in
    let each = t.each in
    let within : q < length lists = omega arith in
    let wanted : ℕ → Bool → List ℕ = λ x b. users_below A x r ++ (if b then r ∷ [] else []) in
    let fresh : list_any (eqb q) (take p ds) ≡ false =
    none_before q ds p (omega arith) (λ k l same. let i : k ≡ p = good.once r k p (omega arith) h (sym same) in absurd (omega arith)) in
    record {
      each = length-set lists q longer ∙ t.each;
      right = λ x hx. ⊎_elim
          (λ (same : x ≡ q).
          ap (users_of (set lists q longer)) same
          ∙ get_or-set_same lists q longer [] within
          ∙ ap (λ (z : List ℕ). z ++ r ∷ []) (t.right q known ∙ ap (wanted q) fresh ∙ append-nil (users_below A q r))
          ∙ sym (ap (wanted q) (any_here ds p h))
          ∙ ap (λ z. wanted q (list_any (eqb q) (take z ds))) (sym one_more)
          ∙ ap (λ z. wanted z (list_any (eqb z) (take (p + 1) ds))) (sym same))
          (λ other.
          get_or-set_other lists q x longer [] other
          ∙ t.right x hx
          ∙ sym (ap (wanted x) (any_other x ds p h other))
          ∙ ap (λ z. wanted x (list_any (eqb x) (take z ds))) (sym one_more))
          (cases_eq x q);
    }

-- all resources were seen
pub finished : (A : Arch) (lists : List (List ℕ)) (q : ℕ) → q < length A.resources → AreUsers A (length A.resources) 0 lists → users_of lists q ≡ users A q
finished A lists q h t = t.right q h ∙ append-nil (users_below A q (length A.resources))

one : (n r : ℕ) → r < n → (b : Bool) → All (λ z. z < n) (if b then r ∷ [] else [])
one n r h true = All-cons (λ x. x < n) r [] h (All-nil (λ x. x < n))
one n r h false = All-nil (λ x. x < n)

-- what is driven is a resource
pub below : (A : Arch) (q r : ℕ) → r ≤ length A.resources → All (λ z. z < length A.resources) (users_below A q r)
unfolding users_below
below A q zero h = All-nil (λ x. x < length A.resources)
below A q (suc r) h =
    All-append (λ x. x < length A.resources) (users_below A q r) (if list_any (eqb q) (resource A r).drivers then r ∷ [] else []) (below A q r (omega (arith, h))) (one (length A.resources) r (omega (arith, h)) (list_any (eqb q) (resource A r).drivers))

-- the drivers that were read
pub drivers_read : (A : Arch) (R : Resource) (rs : List Resource) (ds : List ℕ) (r : ℕ) → rs ≡ A.resources → r < length A.resources → R ≡ get_or rs r R → ds ≡ (get_or rs r R).drivers → ds ≡ (resource A r).drivers
drivers_read A R rs ds r e l is ed =
    let read : R ≡ resource A r = get_or_read_under A.resources r (length A.resources) R record { name = []; kind = Wire; drivers = [] } (subst (λ (xs : List Resource). R ≡ get_or xs r R) e is) l refl in
    ed ∙ ap (λ (z : Resource). z.drivers) (sym is ∙ read)

-- the list that was read
pub listed_users : (A : Arch) (lists : List (List ℕ)) (list read : List ℕ) (q : ℕ) → q < length A.resources → AreUsers A (length A.resources) 0 lists → read ≡ get_or lists q read → list ≡ read → list ≡ users A q
listed_users A lists list read q h t is e =
    let each = t.each in
    e ∙ get_or_read_under lists q (length A.resources) read [] is h (sym t.each) ∙ finished A lists q h t
