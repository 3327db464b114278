-- Paths that go along links.
use Rattle.std.proofs.Common.{◌≡◌, ℕ, suc, ◌+◌, ◌%◌, ◌<◌, ◌≤◌, ◌^◌, List, [], ◌∷◌, length, drop, get_or, eqb, Contains, sym, ap, subst, ◌∙◌, arith, ⊎_elim}
use Rattle.std.proofs.lemmas.Bool.{cond_both, true≢false, eq-eqb}
use Rattle.std.proofs.Math.Seq.{drop-cons}
use Rattle.cg_model.specs.declared.array.Resource.{Resource}
use Rattle.cg_model.specs.declared.array.Kind.TheVariants.{Wire}
use Rattle.cg_model.specs.Array.{Arch, IsArch, resource, delay}
use Rattle.cg_model.specs.Mapping.{Goes, positions_after}
use Rattle.cg_model.specs.Config.{Config}
use Rattle.cg_model.specs.Configured.{place_of}
use Rattle.cg_flat.proofs.Lists.{links_of, item_at}
use Rattle.cg_config.specs.Changes.{with_select}
use Rattle.cg_overlap.proofs.Facts.{Contains-cases}
use Rattle.cg_emit.specs.Building.{GoesInTime, with_positions}
use Rattle.cg_model.proofs.Lookups.{Contains-nil}
use Rattle.cg_model.proofs.Mappings.{driven_known, goes_on}

-- a driver list is short
pub few_drivers : (A : Arch) → IsArch A → (r : ℕ) → r < length A.resources → length (resource A r).drivers ≤ 65536
few_drivers A valid r lt = let all = valid.small.links in let these = links_of A.resources r (record { name = []; kind = Wire; drivers = [] }) lt in omega arith

-- what remains of a list is its next item and what remains then
pub drop_next : {X : Type 0} (xs : List X) (i : ℕ) (x : X) → i < length xs → x ≡ get_or xs i x → drop i xs ≡ x ∷ drop (i + 1) xs
drop_next xs i x lt is = let more : suc i ≡ i + 1 = omega arith in drop-cons xs i x lt ∙ ap (λ z. z ∷ drop (suc i) xs) (sym is) ∙ ap (λ z. x ∷ drop z xs) more

-- the resource that was read
pub resource_is : (A : Arch) (rs : List Resource) (r : ℕ) (x : Resource) → x ≡ get_or rs r x → rs ≡ A.resources → r < length A.resources → x ≡ resource A r
resource_is A rs r x is same lt =
    item_at rs A.resources r x (record { name = []; kind = Wire; drivers = [] }) is same (let e = ap (λ (z : List Resource). length z) same in omega arith)

-- the next link of a path
pub record HasLink (A : Arch) (q t x : ℕ) (rest : List ℕ) : Type 0 where
  pub driver : Contains (resource A x).drivers q
  pub known : x < length A.resources
  pub fits : t + delay A x < 2 ^ 32
  pub path : GoesInTime A x (t + delay A x) rest

link_of : (A : Arch) (q t x : ℕ) (path : List ℕ) → GoesInTime A q t (x ∷ path) → HasLink A q t x path
link_of A q t x path g =
    let later = goes_on A x (t + delay A x) path g.0 g.1 g.3.1 in
    let bound = g.2 in
    record { driver = g.3.0; known = driven_known A x q g.3.0; fits = omega arith; path = (g.0, g.1, g.2, g.3.1) }

pub next_number : (xs : List ℕ) (i : ℕ) → i < length xs → drop i xs ≡ get_or xs i 0 ∷ drop (i + 1) xs
next_number xs i lt = let more : suc i ≡ i + 1 = omega arith in drop-cons xs i 0 lt ∙ ap (λ z. get_or xs i 0 ∷ drop z xs) more

pub next_link : (A : Arch) (q t : ℕ) (path : List ℕ) (i : ℕ) → i < length path → GoesInTime A q t (drop i path) → HasLink A q t (get_or path i 0) (drop (i + 1) path)
next_link A q t path i lt g = link_of A q t (get_or path i 0) (drop (i + 1) path) (subst (GoesInTime A q t) (next_number path i lt) g)

pub placed_within : (q : ℕ) (ds : List ℕ) → Contains ds q → suc (place_of q ds) ≤ length ds
placed_within q [] h = absurd (Contains-nil q h)
placed_within q (d ∷ ds) h =
    cond_both (eqb d q) 0 (suc (place_of q ds)) (λ k. suc k ≤ suc (length ds)) (λ e. omega arith)
    (λ e. ⊎_elim (λ f. absurd (true≢false (sym (eq-eqb d q f) ∙ e))) (λ m. let r = placed_within q ds m in omega arith) (Contains-cases q d ds h))

-- the select of the next link, and then those of the rest
pub next_set : (A : Arch) (u q t : ℕ) (path : List ℕ) (i : ℕ) (C D : Config) (x delayed slot value : ℕ) → i < length path → x ≡ get_or path i 0 → delayed ≡ delay A x →
    slot ≡ (t + delayed) % C.ii → value ≡ suc (place_of q (resource A x).drivers) → D ≡ with_select C x slot value →
    with_positions A (positions_after A u x (t + delayed) (drop (i + 1) path)) D ≡ with_positions A (positions_after A u q t (drop i path)) C
next_set A u q t path i C D x delayed slot value lt is delay-is slot-is value-is set =
    let rest = drop (i + 1) path in
    let after : ℕ → ℕ → ℕ → Config = λ d s v. with_positions A (positions_after A u x (t + d) rest) (with_select C x s v) in
    let same : drop i path ≡ x ∷ rest = next_number path i lt ∙ ap (λ z. z ∷ rest) (sym is) in
    ap (with_positions A (positions_after A u x (t + delayed) rest)) set
    ∙ ap (λ s. after delayed s value) slot-is
    ∙ ap (λ v. after delayed ((t + delayed) % C.ii) v) value-is
    ∙ ap (λ d. after d ((t + d) % C.ii) (suc (place_of q (resource A x).drivers))) delay-is
    ∙ sym (ap (λ l. with_positions A (positions_after A u q t l) C) same)
