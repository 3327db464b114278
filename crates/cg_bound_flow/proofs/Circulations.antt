-- A circulation with one value more.
use Rattle.std.proofs.Common.{◌≡◌, ℕ, ◌+◌, ◌-◌, ◌*◌, ◌^◌, ◌<◌, ◌≤◌, List, length, set, get_or, eqb, Bool, true, false, refl, sym, ap, ◌∙◌, subst, arith, ⊎_elim, eqb-true, eq-eqb}
use Rattle.std.specs.Prelude.{◌⊎◌, slice_index, slice_index_or}
use Rattle.std.proofs.lemmas.Bool.{cases_eq, cases_Bool, cond-true, cond-false}
use Rattle.std.proofs.lemmas.List.{get_or-set_same, get_or-set_other, length-set}
use Rattle.cg_bound_registers.specs.Pressure.{one_if}
use Rattle.cg_bound_flow.specs.declared.network.Link.{Link}
use Rattle.cg_bound_flow.specs.declared.network.Part.{Part}
use Rattle.cg_bound_flow.specs.declared.network.Part.TheVariants.{Stay}
use Rattle.cg_bound_flow.specs.Network.{link, AreKept}
use Rattle.cg_bound_flow.specs.Push.{into, out_of}
use Rattle.cg_bound_flow.specs.Route.{IsRouted, IsCirculation, IsRouting, IsRoutedToo, AreRouted, IsSpan}

pub equal_one : (a b : ℕ) → a ≡ b → one_if (eqb a b) ≡ 1
equal_one a b e = cond-true (eqb a b) 1 0 (eq-eqb a b e)

pub other_none : (a b : ℕ) → (a ≡ b → ⊥) → one_if (eqb a b) ≡ 0
other_none a b ne = ⊎_elim (λ t. absurd (ne (eqb-true a b t))) (λ f. cond-false (eqb a b) 1 0 f) (cases_Bool (eqb a b))

-- two numbers are equal where two others are
pub alike : (a b c d : ℕ) → (a ≡ b → c ≡ d) → (c ≡ d → a ≡ b) → one_if (eqb a b) ≡ one_if (eqb c d)
alike a b c d f g = ⊎_elim (λ e. equal_one a b e ∙ sym (equal_one c d (f e))) (λ ne. other_none a b ne ∙ sym (other_none c d (λ e. ne (g e)))) (cases_eq a b)

-- node u is marked too
module _ (n u : ℕ) (routed : List Bool) (inside : u < n) (marks : length routed ≡ n) where
  pub here : slice_index_or (set routed u true) u false ≡ true
  here = get_or-set_same routed u true false (omega arith)

  pub still : (w : ℕ) → slice_index_or routed w false ≡ true → slice_index_or (set routed u true) w false ≡ true
  still w h = ⊎_elim (λ (e : w ≡ u). ap (λ j. slice_index_or (set routed u true) j false) e ∙ here) (λ ne. get_or-set_other routed u w true false ne ∙ h) (cases_eq w u)

  pub of_marked : (P : ℕ → Type 0) → P u → ((w : ℕ) → slice_index_or routed w false ≡ true → P w) → (w : ℕ) → slice_index_or (set routed u true) w false ≡ true → P w
  of_marked P now old w h = ⊎_elim (λ (e : w ≡ u). subst P (sym e) now) (λ ne. old w (sym (get_or-set_other routed u w true false ne) ∙ h)) (cases_eq w u)

-- its value is sent from where it leaves to its last use
module _ (n : ℕ) (links : List Link) (flow flow' : List ℕ) (u : ℕ) (routed : List Bool) (inside : u < n) (marks : length routed ≡ n) (fresh : slice_index_or routed u false ≡ false)
    (balanced : (x : ℕ) → into links flow' x + out_of links flow x + one_if (eqb (n + u) x) ≡ into links flow x + out_of links flow' x + one_if (eqb (n + n + u) x)) where
  marked : (w : ℕ) → one_if (slice_index_or (set routed u true) w false) ≡ one_if (slice_index_or routed w false) + one_if (eqb u w)
  marked w =
      ⊎_elim
      (λ (e : u ≡ w).
      let a : slice_index_or (set routed u true) w false ≡ true = ap (λ j. slice_index_or (set routed u true) j false) (sym e) ∙ get_or-set_same routed u true false (omega arith) in
      let b : slice_index_or routed w false ≡ false = ap (λ j. slice_index_or routed j false) (sym e) ∙ fresh in
      let a' : one_if (slice_index_or (set routed u true) w false) ≡ 1 = ap one_if a in
      let b' : one_if (slice_index_or routed w false) ≡ 0 = ap one_if b in
      let c = equal_one u w e in
      omega arith)
      (λ ne.
      let a : one_if (slice_index_or (set routed u true) w false) ≡ one_if (slice_index_or routed w false) = ap one_if (get_or-set_other routed u w true false (λ q. ne (sym q))) in
      let c = other_none u w ne in
      omega arith)
      (cases_eq u w)

  pub circulates_more : IsCirculation n links flow routed → IsCirculation n links flow' (set routed u true)
  circulates_more old =
      record {
        times = λ w l. let h = balanced w in let a = other_none (n + u) w (λ q. omega arith) in let b = other_none (n + n + u) w (λ q. omega arith) in let o = old.times w l in omega arith;
        leaves = λ w l. let h = balanced (n + w) in let a = alike (n + u) (n + w) u w (λ q. omega arith) (λ q. omega arith) in let b = other_none (n + n + u) (n + w) (λ q. omega arith) in let o = old.leaves w l in let m = marked w in omega arith;
        ends = λ w l. let h = balanced (n + n + w) in let a = other_none (n + u) (n + n + w) (λ q. omega arith) in let b = alike (n + n + u) (n + n + w) u w (λ q. omega arith) (λ q. omega arith) in let o = old.ends w l in let m = marked w in omega arith;
      }

pub routing_more : (n : ℕ) (links : List Link) (count : ℕ) (flow at : List ℕ) (routed : List Bool) → IsRouting n links count flow at routed → IsRouting n links (count + 1) flow at routed
routing_more n links count flow at routed r =
    record {
      kept = r.kept;
      each = r.each;
      flows = r.flows;
      marks = r.marks;
      near = λ x. let h = r.near x in omega arith;
      small = λ k. let h = r.small k in omega arith;
      circulation = r.circulation;
      spans = r.spans;
    }

-- a value more is routed
pub routed_too : (n : ℕ) (links : List Link) (count u : ℕ) (flow at flow' at' : List ℕ) (routed : List Bool) → slice_index_or routed u false ≡ false → IsRouted links flow at (n + u) (n + n + u) flow' at' → IsSpan n links u →
    IsRouting n links count flow at routed → IsRoutedToo n links count u flow' at' routed (set routed u true)
routed_too n links count u flow at flow' at' routed fresh one span r =
    record {
      routing = record {
        kept = one.kept;
        each = one.each ∙ r.each;
        flows = one.flows ∙ r.flows;
        marks = length-set routed u true ∙ r.marks;
        near = λ x. let h = one.near (2 ^ 59 + count * 2 ^ 45) r.near x in omega arith;
        small = λ k. let h = one.small k in let s = r.small k in omega arith;
        circulation = circulates_more n links flow flow' u routed span.0 r.marks fresh (λ x. let h = one.balanced x in omega arith) r.circulation;
        spans = of_marked n u routed span.0 r.marks (IsSpan n links) span r.spans;
      };
      here = here n u routed span.0 r.marks;
      still = still n u routed span.0 r.marks;
    }

-- a value that is routed before
pub routed_before : (n : ℕ) (links : List Link) (count u : ℕ) (flow at : List ℕ) (routed : List Bool) → IsRouting n links count flow at routed → slice_index_or routed u false ≡ true → IsRoutedToo n links count u flow at routed routed
routed_before n links count u flow at routed r h = record { routing = routing_more n links count flow at routed r; here = h; still = λ w e. e }

pub all_more : (n : ℕ) (links : List Link) (k : ℕ) (routed routed' : List Bool) → AreRouted n links k routed → ((w : ℕ) → slice_index_or routed w false ≡ true → slice_index_or routed' w false ≡ true) →
    ((v p : ℕ) → (link links k).part ≡ Stay v p → slice_index_or routed' ((link links k).to - (n + n)) false ≡ true) → AreRouted n links (k + 1) routed'
all_more n links k routed routed' all still here j v p l e =
    ⊎_elim (λ (q : j ≡ k). subst (λ i. slice_index_or routed' ((link links i).to - (n + n)) false ≡ true) (sym q) (here v p (ap (λ i. (link links i).part) (sym q) ∙ e)))
    (λ ne. still ((link links j).to - (n + n)) (all j v p (omega (arith, ne)) e)) (cases_eq j k)
