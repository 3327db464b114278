-- The tests of paths say what the rules say of them.
use Rattle.std.proofs.Common.{◌≡◌, ℕ, ◌+◌, ◌*◌, true, false, List, [], ◌∷◌, Option, Some, None, Contains, refl, sym, ap, subst, eqb-true, eq-eqb}
use Rattle.std.specs.Prelude.{eqb, slice_get}
use Rattle.std.proofs.lemmas.Bool.{and_parts, and_from}
use Rattle.cg_model.specs.declared.kernel.Operand.{Operand}
use Rattle.cg_model.specs.declared.kernel.Operand.TheVariants.{Const as Constant, Edge}
use Rattle.cg_model.specs.Array.{Arch, resource, unit, delay}
use Rattle.cg_model.specs.declared.mapping.Route.{Route}
use Rattle.cg_model.specs.Mapping.{Mapping, Goes, Brings, place, leaves}
use Rattle.cg_check.specs.Edges.{data_edge}
use Rattle.cg_check.specs.Rules.{drives, goes, arrives, brings}
use Rattle.cg_check.proofs.Lists.{any_of, any_in}

pub drives_it : (A : Arch) (q r : ℕ) → drives A q r ≡ true → Contains (resource A r).drivers q
drives_it A q r h =
    let (d, m, e) = any_in (λ d. eqb d q) (resource A r).drivers h in
    subst (λ z. Contains (resource A r).drivers z) (eqb-true d q e) m

pub drives_of : (A : Arch) (q r : ℕ) → Contains (resource A r).drivers q → drives A q r ≡ true
drives_of A q r m = any_of (λ d. eqb d q) (resource A r).drivers q m (eq-eqb q q refl)

pub goes_it : (A : Arch) (q t : ℕ) (path : List ℕ) (r s : ℕ) → goes A q t path r s ≡ true → Goes A q t path r s
goes_it A q t [] r s h = let (a, b) = and_parts _ _ h in (eqb-true _ _ a, eqb-true _ _ b)
goes_it A q t (x ∷ path) r s h =
    let (a, b) = and_parts _ _ h in
    (drives_it A q x a, goes_it A x (t + delay A x) path r s b)

pub goes_of : (A : Arch) (q t : ℕ) (path : List ℕ) (r s : ℕ) → Goes A q t path r s → goes A q t path r s ≡ true
goes_of A q t [] r s h = and_from _ _ (eq-eqb _ _ h.0) (eq-eqb _ _ h.1)
goes_of A q t (x ∷ path) r s h = and_from _ _ (drives_of A q x h.0) (goes_of A x (t + delay A x) path r s h.1)

pub arrives_it : (A : Arch) (M : Mapping) (u : ℕ) (path : List ℕ) (o : Option ℕ) (s : ℕ) → arrives A M u path o s ≡ true → (port : ℕ) × (o ≡ Some port) × Brings A M u path port s
arrives_it A M u path None s h = let bad : false ≡ true = h in absurd (cc)
arrives_it A M u [] (Some port) s h = let bad : false ≡ true = h in absurd (cc)
arrives_it A M u (x ∷ path) (Some port) s h =
    let (a, b) = and_parts (eqb x (unit A (place M u).unit).out) _ h in
    let e = eqb-true x (unit A (place M u).unit).out a in
    (port, refl, (path, ap (λ z. z ∷ path) e, subst (λ z. Goes A z (leaves A M u) path port s) e (goes_it A x (leaves A M u) path port s b)))

pub arrives_of : (A : Arch) (M : Mapping) (u : ℕ) (path : List ℕ) (o : Option ℕ) (port s : ℕ) → o ≡ Some port → Brings A M u path port s → arrives A M u path o s ≡ true
arrives_of A M u path o port s e (rest, f, h) =
    let out = (unit A (place M u).unit).out in
    subst (λ z. arrives A M u path z s ≡ true) (sym e)
    (subst (λ z. arrives A M u z (Some port) s ≡ true) (sym f) (and_from (eqb out out) (goes A out (leaves A M u) rest port s) (eq-eqb out out refl) (goes_of A out (leaves A M u) rest port s h)))

-- a route that has its edge's value where that operand is an edge
pub brings_of : (A : Arch) (M : Mapping) (route : Route) (o : Option Operand) →
    ((u d : ℕ) (init : List ℕ) → o ≡ Some (Edge u d init) →
    (port : ℕ) × (slice_get (unit A (place M route.node).unit).ports route.arg ≡ Some port) × Brings A M u route.path port ((place M route.node).time + M.ii * d)) →
    brings A M route (data_edge o) ≡ true
brings_of A M route None h = refl
brings_of A M route (Some (Constant w)) h = refl
brings_of A M route (Some (Edge u d init)) h =
    let (port, e, b) = h u d init refl in
    arrives_of A M u route.path _ port _ e b
