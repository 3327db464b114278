-- Numbers of uses, and membership by claim.
use Rattle.std.proofs.Common.{◌≡◌, zero, suc, ◌+◌, ◌<◌, Bool, true, false, cond, eqb, List, [], ◌∷◌, ◌++◌, refl, sym, ap, ◌∙◌, subst, arith, ⊎_elim}
use Rattle.std.specs.Prelude.{◌&&◌, Contains}
use Rattle.std.specs.List.{list_any}
use Rattle.std.proofs.lemmas.Bool.{cases_Bool, and_parts, and_from, eqb-true, eq-eqb}
use Rattle.std.proofs.lemmas.List.Sums.{sum_by-cons, sum_by-append}
use Rattle.cg_model.specs.Mapping.{Position}
use Rattle.cg_congestion.specs.Claims.{same, uses}
use Rattle.cg_model.specs.Mapping.{same_from}
use Rattle.cg_model.proofs.Bools.{or_true}
use Rattle.cg_model.proofs.Mappings.{same_from_is, same_from_itself}

-- the same claim on the same resource is the same position
pub same_is : (p q : Position) → same p q ≡ true → p ≡ q
same_is p q h =
    let a = and_parts (eqb p.source q.source && eqb p.resource q.resource && eqb p.time q.time) (same_from p.from q.from) h in
    let b = and_parts (eqb p.source q.source && eqb p.resource q.resource) (eqb p.time q.time) a.0 in
    let c = and_parts (eqb p.source q.source) (eqb p.resource q.resource) b.0 in
    let s = eqb-true p.source q.source c.0 in
    let r = eqb-true p.resource q.resource c.1 in
    let t = eqb-true p.time q.time b.1 in
    let f = same_from_is p.from q.from a.1 in
    ap (λ x. record p { source = x }) s ∙ ap (λ x. record p { source = q.source; resource = x }) r ∙ ap (λ x. record p { source = q.source; resource = q.resource; time = x }) t
    ∙ ap (λ x. record q { from = x }) f

pub same_refl : (p : Position) → same p p ≡ true
same_refl p =
    and_from (eqb p.source p.source && eqb p.resource p.resource && eqb p.time p.time) _
    (and_from (eqb p.source p.source && eqb p.resource p.resource) _ (and_from (eqb p.source p.source) _ (eq-eqb p.source p.source refl) (eq-eqb p.resource p.resource refl)) (eq-eqb p.time p.time refl))
    (same_from_itself p.from)

pub differ : (p q : Position) → same p q ≡ false → same q p ≡ false
differ p q h = ⊎_elim (λ (a : same q p ≡ true). let z : same p q ≡ true = subst (λ x. same p x ≡ true) (sym (same_is q p a)) (same_refl p) in absurd (cc)) (λ a. a) (cases_Bool (same q p))

pub uses_cons : (p : Position) (ps : List Position) (q : Position) → uses (p ∷ ps) q ≡ cond (same q p) 1 0 + uses ps q
uses_cons p ps q = sum_by-cons (λ x. cond (same q x) 1 0) p ps

pub uses_append : (ps qs : List Position) (q : Position) → uses (ps ++ qs) q ≡ uses ps q + uses qs q
uses_append ps qs q = sum_by-append (λ x. cond (same q x) 1 0) ps qs

abbrev pub In : Position → List Position → Type 0
In p ps = list_any (same p) ps ≡ true

abbrev pub Out : Position → List Position → Type 0
Out p ps = list_any (same p) ps ≡ false

pub in_from_uses : (p : Position) (ps : List Position) → 0 < uses ps p → In p ps
in_from_uses p [] h = absurd (omega arith)
in_from_uses p (x ∷ xs) h =
    ⊎_elim (λ (a : same p x ≡ true). rw a refl)
    (λ (a : same p x ≡ false). let z = uses_cons x xs p ∙ ap (λ b. cond b 1 0 + uses xs p) a in rw a (in_from_uses p xs (omega (arith, z, h))))
    (cases_Bool (same p x))

pub uses_from_in : (p : Position) (ps : List Position) → In p ps → 0 < uses ps p
uses_from_in p [] h = absurd (cc)
uses_from_in p (x ∷ xs) h =
    ⊎_elim (λ (a : same p x ≡ true). let z = uses_cons x xs p ∙ ap (λ b. cond b 1 0 + uses xs p) a in omega (arith, z))
    (λ (a : same p x ≡ false).
    let rest : In p xs = (rw a at h) in
    let z = uses_cons x xs p ∙ ap (λ b. cond b 1 0 + uses xs p) a in let y = uses_from_in p xs rest in omega (arith, z, y))
    (cases_Bool (same p x))

pub in_from_Contains : (p : Position) (ps : List Position) → Contains ps p → In p ps
in_from_Contains p [] h = absurd (omega (arith, h.1))
in_from_Contains p (x ∷ xs) (zero, l, e) = rw (subst (λ y. same p y ≡ true) (sym e) (same_refl p)) refl
in_from_Contains p (x ∷ xs) (suc k, l, e) = rw (in_from_Contains p xs (k, omega arith, e)) (or_true (same p x))
