-- L6 and L7: positions that meet are alike where no resource in no slot has two that aren't.
use Rattle.std.proofs.Common.{◌≡◌, ℕ, ◌+◌, ◌%◌, ◌<◌, ◌≤◌, Bool, true, false, cond, List, [], ◌∷◌, length, Option, Some, None, Contains, refl, sym, ap, ◌∙◌, subst, ⊎_elim, eqb-true, eq-eqb}
use Rattle.std.specs.Prelude.{◌&&◌, slice_get}
use Rattle.std.proofs.lemmas.Bool.{and_parts, and_from, not-true, not-false, cases_lt}
use Rattle.std.proofs.lemmas.List.{get_or_past}
use Rattle.std.proofs.lemmas.Nat.{mod_below}
use Rattle.cg_model.specs.declared.kernel.Operand.{Operand}
use Rattle.cg_model.specs.declared.kernel.Operand.TheVariants.{Const as Constant, Edge}
use Rattle.cg_model.specs.declared.mapping.Route.{Route}
use Rattle.cg_model.specs.declared.array.Kind.TheVariants.{Wire, Out}
use Rattle.cg_model.specs.Kernel.{Kernel, IsKernel, node}
use Rattle.cg_model.specs.Array.{Arch, IsArch, resource, unit, delay}
use Rattle.cg_model.specs.Mapping.{Mapping, Position, Goes, Brings, place, positions, positions_after, positions_on, of_operand, of_route, leaves}
use Rattle.cg_overlap.proofs.Facts.{Contains-cases, Contains-flat_map_from}
use Rattle.cg_check.specs.declared.rule.RulePlace.TheVariants as at
use Rattle.cg_check.specs.Rules.{L2, L5, L6, L7, Keeps, AreAlike, violated, same_value, same_way, is_on, clashes, first_below, first_clash}
use Rattle.cg_model.specs.Mapping.{same_from}
use Rattle.cg_check.proofs.Lists.{any_in, any_not, first_below_none}
use Rattle.cg_model.proofs.Lookups.{Contains-nil}
use Rattle.cg_model.proofs.Mappings.{same_from_is, same_from_itself, operand_within}

-- ---- what the tests of two positions say

pub values_same : (p q : Position) → same_value p q ≡ true → (p.source ≡ q.source) × (p.time ≡ q.time)
values_same p q h = let (a, b) = and_parts _ _ h in (eqb-true _ _ a, eqb-true _ _ b)

pub same_values : (p q : Position) → (p.source ≡ q.source) × (p.time ≡ q.time) → same_value p q ≡ true
same_values p q h = and_from _ _ (eq-eqb _ _ h.0) (eq-eqb _ _ h.1)

pub ways_same : (p q : Position) → same_way p q ≡ true → p.from ≡ q.from
ways_same p q h = same_from_is p.from q.from h

pub same_ways : (p q : Position) → p.from ≡ q.from → same_way p q ≡ true
same_ways p q e = subst (λ z. same_from p.from z ≡ true) e (same_from_itself p.from)

-- ---- positions are on resources

in_range : (A : Arch) (q r : ℕ) → IsArch A → Contains (resource A r).drivers q → r < length A.resources
in_range A q r arch m =
    ⊎_elim (λ (l : r < length A.resources). l)
    (λ (l : length A.resources ≤ r). absurd (Contains-nil q (subst (λ z. Contains z.drivers q) (get_or_past A.resources r _ l) m)))
    (cases_lt r (length A.resources))

out_in_range : (A : Arch) (x : ℕ) → IsArch A → x < length A.units → (unit A x).out < length A.resources
out_in_range A x arch l =
    ⊎_elim (λ (h : (unit A x).out < length A.resources). h)
    (λ (h : length A.resources ≤ (unit A x).out).
    let past : (resource A (unit A x).out).kind ≡ Wire = ap (λ z. z.kind) (get_or_past A.resources (unit A x).out _ h) in
    let is : (resource A (unit A x).out).kind ≡ Out = arch.outs x l in
    let bad : Wire ≡ Out = sym past ∙ is in absurd (cc))
    (cases_lt (unit A x).out (length A.resources))

after_in_range : (A : Arch) (u q t : ℕ) (path : List ℕ) (r s : ℕ) (p : Position) → IsArch A → Goes A q t path r s → Contains (positions_after A u q t path) p → p.resource < length A.resources
after_in_range A u q t [] r s p arch h m = absurd (Contains-nil p m)
after_in_range A u q t (x ∷ path) r s p arch h m =
    ⊎_elim (λ e. subst (λ z. z.resource < length A.resources) e (in_range A q x arch h.0)) (λ l. after_in_range A u x (t + delay A x) path r s p arch h.1 l) (Contains-cases p _ _ m)

on_in_range : (A : Arch) (M : Mapping) (u : ℕ) (path : List ℕ) (r s : ℕ) (p : Position) → IsArch A → (place M u).unit < length A.units → Brings A M u path r s →
    Contains (positions_on A u (leaves A M u) path) p → p.resource < length A.resources
on_in_range A M u path r s p arch l (rest, e, h) m =
    let out = (unit A (place M u).unit).out in
    ⊎_elim (λ f. subst (λ z. z.resource < length A.resources) f (out_in_range A (place M u).unit arch l)) (λ k. after_in_range A u out (leaves A M u) rest r s p arch h k)
    (Contains-cases p _ _ (subst (λ z. Contains (positions_on A u (leaves A M u) z) p) e m))

operand_in_range : (A : Arch) (K : Kernel) (M : Mapping) (route : Route) (p : Position) (o : Option Operand) → IsArch A → IsKernel K → Keeps L2 A K M → Keeps L5 A K M →
    Contains M.routes route → slice_get (node K route.node).operands route.arg ≡ o → Contains (of_operand A M route.path o) p → p.resource < length A.resources
operand_in_range A K M route p None arch kernel two five m e h = absurd (Contains-nil p h)
operand_in_range A K M route p (Some (Constant w)) arch kernel two five m e h = absurd (Contains-nil p h)
operand_in_range A K M route p (Some (Edge u d init)) arch kernel two five m e h =
    let (port, at_port, b) = five route u d init m e in
    let source = kernel.wired.sources route.node route.arg u d init (operand_within K route.node route.arg _ e) e in
    on_in_range A M u route.path port _ p arch (two u source).known b h

pub positions_in_range : (A : Arch) (K : Kernel) (M : Mapping) (p : Position) → IsArch A → IsKernel K → Keeps L2 A K M → Keeps L5 A K M → Contains (positions A K M) p → p.resource < length A.resources
unfolding positions
positions_in_range A K M p arch kernel two five m =
    let (route, in_routes, h) = Contains-flat_map_from (of_route A K M) M.routes p m in
    operand_in_range A K M route p _ arch kernel two five in_routes refl h

-- ---- both rules

pub some_none : {X : Type 0} (b : Bool) (x : X) → cond b (Some x) None ≡ None → b ≡ false
some_none true x e = let bad : Some x ≡ None = e in cc
some_none false x e = refl

-- on a resource in a slot with no clash, positions are alike
pub alike_on : (alike : Position → Position → Bool) (ii : ℕ) (ps : List Position) (r s : ℕ) → clashes alike ii ps r s ≡ false → (p q : Position) → Contains ps p → Contains ps q →
    p.resource ≡ r → p.time % ii ≡ s → q.resource ≡ r → q.time % ii ≡ s → alike p q ≡ true
unfolding clashes
alike_on alike ii ps r s none p q mp mq a b c d =
    let at_p = any_not _ ps p mp none in
    let p_on : is_on ii r s p ≡ true = and_from _ _ (eq-eqb _ _ a) (eq-eqb _ _ b) in
    let q_on : is_on ii r s q ≡ true = and_from _ _ (eq-eqb _ _ c) (eq-eqb _ _ d) in
    let at_q = any_not _ ps q mq (later _ _ at_p p_on) in
    not-false _ (later _ _ at_q q_on)
  where
    later : (a b : Bool) → (a && b) ≡ false → a ≡ true → b ≡ false
    later true b h e = h
    later false b h e = let bad : false ≡ true = e in absurd (cc)

-- where there is a clash, two aren't
pub unlike_on : (alike : Position → Position → Bool) (ii : ℕ) (ps : List Position) (r s : ℕ) → clashes alike ii ps r s ≡ true →
    (p : Position) × (q : Position) × Contains ps p × Contains ps q × (p.resource ≡ r) × (p.time % ii ≡ s) × (q.resource ≡ r) × (q.time % ii ≡ s) × (alike p q ≡ false)
unfolding clashes
unlike_on alike ii ps r s h =
    let (p, mp, a) = any_in _ ps h in
    let (p_on, b) = and_parts (is_on ii r s p) _ a in
    let (q, mq, c) = any_in _ ps b in
    let (q_on, d) = and_parts (is_on ii r s q) _ c in
    let (e, f) = and_parts _ _ p_on in
    let (g, i) = and_parts _ _ q_on in
    (p, q, mp, mq, eqb-true _ _ e, eqb-true _ _ f, eqb-true _ _ g, eqb-true _ _ i, not-true _ d)

-- positions that meet are alike by a test, where no place has a clash
met_alike : (alike : Position → Position → Bool) (A : Arch) (K : Kernel) (M : Mapping) → first_clash alike A K M ≡ None → 0 < M.ii →
    ((p : Position) → Contains (positions A K M) p → p.resource < length A.resources) → AreAlike A K M (λ p q. alike p q ≡ true)
met_alike alike A K M none some within p q mp mq e f =
    let ii = M.ii in
    let s = p.time % ii in
    let on_slots = first_below_none (λ r. first_below (λ s. cond (clashes alike ii (positions A K M) r s) (Some (at.Resource r s)) None) ii) (length A.resources) p.resource none (within p mp) in
    let no_clash = some_none _ _ (first_below_none (λ s. cond (clashes alike ii (positions A K M) p.resource s) (Some (at.Resource p.resource s)) None) ii s on_slots (mod_below p.time ii some)) in
    alike_on alike ii (positions A K M) p.resource s no_clash p q mp mq refl refl (sym e) (sym f)

pub alone_kept : (A : Arch) (K : Kernel) (M : Mapping) → violated L6 A K M ≡ None → 0 < M.ii → ((p : Position) → Contains (positions A K M) p → p.resource < length A.resources) → Keeps L6 A K M
unfolding violated
alone_kept A K M none some within p q mp mq e f = values_same p q (met_alike same_value A K M none some within p q mp mq e f)

pub way_kept : (A : Arch) (K : Kernel) (M : Mapping) → violated L7 A K M ≡ None → 0 < M.ii → ((p : Position) → Contains (positions A K M) p → p.resource < length A.resources) → Keeps L7 A K M
unfolding violated
way_kept A K M none some within p q mp mq e f = ways_same p q (met_alike same_way A K M none some within p q mp mq e f)
