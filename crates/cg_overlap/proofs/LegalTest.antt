-- Tests of the rules of a legal mapping: all of them together show it legal, and L6 and L7 are shown to hold of a legal one.
use Rattle.std.proofs.Common.{◌≡◌, ℕ, ◌+◌, ◌*◌, ◌%◌, Bool, true, false, List, [], ◌∷◌, length, Option, Some, None, Contains, refl, sym, ap, subst, eqb-true, eq-eqb}
use Rattle.std.specs.Prelude.{◌&&◌, eqb, nat_lt, nat_le, slice_get}
use Rattle.std.proofs.lemmas.Bool.{and_parts, and_from, ltb-true, leb-true}
use Rattle.cg_word.specs.Sets.{among}
use Rattle.cg_word.proofs.Marks.{among_from}
use Rattle.cg_model.specs.declared.kernel.Operand.{Operand}
use Rattle.cg_model.specs.declared.kernel.Operand.TheVariants.{Const as Constant, Edge}
use Rattle.cg_model.specs.declared.mapping.Route.{Route}
use Rattle.cg_model.specs.Kernel.{Kernel, node, size}
use Rattle.cg_model.specs.Array.{Arch, resource, unit, delay}
use Rattle.cg_model.specs.Mapping.{Mapping, Position, Goes, Brings, IsLegal, IsShaped, place, positions, leaves}
use Rattle.cg_overlap.proofs.Facts.{Contains-first, Contains-later}
use Rattle.cg_overlap.proofs.Tests.{all_true, part, every, every_it, has, has_it, has_of, all_below, all_below_it, given, given_it}
use Rattle.cg_model.specs.Mapping.{same_from}
use Rattle.cg_model.proofs.Lookups.{Contains-get}
use Rattle.cg_model.proofs.Mappings.{same_from_is, same_from_itself}

abbrev each_node : Kernel → (ℕ → Bool) → Bool
each_node K f = all_below f (size K)

-- ---- L1 to L4

abbrev keeps_interval : Arch → Mapping → Bool
keeps_interval A M = nat_lt 0 M.ii && nat_le M.ii A.contexts

abbrev keeps_units : Arch → Kernel → Mapping → Bool
keeps_units A K M = each_node K (λ v. nat_lt (place M v).unit (length A.units) && (among (unit A (place M v).unit).ops (node K v).op && nat_le (place M v).time 65534))

abbrev keeps_apart : Kernel → Mapping → Bool
keeps_apart K M = each_node K (λ v. each_node K (λ w. given (eqb (place M v).unit (place M w).unit && eqb ((place M v).time % M.ii) ((place M w).time % M.ii)) (eqb v w)))

abbrev keeps_order : Kernel → Mapping → Bool
keeps_order K M = every (λ e. nat_le ((place M e.from).time + 1) ((place M e.to).time + M.ii * e.distance)) K.order

-- ---- L5: routes

unfoldable pub goes : Arch → ℕ → ℕ → List ℕ → ℕ → ℕ → Bool
goes A q t [] r s = eqb q r && eqb t s
goes A q t (x ∷ path) r s = has (resource A x).drivers q && goes A x (t + delay A x) path r s

goes_it : (A : Arch) (q t : ℕ) (path : List ℕ) (r s : ℕ) → goes A q t path r s ≡ true → Goes A q t path r s
unfolding goes
goes_it A q t [] r s h = let (a, b) = and_parts _ _ h in (eqb-true _ _ a, eqb-true _ _ b)
goes_it A q t (x ∷ path) r s h = let (a, b) = and_parts _ _ h in (has_it _ _ a, goes_it A x (t + delay A x) path r s b)

abbrev pub arrives : Arch → Mapping → ℕ → List ℕ → Option ℕ → ℕ → Bool
arrives A M u path None time = false
arrives A M u [] (Some port) time = false
arrives A M u (x ∷ rest) (Some port) time = eqb x (unit A (place M u).unit).out && goes A (unit A (place M u).unit).out (leaves A M u) rest port time

arrives_it : (A : Arch) (M : Mapping) (u : ℕ) (path : List ℕ) (o : Option ℕ) (time : ℕ) → arrives A M u path o time ≡ true → (port : ℕ) × (o ≡ Some port) × Brings A M u path port time
arrives_it A M u path None time h = absurd (cc)
arrives_it A M u [] (Some port) time h = absurd (cc)
arrives_it A M u (x ∷ rest) (Some port) time h =
    let (a, b) = and_parts _ _ h in
    (port, refl, (rest, ap (λ z. z ∷ rest) (eqb-true _ _ a), goes_it A _ _ rest port time b))

abbrev pub brought_for : Arch → Mapping → Route → Option Operand → Bool
brought_for A M route None = true
brought_for A M route (Some (Constant w)) = true
brought_for A M route (Some (Edge u d init)) = arrives A M u route.path (slice_get (unit A (place M route.node).unit).ports route.arg) ((place M route.node).time + M.ii * d)

abbrev pub keeps_routes : Arch → Kernel → Mapping → Bool
keeps_routes A K M = every (λ route. brought_for A M route (slice_get (node K route.node).operands route.arg)) M.routes

-- ---- L6 and L7: each two positions on one resource in one slot

abbrev pub meet : ℕ → Position → Position → Bool
meet ii p q = eqb p.resource q.resource && eqb (p.time % ii) (q.time % ii)

abbrev pub keeps_alone : Arch → Kernel → Mapping → Bool
keeps_alone A K M = every (λ p. every (λ q. given (meet M.ii p q) (eqb p.source q.source && eqb p.time q.time)) (positions A K M)) (positions A K M)

abbrev pub keeps_one_way : Arch → Kernel → Mapping → Bool
keeps_one_way A K M = every (λ p. every (λ q. given (meet M.ii p q) (same_from p.from q.from)) (positions A K M)) (positions A K M)

-- ---- the rules together

-- one test a rule, from L1 to L7
abbrev pub rules : Arch → Kernel → Mapping → List Bool
rules A K M =
    keeps_interval A M
    ∷ keeps_units A K M
    ∷ keeps_apart K M
    ∷ keeps_order K M
    ∷ keeps_routes A K M
    ∷ keeps_alone A K M
    ∷ keeps_one_way A K M
    ∷ []

pub legal_by : (A : Arch) (K : Kernel) (M : Mapping) → IsShaped K M → all_true (rules A K M) ≡ true → IsLegal A K M
legal_by A K M shaped h =
    record {
      shape = shaped;
      interval = ltb-true _ _ (and_parts _ _ (part _ 0 h)).0;
      contexts = leb-true _ _ (and_parts _ _ (part _ 0 h)).1;
      units = λ v l. ltb-true _ _ (and_parts _ _ (all_below_it _ _ v (part _ 1 h) l)).0;
      offered = λ v l. among_from _ _ (and_parts _ _ (and_parts _ _ (all_below_it _ _ v (part _ 1 h) l)).1).0;
      soon = λ v l. leb-true _ _ (and_parts _ _ (and_parts _ _ (all_below_it _ _ v (part _ 1 h) l)).1).1;
      apart = λ v w lv lw e f. eqb-true _ _ (given_it _ _ (all_below_it _ _ w (all_below_it _ _ v (part _ 2 h) lv) lw) (and_from _ _ (eq-eqb _ _ e) (eq-eqb _ _ f)));
      ordered = λ e u v d m. leb-true _ _ (every_it _ _ (record { from = u; to = v; distance = d }) (part _ 3 h) (Contains-get _ e _ m));
      brings = λ route u d init m e.
          arrives_it A M u route.path _ _ (subst (λ o. brought_for A M route o ≡ true) e (every_it _ _ route (part _ 4 h) m));
      alone = λ p q mp mq e f.
          let (a, b) = and_parts _ _ (given_it _ _ (every_it _ _ q (every_it _ _ p (part _ 5 h) mp) mq) (and_from _ _ (eq-eqb _ _ e) (eq-eqb _ _ f))) in
          (eqb-true _ _ a, eqb-true _ _ b);
      one_way = λ p q mp mq e f. same_from_is _ _ (given_it _ _ (every_it _ _ q (every_it _ _ p (part _ 6 h) mp) mq) (and_from _ _ (eq-eqb _ _ e) (eq-eqb _ _ f)));
    }

-- ---- L5, L6 and L7 hold of a legal mapping

every_from : {X : Type 0} (f : X → Bool) (xs : List X) → ((x : X) → Contains xs x → f x ≡ true) → every f xs ≡ true
unfolding every
every_from f [] h = refl
every_from f (x ∷ xs) h = and_from _ _ (h x (Contains-first x xs)) (every_from f xs (λ y m. h y (Contains-later y x xs m)))

goes_of : (A : Arch) (q t : ℕ) (path : List ℕ) (r s : ℕ) → Goes A q t path r s → goes A q t path r s ≡ true
unfolding goes
goes_of A q t [] r s h = and_from _ _ (eq-eqb _ _ h.0) (eq-eqb _ _ h.1)
goes_of A q t (x ∷ path) r s h = and_from _ _ (has_of _ _ h.0) (goes_of A x (t + delay A x) path r s h.1)

arrives_of : (A : Arch) (M : Mapping) (u : ℕ) (path : List ℕ) (o : Option ℕ) (port time : ℕ) (rest : List ℕ) → o ≡ Some port → path ≡ (unit A (place M u).unit).out ∷ rest →
    Goes A (unit A (place M u).unit).out (leaves A M u) rest port time → arrives A M u path o time ≡ true
arrives_of A M u path o port time rest e f h =
    subst (λ z. arrives A M u path z time ≡ true) (sym e)
    (subst (λ z. arrives A M u z (Some port) time ≡ true) (sym f) (and_from _ _ (eq-eqb (unit A (place M u).unit).out _ refl) (goes_of A _ _ rest port time h)))

brought_by : (A : Arch) (K : Kernel) (M : Mapping) → IsLegal A K M → (route : Route) → Contains M.routes route → (o : Option Operand) → slice_get (node K route.node).operands route.arg ≡ o → brought_for A M route o ≡ true
brought_by A K M legal route m None e = refl
brought_by A K M legal route m (Some (Constant w)) e = refl
brought_by A K M legal route m (Some (Edge u d init)) e =
    let (port, at, (rest, f, h)) = legal.brings route u d init m e in
    arrives_of A M u route.path _ port _ rest at f h

-- so a mapping that fails one of these tests is refused by that rule
pub brought_of : (A : Arch) (K : Kernel) (M : Mapping) → IsLegal A K M → keeps_routes A K M ≡ true
brought_of A K M legal = every_from _ _ (λ route m. brought_by A K M legal route m _ refl)

given_from : (a b : Bool) → (a ≡ true → b ≡ true) → given a b ≡ true
given_from true b h = h refl
given_from false b h = refl

pub alone_of : (A : Arch) (K : Kernel) (M : Mapping) → IsLegal A K M → keeps_alone A K M ≡ true
alone_of A K M legal =
    every_from _ _ (λ p mp. every_from _ _ (λ q mq. given_from _ _ (λ m.
    let (a, b) = and_parts _ _ m in
    let (c, d) = legal.alone p q mp mq (eqb-true _ _ a) (eqb-true _ _ b) in
    and_from _ _ (eq-eqb _ _ c) (eq-eqb _ _ d))))

pub one_way_of : (A : Arch) (K : Kernel) (M : Mapping) → IsLegal A K M → keeps_one_way A K M ≡ true
one_way_of A K M legal =
    every_from _ _ (λ p mp. every_from _ _ (λ q mq. given_from _ _ (λ m.
    let (a, b) = and_parts _ _ m in
    subst (λ z. same_from p.from z ≡ true) (legal.one_way p q mp mq (eqb-true _ _ a) (eqb-true _ _ b)) (same_from_itself p.from))))
