-- The first violation of the list is the one that the checker finds.
use Rattle.std.proofs.Common.{◌≡◌, ℕ, zero, suc, ◌+◌, Bool, true, false, cond, List, [], ◌∷◌, ◌++◌, length, take, get_or, Option, Some, None, refl, sym, ap, ◌∙◌, arith, ⊎_elim}
use Rattle.std.specs.Prelude.{not, slice_get}
use Rattle.std.specs.Option.{option_map, option_or}
use Rattle.std.specs.List.{flat_map}
use Rattle.std.proofs.lemmas.Bool.{cond-true, cases_Bool}
use Rattle.cg_list_laws.specs.Below.{lists_below}
use Rattle.cg_model.specs.First.{first_from, first_such}
use Rattle.cg_model.specs.declared.mapping.Route.{Route}
use Rattle.cg_model.specs.Kernel.{Kernel, size}
use Rattle.cg_model.specs.Array.{Arch}
use Rattle.cg_model.specs.Mapping.{Mapping, Position, positions}
use Rattle.cg_check.specs.declared.rule.Rule.{Rule}
use Rattle.cg_check.specs.declared.rule.Rule.TheVariants.{L1, L2, L3, L4, L5, L6, L7}
use Rattle.cg_check.specs.declared.rule.RulePlace.{RulePlace}
use Rattle.cg_check.specs.declared.rule.RulePlace.TheVariants as at
use Rattle.cg_check.specs.declared.rule.Violation.{Violation}
use Rattle.cg_check.specs.Rules.{is_interval, stands_well, is_shared, is_after, is_brought, end_place, same_value, same_way, clashes, first_below, first_clash, violated, first_violation, all_rules, violation}
use Rattle.cg_check.proofs.Lists.{first_below_same}
use Rattle.cg_violations.specs.Violations.{violation_if, slot_violations, clash_violations, violations_by, violations_of}

-- ---- options

or_cond : {X : Type 0} (b : Bool) (x : X) (o : Option X) → option_or (cond b (Some x) None) o ≡ cond b (Some x) o
or_cond true x o = refl
or_cond false x o = refl

or_assoc : {X : Type 0} (o p q : Option X) → option_or (option_or o p) q ≡ option_or o (option_or p q)
or_assoc None p q = refl
or_assoc (Some x) p q = refl

or_none_right : {X : Type 0} (o : Option X) → option_or o None ≡ o
or_none_right None = refl
or_none_right (Some x) = refl

map_or : {X Y : Type 0} (g : X → Y) (o p : Option X) → option_map g (option_or o p) ≡ option_or (option_map g o) (option_map g p)
map_or g None p = refl
map_or g (Some x) p = refl

map_map : {X Y Z : Type 0} (g : Y → Z) (f : X → Y) (o : Option X) → option_map g (option_map f o) ≡ option_map (λ x. g (f x)) o
map_map g f None = refl
map_map g f (Some x) = refl

map_cond : {X Y : Type 0} (g : X → Y) (b : Bool) (x : X) → option_map g (cond b (Some x) None) ≡ cond b (Some (g x)) None
map_cond g true x = refl
map_cond g false x = refl

-- ---- the first of a list

first_append : {T : Type 0} (xs ys : List T) → slice_get (xs ++ ys) 0 ≡ option_or (slice_get xs 0) (slice_get ys 0)
first_append [] ys = refl
first_append (x ∷ xs) ys = refl

first_in_below : {T : Type 0} (f : ℕ → List T) (n : ℕ) → slice_get (lists_below f n) 0 ≡ first_below (λ k. slice_get (f k) 0) n
unfolding lists_below first_below
first_in_below f zero = refl
first_in_below f (suc n) = first_append (lists_below f n) (f n) ∙ ap (λ o. option_or o (slice_get (f n) 0)) (first_in_below f n)

map_below : {X Y : Type 0} (g : X → Y) (f : ℕ → Option X) (n : ℕ) → option_map g (first_below f n) ≡ first_below (λ k. option_map g (f k)) n
unfolding first_below
map_below g f zero = refl
map_below g f (suc n) = map_or g (first_below f n) (f n) ∙ ap (λ o. option_or o (option_map g (f n))) (map_below g f n)

-- the number 0 first, and then the others
first_opened : {X : Type 0} (f : ℕ → Option X) (n : ℕ) → first_below f (suc n) ≡ option_or (f 0) (first_below (λ k. f (suc k)) n)
unfolding first_below
first_opened f zero = sym (or_none_right (f 0))
first_opened f (suc n) = ap (λ o. option_or o (f (suc n))) (first_opened f n) ∙ or_assoc (f 0) (first_below (λ k. f (suc k)) n) (f (suc n))

-- the first place in a list is the first number below its length
from_as_below : {T : Type 0} (t : ℕ → T → Bool) (i : ℕ) (xs : List T) (d : T) →
    first_from t i xs ≡ first_below (λ k. cond (t (i + k) (get_or xs k d)) (Some (i + k)) None) (length xs)
unfolding first_below
from_as_below t i [] d = refl
from_as_below {T} t i (x ∷ xs) d =
    let f = λ (k : ℕ). cond (t (i + k) (get_or (x ∷ xs) k d)) (Some (i + k)) None in
    let begin : i + 0 ≡ i = omega arith in
    let rest : first_from t (i + 1) xs ≡ first_below (λ k. f (suc k)) (length xs) =
    from_as_below t (i + 1) xs d
    ∙ first_below_same _ _ (length xs) (λ k l. ap (λ j. cond (t j (get_or xs k d)) (Some j) None) (moved i k)) in
    ap (λ o. cond (t i x) (Some i) o) rest
    ∙ sym (or_cond (t i x) i (first_below (λ k. f (suc k)) (length xs)))
    ∙ ap (λ j. option_or (cond (t j x) (Some j) None) (first_below (λ k. f (suc k)) (length xs))) (sym begin)
    ∙ sym (first_opened f (length xs))
  where
    moved : (i k : ℕ) → i + 1 + k ≡ i + suc k
    moved i k = omega arith

-- ---- a violation

abbrev made : Rule → RulePlace → Violation
made rule p = record { rule = rule; place = p }

first_if : (b : Bool) (rule : Rule) (p : RulePlace) → slice_get (violation_if b rule p) 0 ≡ cond b (Some (made rule p)) None
first_if true rule p = refl
first_if false rule p = refl

-- the numbers below the length of a list, each with a test
first_numbered : {T : Type 0} (t : ℕ → T → Bool) (rule : Rule) (at_number : ℕ → RulePlace) (xs : List T) (d : T) (n : ℕ) → length xs ≡ n →
    slice_get (lists_below (λ k. violation_if (t k (get_or xs k d)) rule (at_number k)) n) 0 ≡ option_map (made rule) (option_map at_number (first_from t 0 xs))
first_numbered t rule at_number xs d n long =
    let f = λ (k : ℕ). cond (t (0 + k) (get_or xs k d)) (Some (0 + k)) None in
    let is : option_map (made rule) (option_map at_number (first_from t 0 xs)) ≡ first_below (λ k. option_map (λ j. made rule (at_number j)) (f k)) (length xs) =
    map_map (made rule) at_number (first_from t 0 xs)
    ∙ ap (option_map (λ j. made rule (at_number j))) (from_as_below t 0 xs d)
    ∙ map_below (λ j. made rule (at_number j)) f (length xs) in
    first_in_below (λ k. violation_if (t k (get_or xs k d)) rule (at_number k)) n
    ∙ ap (first_below (λ k. slice_get (violation_if (t k (get_or xs k d)) rule (at_number k)) 0)) (sym long)
    ∙ first_below_same _ _ (length xs) (λ k l.
    first_if (t k (get_or xs k d)) rule (at_number k)
    ∙ sym (map_cond (λ j. made rule (at_number j)) (t k (get_or xs k d)) k)
    ∙ ap (λ j. option_map (λ j. made rule (at_number j)) (cond (t j (get_or xs k d)) (Some j) None)) (no_more k))
    ∙ sym is
  where
    no_more : (k : ℕ) → k ≡ 0 + k
    no_more k = omega arith

first_route : (t : Route → Bool) (routes : List Route) →
    slice_get (flat_map (λ route. violation_if (t route) L5 (end_place route)) routes) 0 ≡ option_map (made L5) (option_map end_place (first_such t routes))
first_route t [] = refl
first_route t (r ∷ rs) =
    first_append (violation_if (t r) L5 (end_place r)) (flat_map (λ route. violation_if (t route) L5 (end_place route)) rs)
    ∙ here (t r) r _ (first_such t rs) (first_route t rs)
  where
    here : (b : Bool) (r : Route) (o : Option Violation) (p : Option Route) → o ≡ option_map (made L5) (option_map end_place p) →
        option_or (slice_get (violation_if b L5 (end_place r)) 0) o ≡ option_map (made L5) (option_map end_place (cond b (Some r) p))
    here true r o p e = refl
    here false r o p e = e

first_of_clashes : (alike : Position → Position → Bool) (rule : Rule) (A : Arch) (K : Kernel) (M : Mapping) →
    slice_get (clash_violations alike rule A K M) 0 ≡ option_map (made rule) (first_clash alike A K M)
first_of_clashes alike rule A K M =
    first_in_below (λ r. lists_below (λ s. violation_if (clashes alike M.ii (positions A K M) r s) rule (at.Resource r s)) M.ii) (length A.resources)
    ∙ first_below_same _ _ (length A.resources) (λ r lr.
    first_in_below (λ s. violation_if (clashes alike M.ii (positions A K M) r s) rule (at.Resource r s)) M.ii
    ∙ first_below_same _ _ M.ii (λ s ls.
    first_if (clashes alike M.ii (positions A K M) r s) rule (at.Resource r s) ∙ sym (map_cond (made rule) (clashes alike M.ii (positions A K M) r s) (at.Resource r s)))
    ∙ sym (map_below (made rule) (λ s. cond (clashes alike M.ii (positions A K M) r s) (Some (at.Resource r s)) None) M.ii))
    ∙ sym (map_below (made rule) (λ r. first_below (λ s. cond (clashes alike M.ii (positions A K M) r s) (Some (at.Resource r s)) None) M.ii) (length A.resources))

-- ---- each rule

first_interval : (A : Arch) (K : Kernel) (M : Mapping) → slice_get (violations_by L1 A K M) 0 ≡ option_map (made L1) (violated L1 A K M)
unfolding violated
first_interval A K M = by_test (is_interval A M)
  where
    by_test : (b : Bool) → slice_get (violation_if (not b) L1 at.Mapping) 0 ≡ option_map (made L1) (cond b None (Some at.Mapping))
    by_test true = refl
    by_test false = refl

first_judged : (A : Arch) (K : Kernel) (M : Mapping) → length M.places ≡ size K → is_interval A M ≡ true → (rule : Rule) →
    slice_get (violations_by rule A K M) 0 ≡ option_map (made rule) (violated rule A K M)
unfolding violated
first_judged A K M long kept L1 = first_interval A K M
first_judged A K M long kept L2 = first_numbered (λ v p. not (stands_well A K v p)) L2 at.Node M.places (record { unit = 0; time = 0 }) (size K) long
first_judged A K M long kept L3 =
    ap (λ vs. slice_get vs 0) (cond-true (is_interval A M) (slot_violations K M) [] kept)
    ∙ first_numbered (λ v p. is_shared M.ii (take v M.places) p) L3 at.Node M.places (record { unit = 0; time = 0 }) (size K) long
first_judged A K M long kept L4 = first_numbered (λ e edge. not (is_after M edge)) L4 at.Order K.order (record { from = 0; to = 0; distance = 0 }) (length K.order) refl
first_judged A K M long kept L5 = first_route (λ route. not (is_brought A K M route)) M.routes
first_judged A K M long kept L6 = ap (λ vs. slice_get vs 0) (cond-true (is_interval A M) (clash_violations same_value L6 A K M) [] kept) ∙ first_of_clashes same_value L6 A K M
first_judged A K M long kept L7 = ap (λ vs. slice_get vs 0) (cond-true (is_interval A M) (clash_violations same_way L7 A K M) [] kept) ∙ first_of_clashes same_way L7 A K M

-- ---- all rules

first_of_rules : (A : Arch) (K : Kernel) (M : Mapping) (rules : List Rule) → ((rule : Rule) → slice_get (violations_by rule A K M) 0 ≡ option_map (made rule) (violated rule A K M)) →
    slice_get (flat_map (λ rule. violations_by rule A K M) rules) 0 ≡ first_violation rules A K M
unfolding first_violation
first_of_rules A K M [] h = refl
first_of_rules A K M (rule ∷ rules) h =
    first_append (violations_by rule A K M) (flat_map (λ rule. violations_by rule A K M) rules)
    ∙ ap (λ o. option_or o (slice_get (flat_map (λ rule. violations_by rule A K M) rules) 0)) (h rule)
    ∙ ap (option_or (option_map (made rule) (violated rule A K M))) (first_of_rules A K M rules h)

-- where L1 is violated, it is the first, whatever follows
first_unjudged : (A : Arch) (K : Kernel) (M : Mapping) (rules : List Rule) → is_interval A M ≡ false →
    slice_get (flat_map (λ rule. violations_by rule A K M) (L1 ∷ rules)) 0 ≡ first_violation (L1 ∷ rules) A K M
unfolding first_violation violated
first_unjudged A K M rules broken =
    first_append (violations_by L1 A K M) (flat_map (λ rule. violations_by rule A K M) rules)
    ∙ by_test (is_interval A M) _ _ broken
  where
    by_test : (b : Bool) (o p : Option Violation) → b ≡ false → option_or (slice_get (violation_if (not b) L1 at.Mapping) 0) o ≡ option_or (option_map (made L1) (cond b None (Some at.Mapping))) p
    by_test true o p e = let bad : true ≡ false = e in absurd (cc)
    by_test false o p e = refl

pub lowest_first : (A : Arch) (K : Kernel) (M : Mapping) → length M.places ≡ size K → slice_get (violations_of A K M) 0 ≡ violation A K M
unfolding violations_of
lowest_first A K M long =
    ⊎_elim (λ kept. first_of_rules A K M all_rules (first_judged A K M long kept)) (λ broken. first_unjudged A K M (L2 ∷ L3 ∷ L4 ∷ L5 ∷ L6 ∷ L7 ∷ []) broken) (cases_Bool (is_interval A M))
