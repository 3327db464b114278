-- What answers one question.
use Rattle.std.proofs.Common.{◌≡◌, ◌||◌, ◌++◌, ap₂, ⊎_elim, ℕ, ◌+◌, ◌-◌, ◌%◌, ◌^◌, ◌<◌, ◌≤◌, ◌&&◌, arith, List, [], ◌∷◌, length, nat_lt, Bool, true, false, cond, refl, sym, ap, ◌∙◌, subst}
use Rattle.std.specs.Prelude.{Option, Some, None, MatchOption, flat_map, option_map, slice_index_or}
use Rattle.std.proofs.lemmas.Bool.{lt-ltb, cases_lt}
use Rattle.std.proofs.lemmas.List.{get_or_default, get_or_append_left, get_or_push}
use Rattle.cg_word.specs.declared.op.Op.{Op}
use Rattle.cg_word.specs.declared.op.Op.TheVariants.{Sub, Store, StoreIf}
use Rattle.cg_word.specs.Word.{apply_of, is_access, is_store}
use Rattle.cg_model.specs.Kernel.{Kernel, node, size}
use Rattle.cg_depend.specs.Affine.{AffinePair, address_pair}
use Rattle.cg_depend.specs.Congruence.{HasNone, IsLeast}
use Rattle.cg_depend.specs.Depend.{Ask, HaveOneStride, Gap, never, first, unknown, Within, Added, none, chained, added, apart, conflict, asks_of, distance_for}
use Rattle.cg_depend.specs.declared.addresses.Address.{Address}
use Rattle.cg_depend.specs.declared.accesses.Role.{Role}
use Rattle.cg_depend.specs.declared.accesses.Role.TheVariants.{Apart}
use Rattle.cg_depend.specs.Gathered.{ask, pair_in, HasAddresses, HasRoles, meet, role_by, role_of}

-- ---- gaps

unknown_gap : (K : Kernel) (a : Ask) (least : ℕ) → ((p q : AffinePair) → HaveOneStride K a p q → ⊥) → a.least ≡ least → Gap K a (Some least)
unknown_gap K a least differ e = subst (λ z. Gap K a (Some z)) e (unknown differ)

pub no_source : (K : Kernel) (a : Ask) (least : ℕ) → address_pair K a.source ≡ None → a.least ≡ least → Gap K a (Some least)
no_source K a least is e = unknown_gap K a least (λ p q h. let bad : None ≡ Some p = sym is ∙ h.of_source in cc) e

pub no_target : (K : Kernel) (a : Ask) (least : ℕ) → address_pair K a.target ≡ None → a.least ≡ least → Gap K a (Some least)
no_target K a least is e = unknown_gap K a least (λ p q h. let bad : None ≡ Some q = sym is ∙ h.of_target in cc) e

-- the pairs that the addresses have
pub two_strides : (K : Kernel) (a : Ask) (p q : AffinePair) (least : ℕ) → address_pair K a.source ≡ Some p → address_pair K a.target ≡ Some q → (p.stride ≡ q.stride → ⊥) → a.least ≡ least → Gap K a (Some least)
two_strides K a p q least source target differ e =
    unknown_gap K a least
    (λ r s h.
    let x : Some r ≡ Some p = sym h.of_source ∙ source in
    let y : Some s ≡ Some q = sym h.of_target ∙ target in
    let first : r ≡ p = cc in
    let second : s ≡ q = cc in
    differ (ap (λ z. z.stride) (sym first) ∙ h.one ∙ ap (λ z. z.stride) second))
    e

pub one_stride : (K : Kernel) (a : Ask) (p q : AffinePair) (delta least : ℕ) (o : Option ℕ) → address_pair K a.source ≡ Some p → address_pair K a.target ≡ Some q → p.stride ≡ q.stride
    → delta ≡ apply_of Sub p.base q.base 0 → a.least ≡ least → MatchOption o (HasNone p.stride delta least 1000000) (IsLeast p.stride delta least 1000000) → Gap K a o
one_stride K a p q delta least None source target one is e found =
    never p q (record { of_source = source; of_target = target; one = one }) (λ x l m meets. found x (subst (λ z. z ≤ x) e l) m (meets ∙ sym is))
one_stride K a p q delta least (Some x) source target one is e found =
    first p q x (record { of_source = source; of_target = target; one = one }) (subst (λ z. z ≤ x) (sym e) found.0) found.1 (found.2 ∙ is)
    (λ y l m meets. found.3 y (subst (λ z. z ≤ y) e l) m (meets ∙ sym is))

-- the difference of two words
pub less : (b c : ℕ) → c < 2 ^ 32 → (b + (2 ^ 32 - c)) % 2 ^ 32 ≡ apply_of Sub b c 0
unfolding apply_of
less b c h = ap (λ z. z % 2 ^ 32) (let e : b + (2 ^ 32 - c) ≡ b + 2 ^ 32 - c = omega arith in e)

-- what is kept of the address of node v is the pair of its address
pub address_of : (K L : Kernel) (addresses : List (Option Address)) (v : ℕ) (d o : Option Address) → HasAddresses K addresses → K ≡ L → v < size L → o ≡ slice_index_or addresses v d → address_pair L v ≡ option_map pair_in o
address_of K L addresses v d o has same l e =
    let h : v < size K = subst (λ (z : Kernel). v < size z) (sym same) l in
    sym (ap (λ (z : Kernel). address_pair z v) same) ∙ sym (has.each v h) ∙ ap (option_map pair_in) (get_or_default addresses v None d (omega (arith, has.long, h)) ∙ sym e)

-- ---- edges

pub apart_one : (K : Kernel) (a : Ask) → Gap K a None → Added K (a ∷ []) []
apart_one K a gap = apart gap none

pub chained_one : (K : Kernel) (a : Ask) (g d : ℕ) → Gap K a (Some g) → d ≡ distance_for g → Within K a.source a.target d → Added K (a ∷ []) []
chained_one K a g d gap e chain = chained g gap (subst (Within K a.source a.target) e chain) none

pub added_one : (K : Kernel) (a : Ask) (g d : ℕ) → Gap K a (Some g) → d ≡ distance_for g → (Within K a.source a.target d → ⊥) → Added K (a ∷ []) (record { from = a.source; to = a.target; distance = d } ∷ [])
added_one K a g d gap e unchained =
    subst (λ z. Added K (a ∷ []) (record { from = a.source; to = a.target; distance = z } ∷ [])) (sym e)
    (added g gap (λ chain. unchained (subst (Within K a.source a.target) (sym e) chain)) none)

-- ---- the questions of a pair

pub asks_both : (K : Kernel) (u v : ℕ) → u < v → conflict K u v ≡ true → asks_of K u v ≡ ask u v 0 ∷ ask v u 1 ∷ []
asks_both K u v l h = rw (lt-ltb u v l, h) refl

pub asks_nothing : (K : Kernel) (u v : ℕ) → conflict K u v ≡ false → asks_of K u v ≡ []
asks_nothing K u v h = by (nat_lt u v) h
  where
    by : (b : Bool) → conflict K u v ≡ false → cond (b && conflict K u v) (ask u v 0 ∷ ask v u 1 ∷ []) [] ≡ []
    by true e = rw e refl
    by false e = refl

-- ---- roles

by_roles : (s a t b : Bool) → (s ≡ true → a ≡ true) → (t ≡ true → b ≡ true) → meet (role_by s a) (role_by t b) ≡ (a && (b && (s || t)))
by_roles true false t b h k = let e : false ≡ true = h refl in absurd (cc)
by_roles true true true true h k = refl
by_roles true true true false h k = let e : false ≡ true = k refl in absurd (cc)
by_roles true true false true h k = refl
by_roles true true false false h k = refl
by_roles false true true true h k = refl
by_roles false true true false h k = let e : false ≡ true = k refl in absurd (cc)
by_roles false true false true h k = refl
by_roles false true false false h k = refl
by_roles false false t b h k = refl

store_access : (op : Op) → is_store op ≡ true → is_access op ≡ true
store_access Store h = refl
store_access StoreIf h = refl
store_access _ h = absurd (cc)

-- two nodes are in conflict by their roles
pub conflict_is : (K : Kernel) (u v : ℕ) → meet (role_of (node K u).op) (role_of (node K v).op) ≡ conflict K u v
conflict_is K u v = by_roles (is_store (node K u).op) (is_access (node K u).op) (is_store (node K v).op) (is_access (node K v).op) (store_access (node K u).op) (store_access (node K v).op)

pub roles_conflict : (K L : Kernel) (roles : List Role) (u v : ℕ) (d e r q : Role) → HasRoles K roles → K ≡ L → u < size L → v < size L → r ≡ slice_index_or roles u d → q ≡ slice_index_or roles v e → meet r q ≡ conflict L u v
roles_conflict K L roles u v d e r q has same lu lv one other =
    let hu : u < size K = subst (λ (z : Kernel). u < size z) (sym same) lu in
    let hv : v < size K = subst (λ (z : Kernel). v < size z) (sym same) lv in
    ap₂ meet
    (one ∙ get_or_default roles u d Apart (omega (arith, has.long, hu)) ∙ has.each u hu)
    (other ∙ get_or_default roles v e Apart (omega (arith, has.long, hv)) ∙ has.each v hv)
    ∙ conflict_is K u v ∙ ap (λ (z : Kernel). conflict z u v) same

-- a node without an access asks nothing
pub row_apart : (K : Kernel) (u : ℕ) (vs : List ℕ) → is_access (node K u).op ≡ false → flat_map (asks_of K u) vs ≡ []
row_apart K u [] h = refl
row_apart K u (v ∷ vs) h = ap (λ xs. xs ++ flat_map (asks_of K u) vs) (asks_nothing K u v (rw h refl)) ∙ row_apart K u vs h

-- one node more has its role
pub role_added : (K : Kernel) (roles more : List Role) (n : ℕ) (r : Role) → length roles ≡ n → ((v : ℕ) → v < n → slice_index_or roles v Apart ≡ role_of (node K v).op) → more ≡ roles ++ r ∷ [] → r ≡ role_of (node K n).op
    → (v : ℕ) → v < n + 1 → slice_index_or more v Apart ≡ role_of (node K v).op
role_added K roles more n r long each is role v l =
    ⊎_elim
    (λ less. ap (λ xs. slice_index_or xs v Apart) is ∙ get_or_append_left roles (r ∷ []) Apart v (omega (arith, long)) ∙ each v less)
    (λ not_less.
    let same : v ≡ n = omega arith in
    ap (λ xs. slice_index_or xs v Apart) is ∙ get_or_push roles r Apart v (omega (arith, long)) ∙ role ∙ ap (λ z. role_of (node K z).op) (sym same))
    (cases_lt v n)
