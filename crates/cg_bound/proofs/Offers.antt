-- Operations that no unit offers: the test, the first one, and the set of one.
use Rattle.std.proofs.Common.{◌≡◌, ℕ, suc, ◌+◌, ◌*◌, ◌<◌, ◌≤◌, List, [], ◌∷◌, length, find, cond, eqb, Bool, true, false, Option, Some, None, refl, sym, ap, ◌∙◌, arith, ⊎_elim, eqb-true, eq-eqb, rules}
use Rattle.std.specs.Prelude.{slice_index_or, not, ◌||◌, MatchOption, ⊤}
use Rattle.std.specs.List.{list_any}
use Rattle.std.proofs.lemmas.Bool.{cases_Bool, cond-true, cond-false, and_from, and_parts, true≢false, not-true}
use Rattle.std.proofs.lemmas.List.Folds.{list_any_at}
use Rattle.cg_word.specs.declared.op.Op.{Op}
use Rattle.cg_word.specs.declared.op.Op.TheVariants.{Const, Iter, Input, Add, Sub, Mul, And, Or, Xor, Shl, Shr, Sar, Eq, Ne, Lts, Ltu, Mins, Maxs, Select, Load, Store, Output, LoadIf, StoreIf, OutputIf}
use Rattle.cg_word.specs.Word.{all_ops, code}
use Rattle.cg_word.specs.Sets.{among, with_op, all_among}
use Rattle.cg_word.proofs.Codes.{same_code}
use Rattle.cg_model.specs.declared.kernel.Node.{Node}
use Rattle.cg_model.specs.declared.array.Unit.{Unit}
use Rattle.cg_model.specs.Kernel.{Kernel, node, no_node, size}
use Rattle.cg_model.specs.Array.{Arch}
use Rattle.cg_class.specs.Class.{IsOverfull, AreOfNodes, offers_one}
use Rattle.cg_class.specs.Search.{op_at, ops_at, no_unit}
use Rattle.cg_class.proofs.Totals.{total_more, sum_by_total}
use Rattle.cg_class.proofs.Balance.{one_if}
use Rattle.cg_class.proofs.Sets.{offers_to}
use Rattle.cg_bound.specs.Bound.{IsUnoffered, IsFirstUnoffered, AllOffered}
use Rattle.cg_bound.specs.Search.{has_op, offers, is_unoffered}
use Rattle.cg_model.proofs.Sums.{total, total_zero}

-- an item that passes, and none that does
any_some : {X : Type 0} (p : X → Bool) (xs : List X) (d : X) → list_any p xs ≡ true → (i : ℕ) × (i < length xs) × (p (slice_index_or xs i d) ≡ true)
any_some p [] d h = absurd (cc)
any_some p (x ∷ xs) d h =
    ⊎_elim (λ t. (0, omega arith, t)) (λ t. let (i, l, e) = any_some p xs d (sym (ap (λ b. b || list_any p xs) t) ∙ h) in (suc i, omega arith, e)) (cases_Bool (p x))

any_none : {X : Type 0} (p : X → Bool) (xs : List X) (i : ℕ) (d : X) → list_any p xs ≡ false → i < length xs → p (slice_index_or xs i d) ≡ false
any_none p xs i d h l = ⊎_elim (λ t. absurd (true≢false (sym (list_any_at p xs i d l t) ∙ h))) (λ t. t) (cases_Bool (p (slice_index_or xs i d)))

-- ---- the test

module _ (A : Arch) (K : Kernel) where
  test_from : (op : Op) → IsUnoffered A K op → is_unoffered A.units K.nodes op ≡ true
  test_from op u =
      let (v, l, e) = u.own in
      and_from (list_any (has_op op) K.nodes) (not (list_any (offers op) A.units))
      (list_any_at (has_op op) K.nodes v no_node l (eq-eqb _ _ (ap code e)))
      (⊎_elim (λ t. absurd (let (x, m, f) = any_some (offers op) A.units no_unit t in true≢false (sym f ∙ u.none x m))) (λ t. ap not t) (cases_Bool (list_any (offers op) A.units)))

  test_to : (op : Op) → is_unoffered A.units K.nodes op ≡ true → IsUnoffered A K op
  test_to op h =
      let (a, b) = and_parts (list_any (has_op op) K.nodes) (not (list_any (offers op) A.units)) h in
      record {
        own = (let (v, l, e) = any_some (has_op op) K.nodes no_node a in (v, l, same_code _ _ (eqb-true _ _ e)));
        none = λ x l. any_none (offers op) A.units x no_unit (not-true _ b) l;
      }

  -- where all are offered, each node has a unit for it
  pub unit_for : AllOffered A K → (v : ℕ) → v < size K → (x : ℕ) × (x < length A.units) × (among (ops_at A.units x) (node K v).op ≡ true)
  unit_for all v l =
      let op = (node K v).op in
      ⊎_elim (λ t. any_some (offers op) A.units no_unit t)
      (λ t. absurd (all op (record { own = (v, l, refl); none = λ x m. any_none (offers op) A.units x no_unit t m })))
      (cases_Bool (list_any (offers op) A.units))

-- ---- the first one

-- operations in the order of their codes, from k on
abbrev Ascend : ℕ → List Op → Type 0
Ascend k [] = ⊤
Ascend k (o ∷ os) = (code o ≡ k) × Ascend (k + 1) os

all_ascend : Ascend 1 all_ops
all_ascend = search rules

from_there : (k : ℕ) (ops : List Op) (op : Op) → Ascend k ops → among ops op ≡ true → k ≤ code op
from_there k [] op a h = absurd (cc)
from_there k (o ∷ os) op (e, a) h =
    ⊎_elim (λ t. let f = eqb-true _ _ t in omega arith)
    (λ t. let l = from_there (k + 1) os op a (sym (ap (λ b. cond b true (among os op)) t) ∙ h) in omega arith)
    (cases_Bool (eqb (code o) (code op)))

module _ (p : Op → Bool) where
  found_passes : (ops : List Op) (op : Op) → find p ops ≡ Some op → p op ≡ true
  found_passes [] op h = absurd (cc)
  found_passes (o ∷ os) op h =
      ⊎_elim (λ t. let e : Some o ≡ Some op = sym (ap (λ b. cond b (Some o) (find p os)) t) ∙ h in let same : o ≡ op = cc in ap p (sym same) ∙ t)
      (λ t. found_passes os op (sym (ap (λ b. cond b (Some o) (find p os)) t) ∙ h))
      (cases_Bool (p o))

  none_passes : (ops : List Op) (op : Op) → find p ops ≡ None → among ops op ≡ true → p op ≡ true → ⊥
  none_passes [] op h a t = cc
  none_passes (o ∷ os) op h a t =
      ⊎_elim (λ s. let e : Some o ≡ None = sym (ap (λ b. cond b (Some o) (find p os)) s) ∙ h in cc)
      (λ s.
      ⊎_elim (λ c. true≢false (sym t ∙ ap p (sym (same_code o op (eqb-true _ _ c))) ∙ s))
      (λ c. none_passes os op (sym (ap (λ b. cond b (Some o) (find p os)) s) ∙ h) (sym (ap (λ b. cond b true (among os op)) c) ∙ a) t)
      (cases_Bool (eqb (code o) (code op))))
      (cases_Bool (p o))

  found_least : (k : ℕ) (ops : List Op) (op other : Op) → Ascend k ops → find p ops ≡ Some op → among ops other ≡ true → p other ≡ true → code op ≤ code other
  found_least k [] op other a h m t = absurd (cc)
  found_least k (o ∷ os) op other (e, a) h m t =
      ⊎_elim
      (λ s. let f : Some o ≡ Some op = sym (ap (λ b. cond b (Some o) (find p os)) s) ∙ h in let same : o ≡ op = cc in let g = ap code same in let l = from_there k (o ∷ os) other (e, a) m in omega arith)
      (λ s.
      ⊎_elim (λ c. absurd (true≢false (sym t ∙ ap p (sym (same_code o other (eqb-true _ _ c))) ∙ s)))
      (λ c. found_least (k + 1) os op other a (sym (ap (λ b. cond b (Some o) (find p os)) s) ∙ h) (sym (ap (λ b. cond b true (among os other)) c) ∙ m) t)
      (cases_Bool (eqb (code o) (code other))))
      (cases_Bool (p o))

pub first_found : (A : Arch) (K : Kernel) (o : Option Op) → find (is_unoffered A.units K.nodes) all_ops ≡ o → MatchOption o (AllOffered A K) (IsFirstUnoffered A K)
first_found A K None h = λ op u. none_passes (is_unoffered A.units K.nodes) all_ops op h (all_among op) (test_from A K op u)
first_found A K (Some op) h =
    let p = is_unoffered A.units K.nodes in
    record {
      unoffered = test_to A K op (found_passes p all_ops op h);
      least = λ other u. found_least p 1 all_ops op other all_ascend h (all_among other) (test_from A K other u);
    }

-- ---- the set of one operation

pub with_one : (op : Op) → with_op [] op ≡ op ∷ []
with_one Const = refl
with_one Iter = refl
with_one Input = refl
with_one Add = refl
with_one Sub = refl
with_one Mul = refl
with_one And = refl
with_one Or = refl
with_one Xor = refl
with_one Shl = refl
with_one Shr = refl
with_one Sar = refl
with_one Eq = refl
with_one Ne = refl
with_one Lts = refl
with_one Ltu = refl
with_one Mins = refl
with_one Maxs = refl
with_one Select = refl
with_one Load = refl
with_one Store = refl
with_one Output = refl
with_one LoadIf = refl
with_one StoreIf = refl
with_one OutputIf = refl

one_among : (op o : Op) → among (op ∷ []) o ≡ true → op ≡ o
one_among op o h = ⊎_elim (λ t. same_code op o (eqb-true _ _ t)) (λ t. absurd (true≢false (sym h ∙ ap (λ b. cond b true false) t))) (cases_Bool (eqb (code op) (code o)))

one_has : (op : Op) → among (op ∷ []) op ≡ true
one_has op = ap (λ b. cond b true false) (eq-eqb (code op) (code op) refl)

-- an operation that no unit offers is overfull at each interval
pub never_open : (A : Arch) (K : Kernel) (op : Op) → IsUnoffered A K op → (ii : ℕ) → IsOverfull A K ii (op ∷ [])
never_open A K op u ii =
    let set = op ∷ [] in
    let (v, l, is) = u.own in
    let d = sum_by_total (λ (n : Node). one_if (among set n.op)) K.nodes no_node in
    let e = sum_by_total (λ (x : Unit). one_if (offers_one set x.ops)) A.units no_unit in
    let z : total (length A.units) (λ x. one_if (offers_one set (ops_at A.units x))) ≡ 0 =
    total_zero (length A.units) _
    (λ x m.
    ⊎_elim
    (λ t. absurd (let (o, a, b) = offers_to set (ops_at A.units x) t in true≢false (sym (ap (among (ops_at A.units x)) (one_among op o a) ∙ b) ∙ u.none x m)))
    (λ t. cond-false (offers_one set (ops_at A.units x)) 1 0 t)
    (cases_Bool (offers_one set (ops_at A.units x))))
    in
    let one : one_if (among set (op_at K.nodes v)) ≡ 1 = cond-true (among set (op_at K.nodes v)) 1 0 (ap (among set) is ∙ one_has op) in
    let s : total (suc v) (λ w. one_if (among set (op_at K.nodes w))) ≤ total (size K) (λ w. one_if (among set (op_at K.nodes w))) = total_more (suc v) (size K) _ l in
    let f = ap (λ y. ii * y) (e ∙ z) in
    omega arith

pub one_of_nodes : (A : Arch) (K : Kernel) (op : Op) → IsUnoffered A K op → AreOfNodes K (op ∷ [])
one_of_nodes A K op u o h = let (v, l, e) = u.own in (v, l, e ∙ one_among op o h)
