-- Sets of operations: marks by code, and the test of membership.
use Rattle.std.proofs.Common.{◌≡◌, ℕ, zero, suc, cond, [], ◌∷◌, Contains, ◌-◌, ◌<◌, ◌≤◌, Bool, true, false, ◌||◌, eqb, List, length, refl, sym, ap, ◌∙◌, subst, arith, eqb-true, eq-eqb, ⊎_elim}
use Rattle.std.specs.Prelude.{slice_set, slice_index_or, filter}
use Rattle.std.proofs.lemmas.Bool.{cases_Bool, true≢false}
use Rattle.std.proofs.lemmas.List.{get_or-set_same, get_or-set_other}
use mathlib.Core.Path.{fun_ext}
use Rattle.cg_word.specs.declared.op.Op.{Op}
use Rattle.cg_word.specs.declared.op.Op.TheVariants.{Const, Iter, Input, Add, Sub, Mul, And, Or, Xor, Shl, Shr, Sar, Eq, Ne, Lts, Ltu, Mins, Maxs, Select, Load, Store, Output, LoadIf, StoreIf, OutputIf}
use Rattle.cg_word.specs.Word.{code, all_ops}
use Rattle.cg_word.specs.Sets.{among, is_marked, marked, ops_with}
use Rattle.cg_word.proofs.Codes.{same_code}

-- a code is one of 1 to 25
pub code_range : (op : Op) → (0 < code op) × (code op ≤ 25)
code_range Const = (omega arith, omega arith)
code_range Iter = (omega arith, omega arith)
code_range Input = (omega arith, omega arith)
code_range Add = (omega arith, omega arith)
code_range Sub = (omega arith, omega arith)
code_range Mul = (omega arith, omega arith)
code_range And = (omega arith, omega arith)
code_range Or = (omega arith, omega arith)
code_range Xor = (omega arith, omega arith)
code_range Shl = (omega arith, omega arith)
code_range Shr = (omega arith, omega arith)
code_range Sar = (omega arith, omega arith)
code_range Eq = (omega arith, omega arith)
code_range Ne = (omega arith, omega arith)
code_range Lts = (omega arith, omega arith)
code_range Ltu = (omega arith, omega arith)
code_range Mins = (omega arith, omega arith)
code_range Maxs = (omega arith, omega arith)
code_range Select = (omega arith, omega arith)
code_range Load = (omega arith, omega arith)
code_range Store = (omega arith, omega arith)
code_range Output = (omega arith, omega arith)
code_range LoadIf = (omega arith, omega arith)
code_range StoreIf = (omega arith, omega arith)
code_range OutputIf = (omega arith, omega arith)

-- one more mark
pub marked_set : (marks : List Bool) (op o : Op) (place : ℕ) → place ≡ code op - 1 → length marks ≡ 25 → is_marked (slice_set marks place true) o ≡ (eqb (code op) (code o) || is_marked marks o)
marked_set marks op o place e h =
    let a = code_range op in
    let b = code_range o in
    cases
    (λ f. let z : place ≡ code o - 1 = omega arith in subst (λ k. slice_index_or (slice_set marks k true) (code o - 1) false ≡ true) (sym z) (get_or-set_same marks (code o - 1) true false (omega arith)))
    (λ f. get_or-set_other marks place (code o - 1) true false (λ g. f (omega arith)))
  where
    cases : (code op ≡ code o → is_marked (slice_set marks place true) o ≡ true) → ((code op ≡ code o → ⊥) → is_marked (slice_set marks place true) o ≡ is_marked marks o) →
        is_marked (slice_set marks place true) o ≡ (eqb (code op) (code o) || is_marked marks o)
    cases yes_case no_case =
        ⊎_elim (λ t. yes_case (eqb-true _ _ t) ∙ sym (ap (λ b. b || is_marked marks o) t)) (λ t. no_case (λ g. true≢false (sym (eq-eqb _ _ g) ∙ t)) ∙ sym (ap (λ b. b || is_marked marks o) t))
        (cases_Bool (eqb (code op) (code o)))

-- the test says whether the list has it
pub among_from : (ops : List Op) (op : Op) → among ops op ≡ true → Contains ops op
among_from [] op h = absurd (cc)
among_from (o ∷ os) op h =
    ⊎_elim (λ t. (0, omega arith, same_code o op (eqb-true _ _ t)))
    (λ t. let r = among_from os op (sym (ap (λ b. cond b true (among os op)) t) ∙ h) in (suc r.0, omega (arith, r.1), r.2)) (cases_Bool (eqb (code o) (code op)))

-- and the other way round
pub among_it : (ops : List Op) (op : Op) → Contains ops op → among ops op ≡ true
among_it [] op h = absurd (let l = h.1 in omega arith)
among_it (o ∷ os) op (zero, l, e) = ap (λ b. cond b true (among os op)) (eq-eqb _ _ (ap code e))
among_it (o ∷ os) op (suc k, l, e) =
    ⊎_elim (λ t. ap (λ b. cond b true (among os op)) t) (λ t. ap (λ b. cond b true (among os op)) t ∙ among_it os op (k, omega (arith, l), e)) (cases_Bool (eqb (code o) (code op)))

marked-filter : (marks : List Bool) (ops : List Op) → marked marks ops ≡ filter (is_marked marks) ops
marked-filter marks [] = refl
marked-filter marks (o ∷ os) = ap (λ z. cond (is_marked marks o) (o ∷ z) z) (marked-filter marks os)

-- the set of these marks has the operations that pass a test, where the marks are set just there
pub ops_with-marked : (marks : List Bool) (test : Op → Bool) → ((op : Op) → is_marked marks op ≡ test op) → ops_with marks ≡ filter test all_ops
unfolding ops_with
ops_with-marked marks test h = marked-filter marks all_ops ∙ ap (λ f. filter f all_ops) (fun_ext h)
