-- Sets of operations: one operation more, and operations in common.
use Rattle.std.proofs.Common.{◌≡◌, ◌≢◌, Bool, true, false, List, [], ◌∷◌, Some, find, cond, eqb, refl, sym, ap, ◌∙◌, subst, ◌<◌, length, get_or, ap₂, ℕ, inl, inr, ⊎_elim, eqb-true, eq-eqb}
use Rattle.std.specs.List.{list_any}
use Rattle.std.specs.Prelude.{◌⊎◌, ◌&&◌, ◌||◌}
use Rattle.std.proofs.lemmas.Bool.{and_from, and_parts, cases_Bool, true≢false, or_right}
use Rattle.cg_word.specs.declared.op.Op.{Op}
use Rattle.cg_word.specs.Word.{code, all_ops, op_of}
use Rattle.cg_word.specs.Sets.{among}
use Rattle.cg_word.proofs.Codes.{same_code, op_again}
use Rattle.std.proofs.lemmas.List.{get_or_default}
use Rattle.cg_model.specs.declared.kernel.Node.{Node}
use Rattle.cg_model.specs.declared.array.Unit.{Unit}
use Rattle.cg_model.specs.Kernel.{no_node}
use Rattle.cg_class.specs.Class.{offers_one}
use Rattle.cg_class.specs.Search.{IsWith, op_at, ops_at, no_unit}

pub cases_op : (o op : Op) → (o ≡ op) ⊎ (o ≢ op)
cases_op o op =
    ⊎_elim (λ t. inl (same_code o op (eqb-true (code o) (code op) t))) (λ t. inr (λ e. true≢false (sym (eq-eqb (code o) (code op) (ap code e)) ∙ t))) (cases_Bool (eqb (code o) (code op)))

pub with_new : (s : List Op) (op : Op) (t : List Op) → IsWith s op t → among t op ≡ true
with_new s op t w = w op ∙ ap (λ b. b || among s op) (eq-eqb (code op) (code op) refl)

pub with_other : (s : List Op) (op : Op) (t : List Op) → IsWith s op t → (o : Op) → o ≢ op → among t o ≡ among s o
with_other s op t w o ne =
    w o ∙ ⊎_elim (λ h. absurd (ne (sym (same_code op o (eqb-true (code op) (code o) h))))) (λ h. ap (λ b. b || among s o) h) (cases_Bool (eqb (code op) (code o)))

any_from : (p q : Op → Bool) (ops : List Op) (op : Op) → find q ops ≡ Some op → p op ≡ true → list_any p ops ≡ true
any_from p q [] op f h = absurd (cc)
any_from p q (o ∷ os) op f h =
    ⊎_elim
    (λ t. let e : Some o ≡ Some op = sym (ap (λ b. cond b (Some o) (find q os)) t) ∙ f in let same : o ≡ op = cc in ap (λ b. b || list_any p os) (ap p same ∙ h))
    (λ t. or_right (p o) (list_any p os) (any_from p q os op (sym (ap (λ b. cond b (Some o) (find q os)) t) ∙ f) h))
    (cases_Bool (q o))

any_to : (p : Op → Bool) (ops : List Op) → list_any p ops ≡ true → (op : Op) × (p op ≡ true)
any_to p [] h = absurd (cc)
any_to p (o ∷ os) h = ⊎_elim (λ t. (o, t)) (λ t. any_to p os (sym (ap (λ b. b || list_any p os) t) ∙ h)) (cases_Bool (p o))

pub offers_from : (s t : List Op) (op : Op) → among s op ≡ true → among t op ≡ true → offers_one s t ≡ true
unfolding offers_one op_of
offers_from s t op a b = any_from (λ o. among s o && among t o) (λ o. eqb (code o) (code op)) all_ops op (op_again op) (and_from (among s op) (among t op) a b)

pub offers_to : (s t : List Op) → offers_one s t ≡ true → (op : Op) × (among s op ≡ true) × (among t op ≡ true)
unfolding offers_one
offers_to s t h = let (op, e) = any_to (λ o. among s o && among t o) all_ops h in let (a, b) = and_parts (among s op) (among t op) e in (op, a, b)

pub with_from : (s s' : List Op) (op op' : Op) (t : List Op) → IsWith s op t → s ≡ s' → op ≡ op' → IsWith s' op' t
with_from s s' op op' t w e f = subst (λ z. IsWith z op' t) e (subst (λ z. IsWith s z t) f w)

-- as the code reads them
pub op_read : (nodes : List Node) (v : ℕ) (n : Node) → v < length nodes → (get_or nodes v n).op ≡ op_at nodes v
op_read nodes v n l = ap (λ (z : Node). z.op) (get_or_default nodes v n no_node l)

pub ops_read : (units : List Unit) (x : ℕ) (u : Unit) → x < length units → (get_or units x u).ops ≡ ops_at units x
ops_read units x u l = ap (λ (z : Unit). z.ops) (get_or_default units x u no_unit l)

pub has_read : (nodes : List Node) (units : List Unit) (v x : ℕ) (n : Node) (u : Unit) → v < length nodes → x < length units → among (get_or units x u).ops (get_or nodes v n).op ≡ among (ops_at units x) (op_at nodes v)
has_read nodes units v x n u l m = ap₂ (λ a b. among a b) (ops_read units x u m) (op_read nodes v n l)
