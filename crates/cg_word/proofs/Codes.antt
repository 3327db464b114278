-- Codes and names stand for one operation each.
use Rattle.std.proofs.Common.{◌≡◌, ◌↔◌, ℕ, cond, [], ◌∷◌, Some, refl, Bool, true, eqb, List, find, bytes_eq, sym, ap, ◌∙◌, eqb-true, ⊎_elim}
use Rattle.std.proofs.lemmas.Bool.{cases_Bool}
use Rattle.std.proofs.lemmas.Slice.Eq.{bytes_eq-Decides}
use Rattle.cg_word.specs.declared.op.Op.{Op}
use Rattle.cg_word.specs.declared.op.Op.TheVariants.{Const, Iter, Input, Add, Sub, Mul, And, Or, Xor, Shl, Shr, Sar, Eq, Ne, Lts, Ltu, Mins, Maxs, Select, Load, Store, Output, LoadIf, StoreIf, OutputIf}
use Rattle.cg_word.specs.Word.{all_ops, code, name_of, op_of, op_named}

-- what a search finds passes its test
found : {X : Type 0} (p : X → Bool) (xs : List X) (x : X) → find p xs ≡ Some x → p x ≡ true
found p [] x h = cc
found p (y ∷ ys) x h =
    ⊎_elim (λ t. let e : Some y ≡ Some x = sym (ap (λ b. cond b (Some y) (find p ys)) t) ∙ h in let same : y ≡ x = cc in ap p (sym same) ∙ t)
    (λ t. found p ys x (sym (ap (λ b. cond b (Some y) (find p ys)) t) ∙ h))
    (cases_Bool (p y))

-- the code of an operation stands for it
pub op_again : (op : Op) → op_of (code op) ≡ Some op
unfolding op_of
op_again Const = refl
op_again Iter = refl
op_again Input = refl
op_again Add = refl
op_again Sub = refl
op_again Mul = refl
op_again And = refl
op_again Or = refl
op_again Xor = refl
op_again Shl = refl
op_again Shr = refl
op_again Sar = refl
op_again Eq = refl
op_again Ne = refl
op_again Lts = refl
op_again Ltu = refl
op_again Mins = refl
op_again Maxs = refl
op_again Select = refl
op_again Load = refl
op_again Store = refl
op_again Output = refl
op_again LoadIf = refl
op_again StoreIf = refl
op_again OutputIf = refl

-- and its name
pub op_named_again : (op : Op) → op_named (name_of op) ≡ Some op
unfolding op_named
op_named_again Const = refl
op_named_again Iter = refl
op_named_again Input = refl
op_named_again Add = refl
op_named_again Sub = refl
op_named_again Mul = refl
op_named_again And = refl
op_named_again Or = refl
op_named_again Xor = refl
op_named_again Shl = refl
op_named_again Shr = refl
op_named_again Sar = refl
op_named_again Eq = refl
op_named_again Ne = refl
op_named_again Lts = refl
op_named_again Ltu = refl
op_named_again Mins = refl
op_named_again Maxs = refl
op_named_again Select = refl
op_named_again Load = refl
op_named_again Store = refl
op_named_again Output = refl
op_named_again LoadIf = refl
op_named_again StoreIf = refl
op_named_again OutputIf = refl

pub op_of-exact : (c : ℕ) (op : Op) → (op_of c ≡ Some op) ↔ (code op ≡ c)
unfolding op_of
op_of-exact c op = (λ h. eqb-true _ _ (found (λ o. eqb (code o) c) all_ops op h), λ e. ap op_of (sym e) ∙ op_again op)

pub op_named-exact : (name : List ℕ) (op : Op) → (op_named name ≡ Some op) ↔ (name_of op ≡ name)
unfolding op_named
op_named-exact name op =
    (λ h. (bytes_eq-Decides (name_of op) name).0 (found (λ o. bytes_eq (name_of o) name) all_ops op h), λ e. ap op_named (sym e) ∙ op_named_again op)

-- a code is of one operation
pub same_code : (o op : Op) → code o ≡ code op → o ≡ op
same_code o op e = let z : Some o ≡ Some op = sym (op_again o) ∙ ap op_of e ∙ op_again op in cc
