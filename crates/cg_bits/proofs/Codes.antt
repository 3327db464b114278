-- Operation codes stand for the operations.
use Rattle.std.proofs.Common.{◌≡◌, ℕ, zero, suc, ◌+◌, ◌<◌, ◌≤◌, cond, map, get_or, Option, Some, None, refl, sym, ap, ◌∙◌, arith}
use Rattle.std.specs.List.{range_with_len}
use Rattle.std.proofs.lemmas.Bool.{le-leb, lt-leb}
use Rattle.std.proofs.lemmas.List.{get_or-map}
use Rattle.std.proofs.lemmas.List.FromFn.{get_or-range_with_len}
use Rattle.cg_word.specs.declared.op.Op.{Op}
use Rattle.cg_word.specs.declared.op.Op.TheVariants.{Const}
use Rattle.cg_word.specs.Word as operations
use Rattle.cg_word.specs.Word.{all_ops, code}
use Rattle.cg_word.proofs.Codes as coded
use Rattle.cg_word.proofs.Marks.{code_range}
use Rattle.cg_bits.specs.declared.format.Format.{Format}
use Rattle.cg_bits.specs.Format.{code_of, op_of}

-- the operation at a place of the table has the code that is one more
pub op_there : (i : ℕ) (d : Op) → i < 25 → operations.op_of (i + 1) ≡ Some (get_or all_ops i d)
op_there i d lt =
    let all : map code all_ops ≡ range_with_len 1 25 = refl in
    let its : code (get_or all_ops i d) ≡ i + 1 =
    sym (get_or-map code all_ops i d 0 lt) ∙ ap (λ xs. get_or xs i 0) all ∙ get_or-range_with_len 1 25 i 0 lt ∙ omega arith in
    ap operations.op_of (sym its) ∙ coded.op_again (get_or all_ops i d)

pub none_coded : operations.op_of 0 ≡ None
unfolding operations.op_of
none_coded = refl

pub op_within : (F : Format) (c : ℕ) → c ≤ F.greatest → op_of F c ≡ operations.op_of c
unfolding op_of
op_within F c le = ap (λ b. cond b (operations.op_of c) None) (le-leb c F.greatest le)

pub op_above : (F : Format) (c : ℕ) → F.greatest < c → op_of F c ≡ None
unfolding op_of
op_above F c lt = ap (λ b. cond b (operations.op_of c) None) (lt-leb c F.greatest lt)

pub op_again : (F : Format) (o : Option Op) → code_of o ≤ F.greatest → op_of F (code_of o) ≡ o
op_again F None le = op_within F 0 le ∙ none_coded
op_again F (Some op) le = op_within F (code op) le ∙ coded.op_again op

pub code_known : (o : Option Op) → code_of o ≤ 25
code_known None = omega arith
code_known (Some op) = (code_range op).1

coded_again : (c : ℕ) → c ≤ 25 → code_of (operations.op_of c) ≡ c
coded_again zero le = ap code_of none_coded
coded_again (suc i) le =
    let d = Const in
    let all : map code all_ops ≡ range_with_len 1 25 = refl in
    let k : suc i ≡ i + 1 = omega arith in
    ap (λ c. code_of (operations.op_of c)) k ∙ ap code_of (op_there i d (omega arith))
    ∙ sym (get_or-map code all_ops i d 0 (omega arith)) ∙ ap (λ xs. get_or xs i 0) all ∙ get_or-range_with_len 1 25 i 0 (omega arith) ∙ omega arith

pub code_again : (F : Format) (c : ℕ) → c ≤ F.greatest → F.greatest ≤ 25 → code_of (op_of F c) ≡ c
code_again F c le few = ap code_of (op_within F c le) ∙ coded_again c (omega arith)
