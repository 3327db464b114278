-- Nodes of one base and one stride are like one another.
use Rattle.std.proofs.Common.{◌≡◌, ℕ, zero, suc, ◌<◌, ◌≤◌, true, List, Option, Some, None, refl, sym, ap, ◌∙◌, arith, ⊎_elim}
use Rattle.std.specs.Prelude.{slice_index_or}
use Rattle.std.proofs.lemmas.Bool.{cases_lt, cases_eq}
use Rattle.std.proofs.lemmas.List.{get_or_append_left, get_or_past, get_or_push}
use Rattle.cg_word.specs.declared.op.Op.{Op}
use Rattle.cg_word.specs.declared.op.Op.TheVariants.{Store, Output, StoreIf, OutputIf}
use Rattle.cg_word.specs.Word.{has_value}
use Rattle.cg_model.specs.declared.kernel.Operand.{Operand}
use Rattle.cg_model.specs.Kernel.{Kernel, node, size}
use Rattle.cg_depend.specs.declared.table.AffinePair.{AffinePair}
use Rattle.cg_depend.specs.Affine.{pair_by, pairs}
use Rattle.cg_depend.proofs.PairTable.{pairs_long}
use Rattle.cg_simplify.specs.Merging.{HasPair, IsLike}

valued_by : (v : ℕ) (earlier : List (Option AffinePair)) (operands : List Operand) (op : Op) (p : AffinePair) → pair_by v earlier operands op ≡ Some p → has_value op ≡ true
valued_by v earlier operands Store p e = absurd (cc)
valued_by v earlier operands Output p e = absurd (cc)
valued_by v earlier operands StoreIf p e = absurd (cc)
valued_by v earlier operands OutputIf p e = absurd (cc)
valued_by v earlier operands _ p e = refl

pair_valued : (K : Kernel) (n v : ℕ) (p : AffinePair) → slice_index_or (pairs K n) v None ≡ Some p → has_value (node K v).op ≡ true
unfolding pairs
pair_valued K zero v p e = absurd (cc)
pair_valued K (suc n) v p e =
    ⊎_elim
    (λ (l : v < n). pair_valued K n v p (sym (get_or_append_left (pairs K n) _ None v (omega (arith, pairs_long K n))) ∙ e))
    (λ (l : n ≤ v).
    ⊎_elim
    (λ (z : v ≡ n).
    let last = sym (get_or_push (pairs K n) (pair_by n (pairs K n) (node K n).operands (node K n).op) None n (pairs_long K n)) ∙ ap (λ k. slice_index_or (pairs K (suc n)) k None) (sym z) ∙ e in
    ap (λ k. has_value (node K k).op) z ∙ valued_by n (pairs K n) (node K n).operands (node K n).op p last)
    (λ ne. let past = get_or_past (pairs K (suc n)) v None (omega (arith, pairs_long K (suc n), l, ne)) in let bad = sym past ∙ e in absurd (cc))
    (cases_eq v n))
    (cases_lt v n)

pub paired_like : (K : Kernel) (n m : ℕ) (p : AffinePair) → m ≤ n → HasPair K n p → HasPair K m p → IsLike K n m
paired_like K n m p before a b =
    record {
      before = before;
      valued = λ h. pair_valued K (size K) m p b.is;
      same = λ image i words. a.runs image i ∙ sym (b.runs image i);
    }
