-- The texts of cells are short.
use Rattle.std.proofs.Common.{subst, sym, ◌≡◌, ℕ, ◌<◌, ◌≤◌, ◌^◌, List, ◌++◌, length, arith, length-append}
use Rattle.std.specs.Prelude.{codes, decimal}
use Rattle.std.proofs.Math.Nat.{div-le_self}
use Rattle.std.proofs.lemmas.Fmt.{length-decimal-le}
use Rattle.cg_word.specs.Word.{name_of}
use Rattle.cg_model.specs.Kernel.{Kernel, IsKernel, size, node}
use Rattle.cg_model.specs.Mapping.{IsLegal, place}
use Rattle.cg_check.specs.Legal.{Mapped}
use Rattle.cg_show_table.specs.Columns.{node_text, stage}
use Rattle.cg_show_table.proofs.Words.{short_op}

parts : (a b c d e : List ℕ) → length a ≤ 32 → length b ≤ 1 → length c ≤ 8 → length d ≤ 2 → length e ≤ 5 → length (a ++ (b ++ (c ++ (d ++ e)))) ≤ 60
parts a b c d e p q r s t = simp length-append (omega arith)

node_short : (m : Mapped) (v : ℕ) → IsKernel m.kernel → IsLegal m.arch m.kernel m.mapping → v < size m.kernel → length (node_text m v) ≤ 60
unfolding node_text
node_short m v valid legal l =
    let soon = legal.soon v l in
    let less = div-le_self (place m.mapping v).time m.mapping.ii in
    let few : stage m v < 10 ^ 5 = omega arith in
    let number = length-decimal-le 5 (stage m v) (omega arith) few (omega arith) in
    parts (node m.kernel v).name (codes " ") (name_of (node m.kernel v).op) (codes " @") (decimal (stage m v)) (valid.named.names v l).short (omega arith) (short_op (node m.kernel v).op) (omega arith) number

pub width_few : (m : Mapped) (v : ℕ) (K : Kernel) (width : ℕ) → width ≡ length (node_text m v) → K ≡ m.kernel → IsKernel K → IsLegal m.arch m.kernel m.mapping → v < size m.kernel → width ≤ 60
width_few m v K width e same valid legal l = subst (λ n. n ≤ 60) (sym e) (node_short m v (subst IsKernel same valid) legal l)
