-- What `assign` answers.
use Rattle.std.proofs.Common.{◌≡◌, ℕ, ◌*◌, List, length, eqb, ap, arith}
use Rattle.std.specs.Prelude.{slice_index}
use Rattle.cg_word.specs.declared.op.Op.{Op}
use Rattle.cg_word.specs.Sets.{among}
use Rattle.cg_model.specs.declared.kernel.Node.{Node}
use Rattle.cg_model.specs.Kernel.{Kernel, no_node, size}
use Rattle.cg_model.specs.declared.array.Unit.{Unit}
use Rattle.cg_model.specs.Array.{Arch}
use Rattle.cg_class.specs.Class.{offers_one, IsOverfull, IsAssignment}
use Rattle.cg_class.specs.Search.{op_at, ops_at, no_unit, IsPlaced}
use Rattle.cg_class.proofs.Totals.{sum_by_total}
use Rattle.cg_class.proofs.Balance.{one_if, at_most}
use Rattle.cg_class.proofs.Sets.{offers_from}
use Rattle.cg_model.proofs.Sums.{total}

pub assigned : (A : Arch) (K : Kernel) (ii : ℕ) (places : List ℕ) → IsPlaced K.nodes A.units ii places → length places ≡ size K → IsAssignment A K ii places
assigned A K ii places p e = record { each = e; known = λ v l. p.known v (omega arith); offered = λ v l. p.offered v (omega arith); room = p.room }

-- an assignment leaves no overfull set
pub none_overfull : (A : Arch) (K : Kernel) (ii : ℕ) (places : List ℕ) → IsAssignment A K ii places → (s : List Op) → IsOverfull A K ii s → ⊥
none_overfull A K ii places a s over =
    let nodes = K.nodes in
    let units = A.units in
    let n = length nodes in
    let h = at_most n (length units) ii (slice_index places) (λ v. among s (op_at nodes v)) (λ x. offers_one s (ops_at units x)) a.known
    (λ x l. let b = a.room x l in let c = sum_by_total (λ y. one_if (eqb y x)) places 0 in let d = ap (λ z. total z (λ v. one_if (eqb (slice_index places v) x))) a.each in omega arith)
    (λ v l t. offers_from s (ops_at units (slice_index places v)) (op_at nodes v) t (a.offered v l))
    in
    let d = sum_by_total (λ (z : Node). one_if (among s z.op)) nodes no_node in
    let e = sum_by_total (λ (u : Unit). one_if (offers_one s u.ops)) units no_unit in
    let f = ap (λ z. ii * z) e in
    omega arith
