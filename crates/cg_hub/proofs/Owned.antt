-- Which registers are whose, and how many.
use Rattle.std.proofs.Common.{◌≡◌, ℕ, zero, suc, ◌+◌, ◌<◌, ◌≤◌, eqb, List, [], ◌∷◌, length, Some, refl, ap, arith, ⊎_elim, eq-eqb}
use Rattle.std.specs.Prelude.{slice_get, slice_index_or}
use Rattle.std.proofs.lemmas.Bool.{cond_both, cases_order, cases_eq, cond-true}
use Rattle.std.proofs.Math.Nat.{le-max_left, le-max_right}
use Rattle.cg_model.specs.declared.kernel.Node.{Node}
use Rattle.cg_model.specs.declared.kernel.Operand.{Operand}
use Rattle.cg_model.specs.declared.kernel.Operand.TheVariants.{Const as Constant, Edge}
use Rattle.cg_model.specs.Kernel.{Kernel, IsKernel, HasOperand, no_node, node}
use Rattle.cg_hub.specs.Hub.{needs, most_of, most, registers, registers_before}
use Rattle.cg_model.proofs.Mappings.{operand_within}

pub registers_rise : (K : Kernel) (u m : ℕ) → u < m → registers_before K u + registers K u ≤ registers_before K m
registers_rise K u zero l = absurd (omega arith)
registers_rise K u (suc m) l =
    ⊎_elim (λ (e : u ≡ m). rw e (omega arith)) (λ e. let h = registers_rise K u m (omega arith) in omega arith) (cases_eq u m)

-- a register is of one node
pub registers_once : (K : Kernel) (u v j k : ℕ) → j < registers K u → k < registers K v →
    registers_before K u + j ≡ registers_before K v + k → (u ≡ v) × (j ≡ k)
registers_once K u v j k a b e =
    ⊎_elim (λ (g : u ≡ v). let f = ap (registers_before K) g in (g, omega arith))
    (λ h. ⊎_elim (λ l. absurd (let g = registers_rise K u v l in omega arith)) (λ l. absurd (let g = registers_rise K v u l in omega arith)) h) (cases_order u v)

needs_edge : (u d : ℕ) (init : List ℕ) → needs u (Edge u d init) ≡ suc d
needs_edge u d init = cond-true (eqb u u) _ _ (eq-eqb u u refl)

most_of_at : (u d : ℕ) (init : List ℕ) (os : List Operand) (p : ℕ) → slice_get os p ≡ Some (Edge u d init) → d < most_of u os
most_of_at u d init [] p e = absurd (cc)
most_of_at u d init (o ∷ os) zero e =
    let f : o ≡ Edge u d init = cc in
    let g : needs u o ≡ suc d = rw f (needs_edge u d init) in
    omega (arith, le-max_left (needs u o) (most_of u os))
most_of_at u d init (o ∷ os) (suc p) e = omega (arith, most_of_at u d init os p e, le-max_right (needs u o) (most_of u os))

most_at : (u : ℕ) (ns : List Node) (v : ℕ) → v < length ns → most_of u (slice_index_or ns v no_node).operands ≤ most u ns
most_at u [] v l = absurd (omega arith)
most_at u (n ∷ ns) zero l = le-max_left (most_of u n.operands) (most u ns)
most_at u (n ∷ ns) (suc v) l = omega (arith, most_at u ns v (omega arith), le-max_right (most_of u n.operands) (most u ns))

-- a node has registers enough for each operand that takes its value
pub far_enough : (K : Kernel) (v p u d : ℕ) (init : List ℕ) → HasOperand K v p (Edge u d init) → d < registers K u
far_enough K v p u d init o =
    omega (arith, most_of_at u d init (node K v).operands p o, most_at u K.nodes v (operand_within K v p (Edge u d init) o))

-- ---- they are few

needs_small : (u : ℕ) (o : Operand) → ((s d : ℕ) (init : List ℕ) → o ≡ Edge s d init → d ≤ 4) → needs u o ≤ 5
needs_small u (Constant w) h = omega arith
needs_small u (Edge s d init) h =
    let l = h s d init refl in
    cond_both (eqb s u) (suc d) 0 (λ z. z ≤ 5) (λ t. omega arith) (λ t. omega arith)

most_of_small : (u : ℕ) (os : List Operand) → ((p s d : ℕ) (init : List ℕ) → slice_get os p ≡ Some (Edge s d init) → d ≤ 4) → most_of u os ≤ 5
most_of_small u [] h = omega arith
most_of_small u (o ∷ os) h =
    omega (arith, needs_small u o (λ s d init e. h 0 s d init (ap Some e)), most_of_small u os (λ p s d init e. h (suc p) s d init e))

most_small : (u : ℕ) (ns : List Node) →
    ((v p s d : ℕ) (init : List ℕ) → v < length ns → slice_get (slice_index_or ns v no_node).operands p ≡ Some (Edge s d init) → d ≤ 4) → most u ns ≤ 5
most_small u [] h = omega arith
most_small u (n ∷ ns) h =
    omega (arith, most_of_small u n.operands (λ p s d init e. h 0 p s d init (omega arith) e), most_small u ns (λ v p s d init l e. h (suc v) p s d init (omega arith) e))

pub registers_small : (K : Kernel) (u : ℕ) → IsKernel K → registers K u ≤ 5
registers_small K u good = most_small u K.nodes (λ v p s d init l e. good.near v p s d init l e)
