-- The edge operands of a kernel: their numbers, and that no two are equal.
use Rattle.std.proofs.Common.{◌≡◌, ℕ, zero, suc, ◌+◌, ◌*◌, ◌<◌, ◌≤◌, ◌⊎◌, inl, inr, ⊎_elim, List, [], ◌∷◌, ◌++◌, length, map, get_or, Some, None, refl, ap, sym, ◌∙◌, arith}
use Rattle.std.specs.Prelude.{slice_get}
use Rattle.std.proofs.lemmas.Option.{slice_get-get_or}
use Rattle.cg_model.specs.Kernel.{Kernel, IsKernel}
use Rattle.cg_model.specs.declared.kernel.Node.{Node}
use Rattle.cg_model.specs.declared.kernel.Operand.{Operand}
use Rattle.cg_model.specs.declared.kernel.Operand.TheVariants.{Const as Constant, Edge}
use Rattle.cg_model.specs.Mapping.{End, ends_of, ends_from}
use Rattle.cg_mapping.specs.Ends.{EdgeOperand, as_end, AreWithin}
use Rattle.cg_mapping.proofs.Steps.{Has}
use Rattle.cg_model.proofs.Lookups.{get_map}
use Rattle.cg_model.proofs.Mappings.{operands_few}

-- an item of two lists is one of them
pub get_either : {X : Type 0} (xs ys : List X) (i : ℕ) (x : X) → slice_get (xs ++ ys) i ≡ Some x → (slice_get xs i ≡ Some x) ⊎ ((j : ℕ) × (slice_get ys j ≡ Some x))
get_either [] ys i x at = inr (i, at)
get_either (y ∷ xs) ys zero x at = inl at
get_either (y ∷ xs) ys (suc i) x at = get_either xs ys i x at

abbrev pub Bounds : ℕ → ℕ → ℕ → End → Type 0
Bounds low high args e = (low ≤ e.node) × (e.node < high) × (e.arg < args)

pub ends_of_bound : (v k : ℕ) (os : List Operand) (i : ℕ) (e : End) → slice_get (ends_of v k os) i ≡ Some e → (e.node ≡ v) × (k ≤ e.arg) × (e.arg < k + length os)
ends_of_bound v k [] i e at = let bad : None ≡ Some e = at in absurd (cc)
ends_of_bound v k (Constant w ∷ os) i e at = let rest = ends_of_bound v (suc k) os i e at in (rest.0, omega (arith, rest.1), omega (arith, rest.2))
ends_of_bound v k (Edge u d init ∷ os) zero e at =
    let same : record { node = v; arg = k } ≡ e = cc in
    let p = ap (λ x. x.arg) same in
    (ap (λ x. x.node) (sym same), omega (arith, p), omega (arith, p))
ends_of_bound v k (Edge u d init ∷ os) (suc i) e at = let rest = ends_of_bound v (suc k) os i e at in (rest.0, omega (arith, rest.1), omega (arith, rest.2))

pub ends_from_bound : (v m : ℕ) (ns : List Node) (i : ℕ) (e : End) → ((j : ℕ) (n : Node) → slice_get ns j ≡ Some n → length n.operands ≤ m) → slice_get (ends_from v ns) i ≡ Some e → Bounds v (v + length ns) m e
ends_from_bound v m [] i e few at = let bad : None ≡ Some e = at in absurd (cc)
ends_from_bound v m (n ∷ ns) i e few at = ⊎_elim
    (λ here. let own = ends_of_bound v 0 n.operands i e here in let most = few 0 n refl in (omega (arith, own.0), omega (arith, own.0), omega (arith, own.2, most)))
    (λ later. let rest = ends_from_bound (suc v) m ns later.0 e (λ j x here. few (suc j) x here) later.1 in (omega (arith, rest.0), omega (arith, rest.1), rest.2))
    (get_either (ends_of v 0 n.operands) (ends_from (suc v) ns) i e at)

-- ---- of a kernel

end_bound : (K : Kernel) → IsKernel K → (nodes : List Node) (ends : List EdgeOperand) → nodes ≡ K.nodes → map as_end ends ≡ ends_from 0 nodes → (i : ℕ) (e : EdgeOperand) → slice_get ends i ≡ Some e → Bounds 0 (0 + length nodes) 3 (as_end e)
end_bound K valid nodes ends same is i e at =
    ends_from_bound 0 3 nodes i (as_end e) (λ j n here. operands_few K valid j n (ap (λ ns. slice_get ns j) (sym same) ∙ here)) (ap (λ es. slice_get es i) (sym is) ∙ get_map as_end ends i e at)

-- the edge operands that the code keeps are within the table
pub ends_within : (K : Kernel) → IsKernel K → (nodes : List Node) (ends : List EdgeOperand) → nodes ≡ K.nodes → map as_end ends ≡ ends_from 0 nodes → AreWithin (length nodes) ends
ends_within K valid nodes ends same is = record {
  nodes = λ i e at. let b = (end_bound K valid nodes ends same is i e at).1 in omega (arith, b);
  args = λ i e at. (end_bound K valid nodes ends same is i e at).2;
}

pub end_has : (size : ℕ) (ends : List EdgeOperand) (i : ℕ) (d : EdgeOperand) → AreWithin size ends → i < length ends → Has (size * 3) (get_or ends i d)
end_has size ends i d within h =
    let at = slice_get-get_or ends i d h in
    let v = within.nodes i (get_or ends i d) at in
    let p = within.args i (get_or ends i d) at in
    record { arg = p; slot = omega (arith, v, p) }
