-- Facts of kernels and mappings: where values come from, and the links of paths.
use Rattle.std.proofs.Common.{◌≡◌, ℕ, true, Option, Some, None, refl, ap, eqb-true, eq-eqb, ◌<◌, ⊎_elim, length, Contains, subst, ◌+◌, ◌≤◌, List, [], ◌∷◌, arith, ◌*◌, ◌/◌, ◌%◌, sym, ◌∙◌}
use Rattle.std.specs.Prelude.{eqb, slice_get}
use Rattle.cg_model.specs.Mapping.{same_from, Goes}
use Rattle.std.proofs.lemmas.List.{get_or_past}
use Rattle.std.proofs.lemmas.Bool.{cases_lt}
use Rattle.std.proofs.lemmas.Option.{slice_get_within, get_or_from_slice_get}
use Rattle.cg_word.proofs.Arity.{arity_few}
use Rattle.cg_model.specs.declared.kernel.Node.{Node}
use Rattle.cg_model.specs.declared.kernel.Operand.{Operand}
use Rattle.cg_model.specs.Kernel.{Kernel, IsKernel, HasOperand, no_node, node, size}
use Rattle.cg_model.specs.declared.array.Resource.{Resource}
use Rattle.cg_model.specs.Array.{Arch, resource, delay}
use Rattle.cg_model.proofs.Lookups.{Contains-nil}
use Rattle.std.proofs.lemmas.Nat.{div-mul-add, mod-mul-add}

pub same_from_is : (a b : Option ℕ) → same_from a b ≡ true → a ≡ b
same_from_is None None h = refl
same_from_is (Some a) (Some b) h = ap Some (eqb-true _ _ h)
same_from_is None (Some b) h = absurd (cc)
same_from_is (Some a) None h = absurd (cc)

pub same_from_itself : (a : Option ℕ) → same_from a a ≡ true
same_from_itself None = refl
same_from_itself (Some q) = eq-eqb q q refl

-- no operand stands past the last node
pub operand_within : (K : Kernel) (v p : ℕ) (o : Operand) → HasOperand K v p o → v < size K
operand_within K v p o h =
    ⊎_elim (λ l. l) (λ l. let e : node K v ≡ no_node = get_or_past K.nodes v no_node l in let h' = rw e at h in absurd (cc)) (cases_lt v (size K))

-- a node of a valid kernel has at most three operands
pub operands_few : (K : Kernel) → IsKernel K → (v : ℕ) (n : Node) → slice_get K.nodes v ≡ Some n → length n.operands ≤ 3
operands_few K valid v n at =
    let is = ap (λ m. length m.operands) (get_or_from_slice_get K.nodes v n no_node at) in
    let exact = valid.arities v (slice_get_within K.nodes v n at) in
    let most = arity_few (node K v).op in
    omega (arith, is, exact, most)

-- what has a driver is a resource
pub driven_known : (A : Arch) (r q : ℕ) → Contains (resource A r).drivers q → r < length A.resources
driven_known A r q h =
    ⊎_elim (λ lt. lt) (λ le. absurd (Contains-nil q (subst (λ (z : Resource). Contains z.drivers q) (get_or_past A.resources r _ le) h))) (cases_lt r (length A.resources))

-- time goes on
pub goes_on : (A : Arch) (q t : ℕ) (path : List ℕ) (r s : ℕ) → Goes A q t path r s → t ≤ s
goes_on A q t [] r s g = let e = g.1 in omega arith
goes_on A q t (x ∷ path) r s g = let h = goes_on A x (t + delay A x) path r s g.1 in omega arith

-- a row and a column tell the place
pub places_apart : (ii r s q t : ℕ) → s < ii → t < ii → r * ii + s ≡ q * ii + t → (r ≡ q) × (s ≡ t)
places_apart ii r s q t ls lt e =
    (sym (div-mul-add r ii s ls) ∙ ap (λ z. z / ii) e ∙ div-mul-add q ii t lt, sym (mod-mul-add r ii s ls) ∙ ap (λ z. z % ii) e ∙ mod-mul-add q ii t lt)
