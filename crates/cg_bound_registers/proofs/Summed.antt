-- The sums that a check reads, as the definitions have them.
use Rattle.std.proofs.Common.{◌≡◌, ℕ, ◌+◌, ◌-◌, ◌*◌, ◌<◌, ◌≤◌, ltb, true, List, get_or, length, refl, sym, ap, ap₂, ◌∙◌, add-one, arith}
use Rattle.std.proofs.Math.Nat.{mul-le-mul_left, mul-le-mul_right}
use Rattle.std.proofs.lemmas.List.{get_or_default}
use Rattle.std.proofs.lemmas.Bool.{ltb-true, lt-ltb}
use Rattle.cg_model.specs.declared.kernel.Node.{Node}
use Rattle.cg_model.specs.Kernel.{Kernel, node, no_node}
use Rattle.cg_bound_registers.specs.declared.certificate.Stay.{Stay}
use Rattle.cg_bound_registers.specs.declared.certificate.Pull.{Pull}
use Rattle.cg_bound_registers.specs.declared.certificate.Tie.{Tie}
use Rattle.cg_bound_registers.specs.declared.certificate.Pressure.{Pressure}
use Rattle.cg_bound_registers.specs.declared.sums.Of.{Of}
use Rattle.cg_bound_registers.specs.Pressure.{weigh, data_edge, order_edge, stays, pulls, ties, total}
use Rattle.cg_bound_registers.specs.Sums.{value_of}

module _ (K : Kernel) (P : Pressure) (hops : List ℕ) (of : Of) where
  pub at_stays : (xs : List Stay) (r : ℕ) → r ≡ weigh (λ (s : Stay). 1) (λ s. data_edge K s.node s.arg) (value_of hops of) xs → xs ≡ P.stays.items → r ≡ stays K P (value_of hops of)
  at_stays xs r e f = e ∙ ap (weigh (λ (s : Stay). 1) (λ s. data_edge K s.node s.arg) (value_of hops of)) f

  pub at_pulls : (xs : List Pull) (r : ℕ) → r ≡ weigh (λ (x : Pull). x.weight) (λ x. data_edge K x.node x.arg) (value_of hops of) xs → xs ≡ P.pulls.items → r ≡ pulls K P (value_of hops of)
  at_pulls xs r e f = e ∙ ap (weigh (λ (x : Pull). x.weight) (λ x. data_edge K x.node x.arg) (value_of hops of)) f

  pub at_ties : (xs : List Tie) (r : ℕ) → r ≡ weigh (λ (x : Tie). x.weight) (λ x. order_edge K x.edge) (value_of hops of) xs → xs ≡ P.ties.items → r ≡ ties K P (value_of hops of)
  at_ties xs r e f = e ∙ ap (weigh (λ (x : Tie). x.weight) (λ x. order_edge K x.edge) (value_of hops of)) f

total_next : (w : ℕ) (f : ℕ → ℕ) → total (w + 1) f ≡ total w f + f w
total_next w f = rw add-one refl

pub op_at : (K : Kernel) (ns : List Node) (w : ℕ) (x : Node) → ns ≡ K.nodes → w < length K.nodes → (get_or ns w x).op ≡ (node K w).op
op_at K ns w x e l = ap (λ (zs : List Node). (get_or zs w x).op) e ∙ ap (λ (z : Node). z.op) (get_or_default K.nodes w x no_node l)

-- one node more of a sum over products
pub sum_more : (w s r t : ℕ) (f : ℕ → ℕ) (a b l : ℕ) → t ≡ total w f → s ≡ a - b → r ≡ l → f w ≡ (a - b) * l → t + s * r ≡ total (w + 1) f
sum_more w s r t f a b l e g h i = e' ∙ sym (total_next w f)
  where
    e' : t + s * r ≡ total w f + f w
    e' = ap₂ (λ x y. x + y) e (ap₂ (λ x y. x * y) g h ∙ sym i)

pub product_le : (s r a b : ℕ) → s ≤ a → r ≤ b → s * r ≤ a * b
product_le s r a b h k = let p = mul-le-mul_left s k in let q = mul-le-mul_right b h in omega arith

-- the sides, and their comparison
pub sum_along : (ii s g f t s' g' f' t' : ℕ) → s ≡ s' → g ≡ g' → f ≡ f' → t ≡ t' → ii * s + g + f + t ≡ ii * s' + g' + f' + t'
sum_along ii s g f t s' g' f' t' a1 a2 a3 a4 = rw (a1, a2, a3, a4) refl

pub sum_against : (ii d e l d' e' l' : ℕ) → d ≡ d' → e ≡ e' → l ≡ l' → ii * (d + e) + l ≡ ii * (d' + e') + l'
sum_against ii d e l d' e' l' a1 a2 a3 = rw (a1, a2, a3) refl

pub sides : (ii r r' b d l n m : ℕ) → r ≡ r' → b ≡ d + l → n ≡ m →
    (ltb (ii * r + b) n ≡ true → ii * r' + d + l < m) × (ii * r' + d + l < m → ltb (ii * r + b) n ≡ true)
sides ii r r' b d l n m e f g =
    let q = ap (λ z. ii * z) e in
    (λ h. let a = ltb-true _ _ h in omega arith, λ h. lt-ltb _ _ (omega arith))
