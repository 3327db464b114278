-- For each interval there is an overfull set of operations of nodes, or no overfull set at all: by definitions alone.
use Rattle.std.proofs.Common.{◌≡◌, ℕ, zero, suc, ◌*◌, ◌<◌, ◌≤◌, List, [], ◌∷◌, length, eqb, Bool, true, false, refl, sym, ap, ◌∙◌, subst, arith, inl, inr, ⊎_elim, eqb-true, eq-eqb}
use Rattle.std.specs.Prelude.{◌⊎◌, filter}
use Rattle.std.proofs.lemmas.Bool.{cases_Bool, cases_lt, cond-true, cond-false, true≢false}
use Rattle.std.proofs.Math.Nat.{mul-le-mul_left}
use Rattle.cg_word.specs.declared.op.Op.{Op}
use Rattle.cg_word.specs.Word.{code}
use Rattle.cg_word.specs.Sets.{among}
use Rattle.cg_word.proofs.Codes.{same_code}
use Rattle.cg_model.specs.declared.kernel.Node.{Node}
use Rattle.cg_model.specs.declared.array.Unit.{Unit}
use Rattle.cg_model.specs.Kernel.{Kernel, no_node}
use Rattle.cg_model.specs.Array.{Arch}
use Rattle.cg_class.specs.Class.{IsOverfull, AreOfNodes, nodes_in, units_for, offers_one}
use Rattle.cg_class.specs.Search.{op_at, ops_at, no_unit}
use Rattle.cg_class.proofs.Totals.{total_le, sum_by_total}
use Rattle.cg_class.proofs.Balance.{one_if}
use Rattle.cg_class.proofs.Sets.{offers_from, offers_to}
use Rattle.cg_model.proofs.Sums.{total}

-- ---- the operations of nodes

abbrev ops_of : List Node → List Op
ops_of [] = []
ops_of (n ∷ ns) = n.op ∷ ops_of ns

among_first : (o op : Op) (os : List Op) → o ≡ op → among (o ∷ os) op ≡ true
among_first o op os e = cond-true (eqb (code o) (code op)) true (among os op) (eq-eqb _ _ (ap code e))

among_later : (o op : Op) (os : List Op) → among os op ≡ true → among (o ∷ os) op ≡ true
among_later o op os h = ⊎_elim (λ t. cond-true (eqb (code o) (code op)) true (among os op) t) (λ t. cond-false (eqb (code o) (code op)) true (among os op) t ∙ h) (cases_Bool (eqb (code o) (code op)))

among_cases : (o op : Op) (os : List Op) → among (o ∷ os) op ≡ true → (o ≡ op) ⊎ (among os op ≡ true)
among_cases o op os h = ⊎_elim (λ t. inl (same_code o op (eqb-true _ _ t))) (λ t. inr (sym (cond-false (eqb (code o) (code op)) true (among os op) t) ∙ h)) (cases_Bool (eqb (code o) (code op)))

has_own : (ns : List Node) (v : ℕ) → v < length ns → among (ops_of ns) (op_at ns v) ≡ true
has_own [] v l = absurd (omega arith)
has_own (n ∷ ns) zero l = among_first n.op n.op (ops_of ns) refl
has_own (n ∷ ns) (suc v) l = among_later n.op (op_at ns v) (ops_of ns) (has_own ns v (omega arith))

own_from : (ns : List Node) (op : Op) → among (ops_of ns) op ≡ true → (v : ℕ) × (v < length ns) × (op_at ns v ≡ op)
own_from [] op h = absurd (true≢false (sym h))
own_from (n ∷ ns) op h = ⊎_elim (λ e. (0, omega arith, e)) (λ t. let (v, l, e) = own_from ns op t in (suc v, omega arith, e)) (among_cases n.op op (ops_of ns) h)

-- ---- those of a list that pass a test

filter_cons : (f : Op → Bool) (o : Op) (os : List Op) → ((f o ≡ true) × (filter f (o ∷ os) ≡ o ∷ filter f os)) ⊎ ((f o ≡ false) × (filter f (o ∷ os) ≡ filter f os))
filter_cons f o os = ⊎_elim (λ t. inl (t, cond-true (f o) (o ∷ filter f os) (filter f os) t)) (λ t. inr (t, cond-false (f o) (o ∷ filter f os) (filter f os) t)) (cases_Bool (f o))

filter_has : (f : Op → Bool) (os : List Op) (op : Op) → among os op ≡ true → f op ≡ true → among (filter f os) op ≡ true
filter_has f [] op h t = h
filter_has f (o ∷ os) op h t =
    ⊎_elim
    (λ (a, e). ap (λ z. among z op) e ∙ ⊎_elim (λ q. among_first o op (filter f os) q) (λ q. among_later o op (filter f os) (filter_has f os op q t)) (among_cases o op os h))
    (λ (a, e). ap (λ z. among z op) e ∙ ⊎_elim (λ q. absurd (true≢false (sym t ∙ ap f (sym q) ∙ a))) (λ q. filter_has f os op q t) (among_cases o op os h))
    (filter_cons f o os)

filter_passes : (f : Op → Bool) (os : List Op) (op : Op) → among (filter f os) op ≡ true → f op ≡ true
filter_passes f [] op h = absurd (true≢false (sym h))
filter_passes f (o ∷ os) op h =
    ⊎_elim
    (λ (a, e). ⊎_elim (λ q. ap f (sym q) ∙ a) (λ q. filter_passes f os op q) (among_cases o op (filter f os) (sym (ap (λ z. among z op) e) ∙ h)))
    (λ (a, e). filter_passes f os op (sym (ap (λ z. among z op) e) ∙ h))
    (filter_cons f o os)

-- a property of sets that can be decided holds of some part of a list, or of none
part_or_none : (os : List Op) (P : List Op → Type 0) → ((s : List Op) → P s ⊎ (P s → ⊥)) →
    ((s : List Op) × P s × ((op : Op) → among s op ≡ true → among os op ≡ true)) ⊎ ((f : Op → Bool) → P (filter f os) → ⊥)
part_or_none [] P decide = ⊎_elim (λ h. inl ([], h, λ op t. t)) (λ none. inr (λ f h. none h)) (decide [])
part_or_none (o ∷ os) P decide =
    ⊎_elim
    (λ (s, h, sub). inl (o ∷ s, h, λ op t. ⊎_elim (λ e. among_first o op os e) (λ m. among_later o op os (sub op m)) (among_cases o op s t)))
    (λ with_it.
    ⊎_elim
    (λ (s, h, sub). inl (s, h, λ op t. among_later o op os (sub op t)))
    (λ without. inr (λ f h. ⊎_elim (λ (a, e). with_it f (subst P e h)) (λ (a, e). without f (subst P e h)) (filter_cons f o os)))
    (part_or_none os P decide))
    (part_or_none os (λ s. P (o ∷ s)) (λ s. decide (o ∷ s)))

-- ---- counts

one_if_le : (a b : Bool) → (a ≡ true → b ≡ true) → one_if a ≤ one_if b
one_if_le true b h = let e : one_if b ≡ 1 = cond-true b 1 0 (h refl) in omega arith
one_if_le false b h = omega arith

nodes_le : (ns : List Node) (s t : List Op) → ((v : ℕ) → v < length ns → among s (op_at ns v) ≡ true → among t (op_at ns v) ≡ true) → nodes_in ns s ≤ nodes_in ns t
nodes_le ns s t h =
    let a = sum_by_total (λ (n : Node). one_if (among s n.op)) ns no_node in
    let b = sum_by_total (λ (n : Node). one_if (among t n.op)) ns no_node in
    let c : total (length ns) (λ v. one_if (among s (op_at ns v))) ≤ total (length ns) (λ v. one_if (among t (op_at ns v))) = total_le (length ns) _ _ (λ v l. one_if_le (among s (op_at ns v)) (among t (op_at ns v)) (h v l)) in
    omega arith

units_le : (us : List Unit) (s t : List Op) → ((op : Op) → among s op ≡ true → among t op ≡ true) → units_for us s ≤ units_for us t
units_le us s t h =
    let a = sum_by_total (λ (u : Unit). one_if (offers_one s u.ops)) us no_unit in
    let b = sum_by_total (λ (u : Unit). one_if (offers_one t u.ops)) us no_unit in
    let c : total (length us) (λ x. one_if (offers_one s (ops_at us x))) ≤ total (length us) (λ x. one_if (offers_one t (ops_at us x))) =
    total_le (length us) _ _
    (λ x l. one_if_le (offers_one s (ops_at us x)) (offers_one t (ops_at us x)) (λ o. let (op, p, q) = offers_to s (ops_at us x) o in offers_from t (ops_at us x) op (h op p) q))
    in
    omega arith

-- ---- the decision

module _ (A : Arch) (K : Kernel) (ii : ℕ) where
  decide : (s : List Op) → IsOverfull A K ii s ⊎ (IsOverfull A K ii s → ⊥)
  decide s = ⊎_elim (λ h. inl h) (λ l. inr (λ h. omega arith)) (cases_lt (ii * units_for A.units s) (nodes_in K.nodes s))

  -- where a set is overfull, its operations of nodes are
  of_nodes : (s : List Op) → IsOverfull A K ii s → IsOverfull A K ii (filter (among s) (ops_of K.nodes))
  of_nodes s over =
      let t = filter (among s) (ops_of K.nodes) in
      let a : nodes_in K.nodes s ≤ nodes_in K.nodes t = nodes_le K.nodes s t (λ v l h. filter_has (among s) (ops_of K.nodes) (op_at K.nodes v) (has_own K.nodes v l) h) in
      let b : units_for A.units t ≤ units_for A.units s = units_le A.units t s (λ op h. filter_passes (among s) (ops_of K.nodes) op h) in
      let c : ii * units_for A.units t ≤ ii * units_for A.units s = mul-le-mul_left ii b in
      omega arith

  pub overfull_or_none : ((s : List Op) × IsOverfull A K ii s × AreOfNodes K s) ⊎ ((s : List Op) → IsOverfull A K ii s → ⊥)
  overfull_or_none =
      ⊎_elim
      (λ (s, over, sub). inl (s, over, λ op h. own_from K.nodes op (sub op h)))
      (λ none. inr (λ s over. none (among s) (of_nodes s over)))
      (part_or_none (ops_of K.nodes) (IsOverfull A K ii) decide)
