-- The cycles that all nodes take, whether there are any, and what the code reads of nodes and units.
use Rattle.std.proofs.Common.{◌≡◌, ℕ, ◌+◌, ◌<◌, ◌≤◌, true, false, List, [], ◌∷◌, length, get_or, Option, Some, None, refl, sym, ap, ◌∙◌, subst, arith, add-one}
use Rattle.std.specs.Prelude.{slice_get, slice_index, ◌↔◌, IsSome, is_some}
use Rattle.std.specs.List.{list_all}
use Rattle.std.proofs.lemmas.Bool.{cond-true, cond-false, lt-ltb, le-ltb, true≢false}
use Rattle.std.proofs.lemmas.List.{get_or_read}
use Rattle.std.proofs.lemmas.List.Folds.{list_all_at}
use Rattle.std.proofs.lemmas.Option.{slice_get_within, get_or_from_slice_get}
use Rattle.cg_word.specs.declared.op.Op.{Op}
use Rattle.cg_word.specs.Sets.{among}
use Rattle.cg_model.specs.declared.array.Unit.{Unit as UnitOf}
use Rattle.cg_model.specs.declared.kernel.Node.{Node}
use Rattle.cg_model.specs.Kernel.{Kernel, no_node, size, node}
use Rattle.cg_model.specs.Array.{Arch, IsArch, unit}
use Rattle.cg_model.proofs.Elements.{list_all-each}
use Rattle.cg_place.specs.Placed.{offering, IsOffered}
use Rattle.cg_hub.specs.Hub.{host, start, is_served, serial}
use Rattle.cg_hub.proofs.Times.{hosted}

pub serial_some : (A : Arch) (K : Kernel) → IsOffered A K → serial A K ≡ Some (start A K (size K))
unfolding serial
serial_some A K h =
    cond-true (list_all (is_served A) K.nodes) _ _
    (list_all-each (is_served A) K.nodes (λ v n e.
    lt-ltb 0 _ (subst (λ (z : Node). 0 < length (offering A z.op)) (get_or_from_slice_get K.nodes v n no_node e) (h v (slice_get_within K.nodes v n e)))))

pub serial_none : (A : Arch) (K : Kernel) (v : ℕ) → v < size K → length (offering A (node K v).op) ≡ 0 → serial A K ≡ None
unfolding serial
serial_none A K v l h =
    cond-false (list_all (is_served A) K.nodes) _ _ (list_all_at (is_served A) K.nodes v no_node l (le-ltb 0 _ (omega arith)))

-- where an answer is none
pub none_iff : (A : Arch) (K : Kernel) (v : ℕ) (o : Option ℕ) → o ≡ None → v < size K → length (offering A (node K v).op) ≡ 0 → IsSome o ↔ IsOffered A K
none_iff A K v o e l h = (
  λ s. absurd (let z : false ≡ true = ap is_some (sym e) ∙ s in true≢false (sym z)),
  λ each. absurd (let z = each v l in omega arith),
)

-- ---- what the code reads

abbrev unit_in : List UnitOf → ℕ → UnitOf
unit_in units x = get_or units x (record { name = []; ops = []; latency = 1; ports = []; out = 0 })

no_first : (xs : List ℕ) → None ≡ slice_get xs 0 → length xs ≡ 0
no_first [] e = refl
no_first (x ∷ xs) e = let bad : None ≡ Some x = e in absurd (cc)

some_first : (xs : List ℕ) (x : ℕ) → Some x ≡ slice_get xs 0 → (0 < length xs) × (x ≡ slice_index xs 0)
some_first [] x e = let bad : Some x ≡ None = e in absurd (cc)
some_first (y ∷ xs) x e = (omega arith, (cc))

-- node v, and the first unit that offers its operation
module _ (A : Arch) (K : Kernel) (nodes : List Node) (v : ℕ) (n : Node) (all : nodes ≡ K.nodes) (l : v < length nodes) (is : n ≡ get_or nodes v n) where
  pub node_within : v < size K
  node_within = omega (arith, ap (λ (z : List Node). length z) all)

  node_here : get_or nodes v n ≡ node K v
  node_here = sym is ∙ get_or_read nodes v n l is no_node ∙ ap (λ (z : List Node). get_or z v no_node) all

  pub none_here : None ≡ slice_get (offering A (get_or nodes v n).op) 0 → length (offering A (node K v).op) ≡ 0
  none_here e = no_first (offering A (node K v).op) (subst (λ (z : Node). None ≡ slice_get (offering A z.op) 0) node_here e)

  pub some_here : (x : ℕ) → Some x ≡ slice_get (offering A (get_or nodes v n).op) 0 → 0 < length (offering A (node K v).op)
  some_here x e = (some_first (offering A (node K v).op) x (subst (λ (z : Node). Some x ≡ slice_get (offering A z.op) 0) node_here e)).0

  pub host_here : (x : ℕ) → Some x ≡ slice_get (offering A (get_or nodes v n).op) 0 → x ≡ host A K v
  unfolding host
  host_here x e = (some_first (offering A (node K v).op) x (subst (λ (z : Node). Some x ≡ slice_get (offering A z.op) 0) node_here e)).1

  module _ (units : List UnitOf) (x : ℕ) (u : UnitOf) (have : units ≡ A.units) (found : Some x ≡ slice_get (offering A (get_or nodes v n).op) 0) where
    pub unit_within : x < length units
    unit_within = omega (arith, host_here x found, (hosted A K v (some_here x found)).0, ap (λ (z : List UnitOf). length z) have)

    pub latency_here : u ≡ get_or units x u → (get_or units x u).latency ≡ (unit A (host A K v)).latency
    latency_here at =
        let e : get_or units x u ≡ unit A x =
        sym at ∙ get_or_read units x u unit_within at (record { name = []; ops = []; latency = 1; ports = []; out = 0 }) ∙ ap (λ (z : List UnitOf). unit_in z x) have in
        ap (λ (z : UnitOf). z.latency) (e ∙ ap (unit A) (host_here x found))

    pub latency_few : IsArch A → u ≡ get_or units x u → (get_or units x u).latency ≤ 4
    latency_few good at = omega (arith, latency_here at, (good.latencies (host A K v) (hosted A K v (some_here x found)).0).1)

    -- one node more
    pub start_more : (sum : ℕ) → sum ≡ start A K v → u ≡ get_or units x u → sum + ((get_or units x u).latency + 1) ≡ start A K (v + 1)
    start_more sum e at = rw (add-one v) (omega (arith, latency_here at, e))

-- what unit x offers
pub ops_here : (A : Arch) (op : Op) (units : List UnitOf) (x : ℕ) (u : UnitOf) → units ≡ A.units → x < length units → u ≡ get_or units x u →
    among (get_or units x u).ops op ≡ among (unit A x).ops op
ops_here A op units x u have l at =
    let e : get_or units x u ≡ unit A x =
    sym at ∙ get_or_read units x u l at (record { name = []; ops = []; latency = 1; ports = []; out = 0 }) ∙ ap (λ (z : List UnitOf). unit_in z x) have in
    ap (λ (z : UnitOf). among z.ops op) e
