-- A mapping of the right shape has a route for each edge operand.
use Rattle.std.proofs.Common.{◌≡◌, ℕ, zero, suc, ◌+◌, ◌<◌, List, [], ◌∷◌, length, map, Some, Contains, sym, subst, arith, ⊎_elim}
use Rattle.std.specs.Prelude.{slice_get, slice_index_or}
use Rattle.std.proofs.lemmas.List.Elements.{Contains-append_left, Contains-append_right}
use Rattle.cg_model.specs.declared.kernel.Node.{Node}
use Rattle.cg_model.specs.declared.kernel.Operand.{Operand}
use Rattle.cg_model.specs.declared.kernel.Operand.TheVariants.{Const as Constant, Edge}
use Rattle.cg_model.specs.Kernel.{Kernel, HasOperand, no_node, size}
use Rattle.cg_model.specs.Mapping.{Mapping, End, end_of, ends_of, ends_from, IsShaped}
use Rattle.cg_overlap.proofs.Facts.{Contains-first, Contains-later, Contains-cases}
use Rattle.cg_model.proofs.Lookups.{Contains-nil}

Contains-map_from : {X Y : Type 0} (f : X → Y) (xs : List X) (y : Y) → Contains (map f xs) y → (x : X) × Contains xs x × (f x ≡ y)
Contains-map_from f [] y h = absurd (Contains-nil y h)
Contains-map_from f (x ∷ xs) y h =
    ⊎_elim (λ e. (x, Contains-first x xs, e)) (λ l. let r = Contains-map_from f xs y l in (r.0, Contains-later r.0 x xs r.1, r.2)) (Contains-cases y (f x) (map f xs) h)

of_operands : (v k j p : ℕ) (os : List Operand) (u d : ℕ) (init : List ℕ) → j ≡ k + p → slice_get os p ≡ Some (Edge u d init) → Contains (ends_of v k os) (record { node = v; arg = j })
of_operands v k j p [] u d init e h = absurd (cc)
of_operands v k j zero (Constant w ∷ os) u d init e h = absurd (cc)
of_operands v k j zero (Edge a b c ∷ os) u d init e h =
    let z : k ≡ j = omega arith in subst (λ i. Contains (ends_of v k (Edge a b c ∷ os)) (record { node = v; arg = i })) z (Contains-first _ (ends_of v (suc k) os))
of_operands v k j (suc p) (Constant w ∷ os) u d init e h = of_operands v (suc k) j p os u d init (omega arith) h
of_operands v k j (suc p) (Edge a b c ∷ os) u d init e h = Contains-later _ _ (ends_of v (suc k) os) (of_operands v (suc k) j p os u d init (omega arith) h)

of_nodes : (k j v p : ℕ) (ns : List Node) (u d : ℕ) (init : List ℕ) → j ≡ k + v → v < length ns → slice_get (slice_index_or ns v no_node).operands p ≡ Some (Edge u d init) →
    Contains (ends_from k ns) (record { node = j; arg = p })
of_nodes k j v p [] u d init e l h = absurd (omega arith)
of_nodes k j zero p (n ∷ ns) u d init e l h =
    let z : k ≡ j = omega arith in
    Contains-append_left (ends_of k 0 n.operands) (ends_from (suc k) ns) _ (subst (λ i. Contains (ends_of k 0 n.operands) (record { node = i; arg = p })) z (of_operands k 0 p p n.operands u d init (omega arith) h))
of_nodes k j (suc v) p (n ∷ ns) u d init e l h =
    Contains-append_right (ends_of k 0 n.operands) (ends_from (suc k) ns) _ (of_nodes (suc k) j v p ns u d init (omega arith) (omega arith) h)

pub routed : (K : Kernel) (M : Mapping) → IsShaped K M → (v p u d : ℕ) (init : List ℕ) → v < size K → HasOperand K v p (Edge u d init) →
    (path : List ℕ) × Contains M.routes (record { node = v; arg = p; path = path })
routed K M shaped v p u d init l h =
    let there = subst (λ es. Contains es (record { node = v; arg = p })) (sym shaped.routes) (of_nodes 0 v v p K.nodes u d init (omega arith) l h) in
    let (route, m, e) = Contains-map_from end_of M.routes (record { node = v; arg = p }) there in
    (route.path, subst (λ (z : End). Contains M.routes (record { node = z.node; arg = z.arg; path = route.path })) e m)
