-- The hub's mapping has the kernel's shape.
use Rattle.std.proofs.Common.{◌≡◌, ℕ, suc, ◌+◌, ◌<◌, List, [], ◌∷◌, ◌++◌, length, get_or, map, refl, ap, ap₂, ◌∙◌, arith}
use Rattle.std.specs.Prelude.{flat_map}
use Rattle.std.specs.List.{range_with_len}
use Rattle.std.proofs.lemmas.List.{map-append}
use Rattle.std.proofs.lemmas.List.FromFn.{length-map-range_with_len}
use Rattle.cg_model.specs.declared.kernel.Node.{Node}
use Rattle.cg_model.specs.declared.kernel.Operand.{Operand}
use Rattle.cg_model.specs.declared.kernel.Operand.TheVariants.{Const as Constant, Edge}
use Rattle.cg_model.specs.Kernel.{Kernel, no_node, node, size}
use Rattle.cg_model.specs.Array.{Arch}
use Rattle.cg_model.specs.Mapping.{End, IsShaped, end_of, ends_of, ends_from}
use Rattle.cg_hub.specs.Hub.{hub_place, hub_route, hub_routes_to, hub_routes, hub_map}

module _ (A : Arch) (K : Kernel) (ii : ℕ) where
  one_end : (v p : ℕ) (o : Operand) (os : List Operand) → map end_of (hub_route A K ii v p o) ++ ends_of v (suc p) os ≡ ends_of v p (o ∷ os)
  one_end v p (Constant w) os = refl
  one_end v p (Edge u d init) os = refl

  node_ends : (v p : ℕ) (os : List Operand) → map end_of (hub_routes_to A K ii v p os) ≡ ends_of v p os
  node_ends v p [] = refl
  node_ends v p (o ∷ os) =
      map-append end_of (hub_route A K ii v p o) (hub_routes_to A K ii v (suc p) os)
      ∙ ap (λ (z : List End). map end_of (hub_route A K ii v p o) ++ z) (node_ends v (suc p) os) ∙ one_end v p o os

  all_ends : (k : ℕ) (ns : List Node) → ((j : ℕ) → j < length ns → node K (k + j) ≡ get_or ns j no_node) →
      map end_of (flat_map (hub_routes A K ii) (range_with_len k (length ns))) ≡ ends_from k ns
  all_ends k [] h = refl
  all_ends k (n ∷ ns) h =
      let z : k + 0 ≡ k = omega arith in
      let here : node K k ≡ n = rw z at (h 0 (omega arith)) in
      let y : k + 1 ≡ suc k = omega arith in
      map-append end_of (hub_routes A K ii k) (flat_map (hub_routes A K ii) (range_with_len (k + 1) (length ns)))
      ∙ ap₂ (λ (x y : List End). x ++ y)
      (node_ends k 0 (node K k).operands ∙ ap (λ (m : Node). ends_of k 0 m.operands) here)
      (all_ends (k + 1) ns (λ j l. let e : k + 1 + j ≡ k + suc j = omega arith in ap (node K) e ∙ h (suc j) (omega arith)) ∙ ap (λ m. ends_from m ns) y)

  pub shaped : IsShaped K (hub_map A K ii)
  unfolding hub_map
  shaped =
      record {
        places = length-map-range_with_len (hub_place A K) 0 (size K);
        routes = all_ends 0 K.nodes (λ j l. let e : 0 + j ≡ j = omega arith in ap (node K) e);
      }
