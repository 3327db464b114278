-- What holds of the first places.
use Rattle.std.proofs.Common.{◌≡◌, ℕ, ◌<◌, ◌≤◌, List, length, sym, subst, arith}
use Rattle.std.specs.Prelude.{All}
use Rattle.std.proofs.lemmas.List.Elements.{All-from_get_or}
use Rattle.std.proofs.lemmas.List.FromFn.{length-map-range_with_len, get_or-map-range_with_len}
use Rattle.cg_model.specs.declared.mapping.Place.{Place}
use Rattle.cg_model.specs.Kernel.{Kernel, IsKernel, size, node}
use Rattle.cg_model.specs.Array.{Arch}
use Rattle.cg_place.specs.Placed.{IsPlacement, IsOffered, AreEarly, MayStand, place_in, first_place, first_places}
use Rattle.cg_place.proofs.Offering.{member}

module _ (A : Arch) (K : Kernel) (early : List ℕ) (offered : IsOffered A K) where
  pub each : length (first_places A K early) ≡ size K
  each = length-map-range_with_len (first_place A K early) 0 (size K)

  pub first_is : (v : ℕ) → v < size K → place_in (first_places A K early) v ≡ first_place A K early v
  first_is v l = get_or-map-range_with_len (first_place A K early) 0 (size K) v v (record { unit = 0; time = 0 }) l (omega arith)

  pub stands : (v : ℕ) → v < size K → MayStand A K v (place_in (first_places A K early) v).unit
  stands v l =
      let (within, offers) = member A (node K v).op 0 (offered v l) in
      subst (λ (z : Place). MayStand A K v z.unit) (sym (first_is v l)) record { known = l; within = within; offered = offers }

  pub known : All (λ (p : Place). p.unit < length A.units) (first_places A K early)
  known = All-from_get_or (λ (p : Place). p.unit < length A.units) (first_places A K early) (record { unit = 0; time = 0 }) (λ i l. let e = each in (stands i (omega arith)).within)

pub first_placement : (A : Arch) (K : Kernel) (ii : ℕ) (early : List ℕ) → IsKernel K → 0 < ii → ii ≤ 64 → IsOffered A K → AreEarly K early →
    IsPlacement (record { arch = A; kernel = K; ii = ii; early = early; places = first_places A K early })
first_placement A K ii early kernel some few offered soon = record {
  kernel = kernel;
  some = some;
  few = few;
  offered = offered;
  early = soon;
  each = each A K early offered;
  stand = stands A K early offered;
}
