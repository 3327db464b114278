-- Mappings of which no node stands anywhere, and the mapping of a kernel without nodes.
use Rattle.std.proofs.Common.{◌≡◌, ℕ, zero, suc, ◌+◌, ◌<◌, ◌≤◌, List, [], ◌∷◌, length, map, refl, sym, ap, subst, arith}
use Rattle.std.specs.Prelude.{replicate}
use Rattle.std.proofs.lemmas.List.{length-replicate, get_or-replicate}
use Rattle.cg_model.specs.Kernel.{Kernel, IsKernel, size}
use Rattle.cg_model.specs.declared.kernel.Node.{Node}
use Rattle.cg_model.specs.Array.{Arch}
use Rattle.cg_model.specs.declared.mapping.Place.{Place}
use Rattle.cg_model.specs.declared.mapping.Route.{Route}
use Rattle.cg_model.specs.Mapping.{Mapping, End, IsLegal, positions, end_of, ends_from}
use Rattle.cg_search_respond.specs.Faults.{faults_of}
use Rattle.cg_search_respond.specs.Responded.{IsMissed}
use Rattle.cg_search.specs.declared.misses.Miss.{Miss}
use Rattle.cg_search.specs.Search.{AreMissedFrom}
use Rattle.cg_search.proofs.Missed.{miss_of}

-- ---- mappings of which no node stands anywhere

abbrev route_to : End → Route
route_to e = record { node = e.node; arg = e.arg; path = [] }

ends_again : (es : List End) → map end_of (map route_to es) ≡ es
ends_again [] = refl
ends_again (e ∷ es) = ap (λ xs. e ∷ xs) (ends_again es)

module _ (A : Arch) (K : Kernel) where
  abbrev nowhere : Place
  nowhere = record { unit = length A.units; time = 0 }

  abbrev displaced : ℕ → Mapping
  displaced ii = record { ii = ii; places = replicate (size K) nowhere; routes = map route_to (ends_from 0 K.nodes) }

  is_displaced : (ii : ℕ) → 0 < size K → IsMissed A K ii (displaced ii)
  is_displaced ii some = record {
    shape = record { places = length-replicate (size K) nowhere; routes = ends_again (ends_from 0 K.nodes) };
    interval = refl;
    illegal = λ legal.
        let known = legal.units 0 some in
        let there = get_or-replicate (size K) 0 nowhere (record { unit = 0; time = 0 }) some in
        let wrong : length A.units < length A.units = subst (λ (p : Place). p.unit < length A.units) there known in
        omega (arith, wrong);
  }

  abbrev miss : ℕ → Miss
  miss ii = record { faults = faults_of A K (displaced ii); mapping = displaced ii }

  pub some_misses : 0 < size K → (first n : ℕ) → (misses : List Miss) × AreMissedFrom A K first misses × (length misses ≡ n)
  some_misses some first zero = ([], tt, refl)
  some_misses some first (suc n) =
      let (misses, are, all) = some_misses some (first + 1) n in
      (miss first ∷ misses, (miss_of A K first (faults_of A K (displaced first)) (displaced first) refl (is_displaced first some), are), ap (λ k. suc k) all)

-- ---- the mapping of a kernel without nodes

no_ends : (nodes : List Node) → length nodes ≤ 0 → ends_from 0 nodes ≡ []
no_ends [] none = refl
no_ends (n ∷ ns) none = absurd (omega (arith, none))

abbrev pub empty : ℕ → Mapping
empty ii = record { ii = ii; places = []; routes = [] }

module _ (A : Arch) (K : Kernel) (kernel : IsKernel K) (none : size K ≤ 0) where
  pub empty_legal : (ii : ℕ) → 0 < ii → ii ≤ A.contexts → IsLegal A K (empty ii)
  unfolding positions
  empty_legal ii some most = record {
    shape = record { places = omega (arith, none); routes = sym (no_ends K.nodes none) };
    interval = some;
    contexts = most;
    units = λ v l. absurd (omega (arith, l, none));
    offered = λ v l. absurd (omega (arith, l, none));
    soon = λ v l. absurd (omega (arith, l, none));
    apart = λ v w l m e f. absurd (omega (arith, l, none));
    ordered = λ e u v d has. absurd (let known = (kernel.order.known e u v d has).0 in omega (arith, known, none));
    brings = λ route u d init listed has. absurd (let few = listed.1 in omega (arith, few));
    alone = λ p q listed other e f. absurd (let few = listed.1 in omega (arith, few));
    one_way = λ p q listed other e f. absurd (let few = listed.1 in omega (arith, few));
  }
