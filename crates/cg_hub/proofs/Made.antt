-- The loops that make places, ways and routes, one step on; and what is read of a schedule.
use Rattle.std.proofs.Common.{◌≡◌, ℕ, zero, suc, ◌+◌, ◌-◌, ◌*◌, ◌/◌, ◌<◌, ◌≤◌, List, [], ◌∷◌, ◌++◌, length, map, get_or, sym, ap, ap₂, ◌∙◌, arith, append_assoc, add-one}
use Rattle.std.specs.Prelude.{flat_map}
use Rattle.std.specs.List.{range_with_len}
use Rattle.std.proofs.lemmas.List.{append-nil, get_or_read}
use Rattle.std.proofs.lemmas.List.FromFn.{get_or-map-range_with_len, length-map-range_with_len, map-range_with_len_more}
use Rattle.cg_model.specs.declared.array.Unit.{Unit as UnitOf}
use Rattle.cg_model.specs.declared.kernel.Operand.TheVariants.{Edge}
use Rattle.cg_model.specs.Kernel.{HasOperand, size}
use Rattle.cg_model.specs.Array.{unit}
use Rattle.cg_model.specs.declared.mapping.Place.{Place}
use Rattle.cg_model.specs.declared.mapping.Route.{Route}
use Rattle.cg_hub.specs.Hub.{registers_before, host, start, hub_leaves, hub_routes, hub_place, hub_map}
use Rattle.cg_hub.specs.Scheduled.{Scheduled, IsScheduled, IsKept}
use Rattle.cg_hub.proofs.Times.{host_within, register_within, source_within, in_time, held, has_port}

-- ---- one step on

pub grown : {X : Type 0} (f : ℕ → X) (xs new : List X) (x : X) (i : ℕ) → xs ≡ map f (range_with_len 0 i) → new ≡ xs ++ x ∷ [] → x ≡ f i →
    new ≡ map f (range_with_len 0 (i + 1))
grown f xs new x i e n h = n ∙ rw (e, h) (sym (map-range_with_len_more f 0 i i (omega arith)))

pub grown_behind : (out : ℕ) (f : ℕ → ℕ) (xs new : List ℕ) (x i : ℕ) → xs ≡ out ∷ map f (range_with_len 0 i) → new ≡ xs ++ x ∷ [] → x ≡ f i →
    new ≡ out ∷ map f (range_with_len 0 (i + 1))
grown_behind out f xs new x i e n h = n ∙ rw (e, h) (ap (λ z. out ∷ z) (sym (map-range_with_len_more f 0 i i (omega arith))))

range_more : {X : Type 0} (f : ℕ → List X) (n a : ℕ) → flat_map f (range_with_len a (suc n)) ≡ flat_map f (range_with_len a n) ++ f (a + n)
range_more f zero a = let z : a + 0 ≡ a = omega arith in rw z (append-nil (f a))
range_more f (suc n) a =
    let z : a + 1 + n ≡ a + suc n = omega arith in
    ap (λ l. f a ++ l) (rw z at (range_more f n (a + 1))) ∙ sym (append_assoc (f a) (flat_map f (range_with_len (a + 1) n)) (f (a + suc n)))

pub joined : {X : Type 0} (f : ℕ → List X) (old new : List X) (v : ℕ) → old ≡ flat_map f (range_with_len 0 v) → new ≡ old ++ f v →
    new ≡ flat_map f (range_with_len 0 (v + 1))
joined f old new v e h =
    let z : 0 + v ≡ v = omega arith in
    h ∙ ap (λ l. l ++ f v) e ∙ sym (rw (add-one v) (rw z at (range_more f v 0)))

-- ---- what is read

module _ (S : Scheduled) (places : List Place) (kept : IsKept S places) where
  pub all_placed : length places ≡ size S.kernel
  all_placed = ap length kept.places_are ∙ length-map-range_with_len (hub_place S.arch S.kernel) 0 (size S.kernel)

  pub place_read : (v : ℕ) (p : Place) → v < size S.kernel → p ≡ get_or places v p → p ≡ hub_place S.arch S.kernel v
  place_read v p l is =
      is ∙ ap (λ (z : List Place). get_or z v p) kept.places_are ∙ get_or-map-range_with_len (hub_place S.arch S.kernel) 0 (size S.kernel) v v p l (omega arith)

  -- the unit of node v
  pub unit_read : (v : ℕ) (p : Place) → v < size S.kernel → p ≡ get_or places v p → (units : List UnitOf) (u : UnitOf) → units ≡ S.arch.units → u ≡ get_or units p.unit u →
      u ≡ unit S.arch (host S.arch S.kernel v)
  unit_read v p l is units u have at =
      let h : p.unit ≡ host S.arch S.kernel v = ap (λ (z : Place). z.unit) (place_read v p l is) in
      let within : p.unit < length units = omega (arith, h, host_within S.arch S.kernel S.ii kept.scheduled.enough v l, ap (λ (z : List UnitOf). length z) have) in
      get_or_read units p.unit u within at (record { name = []; ops = []; latency = 1; ports = []; out = 0 })
      ∙ ap (λ (z : List UnitOf). get_or z p.unit (record { name = []; ops = []; latency = 1; ports = []; out = 0 })) have ∙ ap (unit S.arch) h

-- ---- the way of one operand

module _ (S : Scheduled) (is : IsScheduled S) (v p u d : ℕ) (init : List ℕ) (o : HasOperand S.kernel v p (Edge u d init)) where
  pub source_there : u < size S.kernel
  source_there = source_within S.arch S.kernel S.ii is.arch is.kernel is.enough v p u d init o

  pub arg_there : (x : UnitOf) (ports : List ℕ) → x ≡ unit S.arch (host S.arch S.kernel v) → ports ≡ x.ports → p < length ports
  arg_there x ports at e =
      omega (arith, ap (λ (z : List ℕ). length z) e, ap (λ (z : UnitOf). length z.ports) at, has_port S.arch S.kernel S.ii is.arch is.kernel is.enough v p (Edge u d init) o)

  module _ (ii from to : ℕ) (x : UnitOf) (from_is : from ≡ start S.arch S.kernel u) (to_is : to ≡ start S.arch S.kernel v) (x_is : x ≡ unit S.arch (host S.arch S.kernel u)) (ii_is : ii ≡ S.ii) where
    leaves_is : from + x.latency ≡ hub_leaves S.arch S.kernel u
    leaves_is = ap₂ (λ a b. a + b) from_is (ap (λ (z : UnitOf). z.latency) x_is)

    end_is : to + ii * d ≡ start S.arch S.kernel v + S.ii * d
    end_is = ap₂ (λ a b. a + b * d) to_is ii_is

    pub wanted_later : from + x.latency ≤ to + ii * d
    wanted_later = omega (arith, leaves_is, end_is, in_time S.arch S.kernel S.ii is.arch is.kernel is.enough v p u d init o)

    pub register_there : (first : ℕ) (hub : List ℕ) → first ≡ registers_before S.kernel u → hub ≡ S.arch.hub → (k : ℕ) → k < to + ii * d - (from + x.latency) → first + k / ii < length hub
    register_there first hub first_is hub_is k l =
        let h : k < start S.arch S.kernel v + S.ii * d - hub_leaves S.arch S.kernel u = omega (arith, leaves_is, end_is) in
        omega (
          arith,
          first_is,
          ap (λ z. k / z) ii_is,
          ap (λ (z : List ℕ). length z) hub_is,
          register_within S.arch S.kernel S.ii is.enough u (k / S.ii) source_there (held S.arch S.kernel S.ii is.arch is.kernel is.enough v p u d init k o h),
        )

-- ---- the whole mapping

pub map_is : (S : Scheduled) (places : List Place) (routes : List Route) (ii n : ℕ) → IsKept S places → ii ≡ S.ii → n ≡ size S.kernel →
    routes ≡ flat_map (hub_routes S.arch S.kernel S.ii) (range_with_len 0 n) → record { ii = ii; places = places; routes = routes } ≡ hub_map S.arch S.kernel S.ii
unfolding hub_map
map_is S places routes ii n kept i e r =
    ap (λ z. record { ii = z; places = places; routes = routes }) i
    ∙ ap₂ (λ (x : List Place) (y : List Route). record { ii = S.ii; places = x; routes = y }) kept.places_are (r ∙ ap (λ z. flat_map (hub_routes S.arch S.kernel S.ii) (range_with_len 0 z)) e)
