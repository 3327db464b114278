-- The parts have no fault, and the flat architecture that they stand for.
use Rattle.std.proofs.Common.{◌≡◌, ℕ, zero, suc, ◌+◌, ◌<◌, ◌≤◌, Bool, true, cond, List, [], ◌∷◌, ◌++◌, length, refl, ap, ap₂, sym, ◌∙◌, subst, arith}
use Rattle.std.specs.Prelude.{map, filter, flat_map, codes, unwrap_or}
use Rattle.std.specs.List.{range_with_len, position_from}
use Rattle.std.proofs.lemmas.List.{map-append}
use Rattle.std.proofs.lemmas.List.FromFn.{length-range_with_len}
use Rattle.cg_word.specs.declared.op.Op.{Op}
use Rattle.cg_word.specs.Sets.{among}
use Rattle.cg_model.specs.declared.array.Kind.TheVariants.{Register, Port, Out}
use Rattle.cg_model.specs.declared.array.Resource.{Resource}
use Rattle.cg_model.specs.declared.array.Unit.{Unit as ArchUnit}
use Rattle.cg_model.specs.Array.{Arch, unit}
use Rattle.cg_model.specs.Kernel.{Kernel}
use Rattle.cg_parts.specs.declared.parts.Element.{Element}
use Rattle.cg_parts.specs.declared.entry.Entry.{Entry}
use Rattle.cg_parts.specs.Parts.{distinct, port_name, out_name}
use Rattle.cg_parts.specs.Numbers.{is_named}
use Rattle.cg_validate.specs.Flat.{arch_of, number_in, resource_of, units_from}
use Rattle.cg_place.specs.Placed.{offering}
use Rattle.cg_hub.specs.Hub.{HubEnough}
use Rattle.cg_trial.specs.Words.{generator}
use Rattle.cg_trial.specs.Drawn.{drawn_kernel, trial_kernel}
use Rattle.cg_trial.specs.Trial.{trial_arch, unit_names, out_names, register_name, register_names, unit_ops, register_part, unit_part, parts_with}
use Rattle.cg_trial.proofs.Scans.{map_map, map_map_itself}
use Rattle.cg_trial.proofs.Named.{distinct_registers, distinct_drivers}
use Rattle.cg_trial.proofs.Nodes.{AreNodes, all_nodes_are, all_nodes_length}
use Rattle.cg_trial.proofs.Served.{hub_enough}
use Rattle.cg_trial.proofs.Whole.{all_elements, register_entry, unit_entries, all_entries, entries_are, register_number, other_number}

-- ---- the flat architecture with n registers

abbrev pub all_drivers : ℕ → List ℕ
all_drivers n = 99 ∷ 103 ∷ 107 ∷ 111 ∷ range_with_len 0 n

abbrev pub flat_register : ℕ → ℕ → Resource
flat_register n k = record { name = register_name k; kind = Register; drivers = all_drivers n }

abbrev pub flat_port : ℕ → List ℕ → ℕ → Resource
flat_port n name p = record { name = port_name name p; kind = Port; drivers = range_with_len 0 n }

abbrev pub flat_unit : ℕ → List ℕ → List Resource
flat_unit n name = flat_port n name 0 ∷ flat_port n name 1 ∷ flat_port n name 2 ∷ record { name = out_name name; kind = Out; drivers = [] } ∷ []

abbrev pub flat_resources : ℕ → List Resource
flat_resources n = map (flat_register n) (range_with_len 0 n) ++ flat_map (flat_unit n) unit_names

abbrev pub unit_at : List ℕ → ℕ → ArchUnit
unit_at name first = record { name = name; ops = unit_ops; latency = 1; ports = range_with_len first 3; out = first + 3 }

abbrev pub flat_units : List ArchUnit
flat_units = unit_at (codes "u0") 96 ∷ unit_at (codes "u1") 100 ∷ unit_at (codes "u2") 104 ∷ unit_at (codes "u3") 108 ∷ []

abbrev pub flat_arch : ℕ → Arch
flat_arch n =
    record {
      name = codes "trial";
      contexts = 64;
      memory = 256;
      resources = flat_resources n;
      units = flat_units;
      hub = range_with_len 0 n;
    }

-- ---- the parts stand for it

-- registers are no units
units_from_range : (m first a n : ℕ) (ys : List Element) → units_from first (map (register_part m) (range_with_len a n) ++ ys) ≡ units_from (first + n) ys
units_from_range m first a zero ys = let s : first ≡ first + 0 = omega arith in ap (λ z. units_from z ys) s
units_from_range m first a (suc n) ys =
    units_from_range m (first + 1) (a + 1) n ys ∙ (let s : first + 1 + n ≡ first + suc n = omega arith in ap (λ z. units_from z ys) s)

module _ (n : ℕ) (is : 96 ≡ n) where
  small : n ≤ 1000
  small = omega arith

  number_is : (k : ℕ) → 0 ≤ k → k < 0 + n → number_in (all_entries n) (register_name k) ≡ k
  number_is k l u = ap (λ o. unwrap_or o 0) (register_number n k small (omega arith))

  registers_are : map (number_in (all_entries n)) (register_names n) ≡ range_with_len 0 n
  registers_are = map_map_itself (number_in (all_entries n)) register_name 0 n number_is

  out_is : (s : List ℕ) → number_in (all_entries n) (117 ∷ s) ≡ unwrap_or (position_from (is_named (117 ∷ s)) 96 (unit_entries n)) 0
  out_is s = ap (λ o. unwrap_or o 0) (other_number n s is)

  drivers_are : map (number_in (all_entries n)) (out_names ++ register_names n) ≡ all_drivers n
  drivers_are =
      ap₂ (λ x y. x ∷ y) (out_is (48 ∷ 95 ∷ 111 ∷ []))
      (ap₂ (λ x y. x ∷ y) (out_is (49 ∷ 95 ∷ 111 ∷ []))
      (ap₂ (λ x y. x ∷ y) (out_is (50 ∷ 95 ∷ 111 ∷ []))
      (ap₂ (λ x y. x ∷ y) (out_is (51 ∷ 95 ∷ 111 ∷ [])) registers_are)))

  register_is : (k : ℕ) → resource_of (all_entries n) (register_entry n k) ≡ flat_register n k
  register_is k =
      ap (λ ds. record { name = register_name k; kind = Register; drivers = ds })
      (ap (map (number_in (all_entries n))) (distinct_drivers n small) ∙ drivers_are)

  ports_are : map (number_in (all_entries n)) (distinct (register_names n)) ≡ range_with_len 0 n
  ports_are = ap (map (number_in (all_entries n))) (distinct_registers n small) ∙ registers_are

  -- the units' resources over any drivers of their ports
  over : List ℕ → List ℕ → List Resource
  over name ds =
      record { name = port_name name 0; kind = Port; drivers = ds }
      ∷ record { name = port_name name 1; kind = Port; drivers = ds }
      ∷ record { name = port_name name 2; kind = Port; drivers = ds }
      ∷ record { name = out_name name; kind = Out; drivers = [] }
      ∷ []

  units_are : map (resource_of (all_entries n)) (unit_entries n) ≡ flat_map (flat_unit n) unit_names
  unfolding over
  units_are = let T : List ℕ → List Resource = λ ds. flat_map (λ name. over name ds) unit_names in ap T ports_are

  resources_are : map (resource_of (all_entries n)) (all_entries n) ≡ flat_resources n
  resources_are =
      map-append (resource_of (all_entries n)) (map (register_entry n) (range_with_len 0 n)) (unit_entries n)
      ∙ ap₂ (λ x y. x ++ y) (map_map (resource_of (all_entries n)) (register_entry n) (flat_register n) 0 n register_is) units_are

  units_after : units_from 0 (all_elements n) ≡ flat_units
  units_after = let s : 0 + n ≡ 96 = omega arith in units_from_range n 0 0 n (map (unit_part n) unit_names) ∙ ap (λ m. units_from m (map (unit_part n) unit_names)) s

  pub arch_is : arch_of (parts_with n) ≡ flat_arch n
  unfolding arch_of parts_with
  arch_is =
      let built : List Entry → Arch = λ es. record {
        name = codes "trial";
        contexts = 64;
        memory = 256;
        resources = map (resource_of es) es;
        units = units_from 0 (all_elements n);
        hub = map (number_in es) (register_names n);
      } in
      let filled : List Resource → List ArchUnit → List ℕ → Arch = λ rs us h. record { name = codes "trial"; contexts = 64; memory = 256; resources = rs; units = us; hub = h } in
      ap built (entries_are n)
      ∙ ap (λ rs. filled rs (units_from 0 (all_elements n)) (map (number_in (all_entries n)) (register_names n))) resources_are
      ∙ ap₂ (λ us h. filled (flat_resources n) us h) units_after registers_are

-- ---- the hub suffices

latency_is : (n x : ℕ) → (unit (flat_arch n) x).latency ≡ 1
latency_is n zero = refl
latency_is n (suc zero) = refl
latency_is n (suc (suc zero)) = refl
latency_is n (suc (suc (suc zero))) = refl
latency_is n (suc (suc (suc (suc x)))) = refl

first_passes : (p : ℕ → Bool) (x : ℕ) (xs : List ℕ) → p x ≡ true → 0 < length (filter p (x ∷ xs))
first_passes p x xs e = subst (λ b. 0 < length (cond b (x ∷ filter p xs) (filter p xs))) (sym e) (omega arith)

offered : (n : ℕ) (op : Op) → among unit_ops op ≡ true → 0 < length (offering (flat_arch n) op)
offered n op e = first_passes (λ x. among (unit (flat_arch n) x).ops op) 0 (1 ∷ 2 ∷ 3 ∷ []) e

enough_with : (n : ℕ) (K : Kernel) → 96 ≡ n → AreNodes 0 K.nodes → length K.nodes ≡ 32 → HubEnough (flat_arch n) K 64
enough_with n K e are long = hub_enough (flat_arch n) K are long (length-range_with_len 0 n ∙ sym e) refl (latency_is n) (offered n)

pub trial_arch_is : trial_arch ≡ flat_arch 96
unfolding trial_arch
trial_arch_is = arch_is 96 refl

pub trial_enough : (seed : ℕ) → HubEnough trial_arch (trial_kernel seed) 64
unfolding trial_kernel
trial_enough seed =
    subst (λ A. HubEnough A (drawn_kernel (generator seed)) 64) (sym trial_arch_is) (enough_with 96 (drawn_kernel (generator seed)) refl (all_nodes_are (generator seed)) (all_nodes_length (generator seed)))
