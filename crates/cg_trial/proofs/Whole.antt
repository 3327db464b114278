-- The flat architecture, as a whole.
use Rattle.std.proofs.Common.{◌≡◌, ℕ, ◌<◌, ◌≤◌, List, ◌∷◌, ◌++◌, Some, refl, arith}
use Rattle.std.specs.Prelude.{map, flat_map}
use Rattle.std.specs.List.{range_with_len, position_from}
use Rattle.cg_model.specs.declared.array.Kind.TheVariants.{Register}
use Rattle.cg_parts.specs.declared.parts.Element.{Element}
use Rattle.cg_parts.specs.declared.entry.Entry.{Entry}
use Rattle.cg_parts.specs.Parts.{entries_of, entries, distinct}
use Rattle.cg_parts.specs.Numbers.{number_of, is_named}
use Rattle.cg_trial.specs.Trial.{unit_names, out_names, register_name, register_names, register_part, unit_part}
use Rattle.cg_trial.proofs.Scans.{position_from_range, position_from_found, flat_map_range}
use Rattle.cg_trial.proofs.Named.{name_same, name_apart}

-- ---- the resources as they are written

abbrev pub all_elements : ℕ → List Element
all_elements n = map (register_part n) (range_with_len 0 n) ++ map (unit_part n) unit_names

abbrev pub register_entry : ℕ → ℕ → Entry
register_entry n k = record { name = Some (register_name k); kind = Register; drivers = distinct (out_names ++ register_names n) }

abbrev pub unit_entries : ℕ → List Entry
unit_entries n = flat_map entries_of (map (unit_part n) unit_names)

abbrev pub all_entries : ℕ → List Entry
all_entries n = map (register_entry n) (range_with_len 0 n) ++ unit_entries n

pub entries_are : (n : ℕ) → entries (all_elements n) ≡ all_entries n
unfolding entries
entries_are n = flat_map_range (register_part n) entries_of (register_entry n) 0 n (map (unit_part n) unit_names) (λ k. refl)

-- ---- their numbers

pub register_number : (n k : ℕ) → n ≤ 1000 → k < n → number_of (all_entries n) (register_name k) ≡ Some k
register_number n k s u =
    position_from_found (register_entry n) (is_named (register_name k)) 0 n k (unit_entries n) (omega arith) (omega arith)
    (λ j l v. name_apart j k (omega arith) (omega arith) (omega arith)) (name_same k)

-- that of a name with another first letter is among the units' resources
pub other_number : (n : ℕ) (s : List ℕ) → 96 ≡ n → number_of (all_entries n) (117 ∷ s) ≡ position_from (is_named (117 ∷ s)) 96 (unit_entries n)
other_number n s e = position_from_range (register_entry n) (is_named (117 ∷ s)) 0 n 96 (unit_entries n) (omega arith) (λ k l u. refl)
