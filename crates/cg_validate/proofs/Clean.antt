-- Where no fault was found, none applies anywhere.
use Rattle.std.proofs.Common.{◌≡◌, ℕ, zero, suc, ◌+◌, ◌<◌, ◌≤◌, List, [], ◌∷◌, length, Some, None, Bool, true, false, not, ◌||◌, count_by, nat_lt, ap, ◌∙◌, arith}
use Rattle.std.specs.Prelude.{slice_get}
use Rattle.std.specs.Option.{option_map, option_or}
use Rattle.std.proofs.lemmas.Bool.{or_parts, not-false, ltb-false}
use Rattle.cg_model.specs.Names.{is_name}
use Rattle.cg_model.specs.First.{first_from, first_such}
use Rattle.cg_model.proofs.Options.{cond_none, or_none, map_none}
use Rattle.cg_model.proofs.Positions.{first_from_none, first_such_none}
use Rattle.cg_parts.specs.declared.parts.Element.{Element}
use Rattle.cg_parts.specs.declared.parts.Parts.{Parts}
use Rattle.cg_parts.specs.declared.entry.Entry.{Entry}
use Rattle.cg_parts.specs.declared.fault.ArchFault.TheVariants as fault
use Rattle.cg_parts.specs.declared.fault.NamePlace.TheVariants as place
use Rattle.cg_parts.specs.declared.fault.TooLargePlace.TheVariants as large
use Rattle.cg_parts.specs.declared.drivers.DriverRule.TheVariants.{UnknownDriver, PortDrives}
use Rattle.cg_parts.specs.Parts.{entries, name_of, drivers_of}
use Rattle.cg_parts.specs.Numbers.{claimer_of}
use Rattle.cg_parts.specs.Rules.{first_driver, links, is_unit, has_bad_name, repeats_by, is_wrong, is_bad_unit, too_large, bad_name, repeated_name, wrong_driver, fault_before_loops, bad_unit, bad_contexts, unit_or_contexts_fault}

-- ---- drivers

driver_none : (t : List ℕ → Bool) (v : ℕ) (es : List Element) (k m : ℕ) (e : Element) (d : List ℕ) → first_driver t v es ≡ None → slice_get es k ≡ Some e → slice_get (drivers_of e) m ≡ Some d → t d ≡ false
driver_none t v [] k m e d none at at' = let bad : None ≡ Some e = at in absurd (cc)
driver_none t v (c ∷ cs) zero m e d none at at' =
    let same : c ≡ e = cc in
    let here = or_none (option_map (λ name. record { element = v; name = name }) (first_such t (drivers_of c))) (first_driver t (v + 1) cs) none in
    first_such_none t (drivers_of c) m d (map_none (λ name. record { element = v; name = name }) (first_such t (drivers_of c)) here.0) (ap (λ x. slice_get (drivers_of x) m) same ∙ at')
driver_none t v (c ∷ cs) (suc k) m e d none at at' =
    let here = or_none (option_map (λ name. record { element = v; name = name }) (first_such t (drivers_of c))) (first_driver t (v + 1) cs) none in
    driver_none t (v + 1) cs k m e d here.1 at at'

-- ---- the faults

-- none of A1 to A5 applies
pub record IsClean (parts : Parts) : Type 0 where
  pub resources : length (entries parts.elements) ≤ 4096
  pub links : links (entries parts.elements) ≤ 65536
  pub units : count_by is_unit parts.elements ≤ 1024
  pub memory : parts.memory ≤ 1048576
  pub own_name : is_name 40 parts.name ≡ true
  pub names : (v : ℕ) (e : Element) → slice_get parts.elements v ≡ Some e → is_name 40 (name_of e) ≡ true
  pub claims : (v : ℕ) (e : Element) → slice_get parts.elements v ≡ Some e → repeats_by (claimer_of parts.elements) v e ≡ false
  pub drivers : (v m : ℕ) (e : Element) (d : List ℕ) → slice_get parts.elements v ≡ Some e → slice_get (drivers_of e) m ≡ Some d → is_wrong UnknownDriver (entries parts.elements) d ≡ false
  pub no_ports : (v m : ℕ) (e : Element) (d : List ℕ) → slice_get parts.elements v ≡ Some e → slice_get (drivers_of e) m ≡ Some d → is_wrong PortDrives (entries parts.elements) d ≡ false

-- neither A7 nor A8 applies
pub record HaveGoodUnits (parts : Parts) : Type 0 where
  pub good : (v : ℕ) (e : Element) → slice_get parts.elements v ≡ Some e → is_bad_unit e ≡ false
  pub contexts : (0 < parts.contexts) × (parts.contexts ≤ 64)

record IsSmallParts (parts : Parts) (rs : List Entry) : Type 0 where
  resources : length rs ≤ 4096
  links : links rs ≤ 65536
  units : count_by is_unit parts.elements ≤ 1024
  memory : parts.memory ≤ 1048576

small : (parts : Parts) (rs : List Entry) → too_large parts rs ≡ None → IsSmallParts parts rs
small parts rs none =
    let one = cond_none (nat_lt 4096 (length rs)) large.Resources _ none in
    let two = cond_none (nat_lt 65536 (links rs)) large.Links _ one.1 in
    let three = cond_none (nat_lt 1024 (count_by is_unit parts.elements)) large.Units _ two.1 in
    let four = cond_none (nat_lt 1048576 parts.memory) large.Memory None three.1 in
    record {
      resources = ltb-false 4096 (length rs) one.0;
      links = ltb-false 65536 (links rs) two.0;
      units = ltb-false 1024 (count_by is_unit parts.elements) three.0;
      memory = ltb-false 1048576 parts.memory four.0;
    }

-- A2
record HaveNames (parts : Parts) : Type 0 where
  own : is_name 40 parts.name ≡ true
  names : (v : ℕ) (e : Element) → slice_get parts.elements v ≡ Some e → is_name 40 (name_of e) ≡ true

named : (parts : Parts) → bad_name parts ≡ None → HaveNames parts
named parts none =
    let parts_none = cond_none (not (is_name 40 parts.name)) place.Architecture (option_map place.Element (first_from (λ number e. has_bad_name e) 0 parts.elements)) none in
    record {
      own = not-false (is_name 40 parts.name) parts_none.0;
      names = λ v e at. not-false (is_name 40 (name_of e)) (first_from_none (λ number e. has_bad_name e) 0 parts.elements v v e (map_none place.Element _ parts_none.1) at (omega arith));
    }

pub clean : (parts : Parts) → fault_before_loops parts ≡ None → IsClean parts
unfolding fault_before_loops
clean parts early =
    let rs = entries parts.elements in
    let one = or_none (option_map fault.TooLarge (too_large parts rs)) (option_or (option_map fault.BadName (bad_name parts)) (option_or (option_map fault.RepeatedName (repeated_name parts.elements)) (wrong_driver parts.elements rs))) early in
    let two = or_none (option_map fault.BadName (bad_name parts)) (option_or (option_map fault.RepeatedName (repeated_name parts.elements)) (wrong_driver parts.elements rs)) one.1 in
    let three = or_none (option_map fault.RepeatedName (repeated_name parts.elements)) (wrong_driver parts.elements rs) two.1 in
    let four = or_none (option_map fault.UnknownDriver (first_driver (is_wrong UnknownDriver rs) 0 parts.elements)) (option_map fault.PortDrives (first_driver (is_wrong PortDrives rs) 0 parts.elements)) three.1 in
    let large = small parts rs (map_none fault.TooLarge (too_large parts rs) one.0) in
    let names = named parts (map_none fault.BadName (bad_name parts) two.0) in
    record {
      resources = large.resources;
      links = large.links;
      units = large.units;
      memory = large.memory;
      own_name = names.own;
      names = names.names;
      claims = λ v e at. first_from_none (repeats_by (claimer_of parts.elements)) 0 parts.elements v v e (map_none fault.RepeatedName (repeated_name parts.elements) three.0) at (omega arith);
      drivers = λ v m e d at at'. driver_none (is_wrong UnknownDriver rs) 0 parts.elements v m e d (map_none fault.UnknownDriver _ four.0) at at';
      no_ports = λ v m e d at at'. driver_none (is_wrong PortDrives rs) 0 parts.elements v m e d (map_none fault.PortDrives _ four.1) at at';
    }

pub good_units : (parts : Parts) → unit_or_contexts_fault parts ≡ None → HaveGoodUnits parts
unfolding unit_or_contexts_fault
good_units parts late =
    let five = or_none (bad_unit parts) (bad_contexts parts) late in
    let contexts = or_parts (nat_lt parts.contexts 1) (nat_lt 64 parts.contexts) (cond_none (nat_lt parts.contexts 1 || nat_lt 64 parts.contexts) (fault.BadContexts parts.contexts) None five.1).0 in
    record {
      good = λ v e at. first_from_none (λ number e. is_bad_unit e) 0 parts.elements v v e (map_none fault.BadUnit _ five.0) at (omega arith);
      contexts = (ltb-false parts.contexts 1 contexts.0, ltb-false 64 parts.contexts contexts.1);
    }
