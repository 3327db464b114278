-- The resources of the flat architecture of parts without faults, and their drivers.
use Rattle.std.proofs.Common.{⊎_elim, ◌≡◌, ◌≢◌, ℕ, ◌+◌, ◌<◌, ◌≤◌, List, [], map, flat_map, length, get_or, true, false, Option, Some, None, Contains, bytes_eq, refl, ap, sym, ◌∙◌, arith}
use Rattle.std.specs.Prelude.{slice_get}
use Rattle.std.specs.Option.{is_none, option_map_or}
use Rattle.std.proofs.lemmas.Option.{slice_get-get_or, slice_get_within, get_or_from_slice_get}
use Rattle.std.proofs.lemmas.List.{get_or-map, length-map, get_or_past, get_or_default}
use Rattle.std.proofs.lemmas.Bool.{cases_lt}
use Rattle.std.proofs.lemmas.Slice.Eq.{bytes_eq-Decides}
use Rattle.cg_model.specs.declared.array.Kind.TheVariants.{Wire, Port}
use Rattle.cg_model.specs.declared.array.Resource.{Resource}
use Rattle.cg_model.specs.Array.{Arch, resource}
use Rattle.cg_model.proofs.Options.{some_of}
use Rattle.cg_model.proofs.Positions.{position_from-found}
use Rattle.cg_parts.specs.declared.parts.Element.{Element}
use Rattle.cg_parts.specs.declared.parts.Element.TheVariants as element
use Rattle.cg_parts.specs.declared.parts.Parts.{Parts}
use Rattle.cg_parts.specs.declared.entry.Entry.{Entry}
use Rattle.cg_parts.specs.declared.drivers.DriverRule.TheVariants.{PortDrives}
use Rattle.cg_parts.specs.Parts.{entries, entries_of, drivers_of, distinct}
use Rattle.cg_parts.specs.Numbers.{number_of, is_named}
use Rattle.cg_parts.specs.Rules.{is_wrong, is_port, is_port_at}
use Rattle.cg_validate.specs.Flat.{number_in, resource_of, units_from}
use Rattle.cg_validate.proofs.Places.{start, place, get_at}
use Rattle.cg_validate.proofs.Roles.{own_role, unit_role}
use Rattle.cg_validate.proofs.Distinct.{distinct-of, distinct-once}
use Rattle.cg_validate.proofs.Clean.{IsClean}

-- the flat architecture, laid open
abbrev pub built : Parts → Arch
built parts = record {
  name = parts.name;
  contexts = parts.contexts;
  memory = parts.memory;
  resources = map (resource_of (entries parts.elements)) (entries parts.elements);
  units = units_from 0 parts.elements;
  hub = map (number_in (entries parts.elements)) parts.hub;
}

-- ---- resources by number

-- resource r is entry j of element i
pub record IsResource (parts : Parts) (r : ℕ) : Type 0 where
  pub i : ℕ
  pub j : ℕ
  pub e : Element
  pub x : Entry
  pub at : slice_get parts.elements i ≡ Some e
  pub within : slice_get (entries_of e) j ≡ Some x
  pub is : r ≡ start entries_of parts.elements i + j
  pub entry : slice_get (entries parts.elements) r ≡ Some x
  pub shown : resource (built parts) r ≡ resource_of (entries parts.elements) x

abbrev blank : Entry
blank = record { name = None; kind = Wire; drivers = [] }

abbrev no_resource : Resource
no_resource = record { name = []; kind = Wire; drivers = [] }

pub shown_at : (parts : Parts) (r : ℕ) (x : Entry) → slice_get (entries parts.elements) r ≡ Some x → resource (built parts) r ≡ resource_of (entries parts.elements) x
shown_at parts r x at =
    let rs = entries parts.elements in
    get_or-map (resource_of rs) rs r x no_resource (slice_get_within rs r x at) ∙ ap (resource_of rs) (get_or_from_slice_get rs r x x at)

pub resource_by : (parts : Parts) (r : ℕ) (x : Entry) → slice_get (entries parts.elements) r ≡ Some x → IsResource parts r
unfolding entries
resource_by parts r x at =
    let p = place entries_of parts.elements r x at in
    record { i = p.i; j = p.j; e = p.x; x = x; at = p.at; within = p.within; is = p.is; entry = at; shown = shown_at parts r x at }

pub size : (parts : Parts) → length (built parts).resources ≡ length (entries parts.elements)
size parts = length-map (entries parts.elements) (resource_of (entries parts.elements))

pub resource_at : (parts : Parts) (r : ℕ) → r < length (built parts).resources → IsResource parts r
resource_at parts r h =
    let long = size parts in
    resource_by parts r (get_or (entries parts.elements) r blank) (slice_get-get_or (entries parts.elements) r blank (omega (arith, long, h)))

pub entry_at : (parts : Parts) (i j : ℕ) (e : Element) (x : Entry) → slice_get parts.elements i ≡ Some e → slice_get (entries_of e) j ≡ Some x
    → slice_get (entries parts.elements) (start entries_of parts.elements i + j) ≡ Some x
unfolding entries
entry_at parts i j e x at within = get_at entries_of parts.elements i j e x at within

pub within : (parts : Parts) (r : ℕ) (x : Entry) → slice_get (entries parts.elements) r ≡ Some x → r < length (built parts).resources
within parts r x at = let h = slice_get_within (entries parts.elements) r x at in let long = size parts in omega (arith, h, long)

pub past : (parts : Parts) (r : ℕ) → length (built parts).resources ≤ r → resource (built parts) r ≡ no_resource
past parts r h = get_or_past (built parts).resources r no_resource h

-- ---- drivers

-- a driver of an entry stands in the element's lists
port_lists : (ports : List (List (List ℕ))) (j m : ℕ) (drivers : List (List ℕ)) (d : List ℕ) → slice_get ports j ≡ Some drivers → slice_get drivers m ≡ Some d
    → (n : ℕ) × (slice_get (flat_map (λ drivers. drivers) ports) n ≡ Some d)
port_lists ports j m drivers d at at' = (start (λ drivers. drivers) ports j + m, get_at (λ drivers. drivers) ports j m drivers d at at')

kept : (drivers : List (List ℕ)) (x : Entry) (k : ℕ) (d : List ℕ) → x.drivers ≡ distinct drivers → slice_get x.drivers k ≡ Some d → (m : ℕ) × (slice_get drivers m ≡ Some d)
kept drivers x k d is at = distinct-of drivers d k (ap (λ ds. slice_get ds k) (sym is) ∙ at)

pub entry_drivers : (e : Element) (j k : ℕ) (x : Entry) (d : List ℕ) → slice_get (entries_of e) j ≡ Some x → slice_get x.drivers k ≡ Some d → (m : ℕ) × (slice_get (drivers_of e) m ≡ Some d)
entry_drivers (element.Wire name drivers) j k x d at at' = kept drivers x k d (ap (λ r. r.drivers) (own_role _ name drivers j x at).is) at'
entry_drivers (element.Register name drivers) j k x d at at' = kept drivers x k d (ap (λ r. r.drivers) (own_role _ name drivers j x at).is) at'
entry_drivers (element.Unit name ops latency ports) j k x d at at' =
    ⊎_elim
    (λ is. let m = kept is.drivers x k d (ap (λ r. r.drivers) is.is) at' in port_lists ports j m.0 is.drivers d is.at m.1)
    (λ is. let bad : None ≡ Some d = ap (λ r. slice_get r.drivers k) (sym is.is) ∙ at' in absurd (cc))
    (unit_role name ops latency ports j x at)

once_as : (drivers : List (List ℕ)) (x : Entry) (j k : ℕ) (d : List ℕ) → x.drivers ≡ distinct drivers → slice_get x.drivers j ≡ Some d → slice_get x.drivers k ≡ Some d → j ≡ k
once_as drivers x j k d is at at' = distinct-once drivers j k d (ap (λ ds. slice_get ds j) (sym is) ∙ at) (ap (λ ds. slice_get ds k) (sym is) ∙ at')

-- no driver stands twice
pub drivers_once : (e : Element) (i j k : ℕ) (x : Entry) (d : List ℕ) → slice_get (entries_of e) i ≡ Some x → slice_get x.drivers j ≡ Some d → slice_get x.drivers k ≡ Some d → j ≡ k
drivers_once (element.Wire name drivers) i j k x d at at' at'' = once_as drivers x j k d (ap (λ r. r.drivers) (own_role _ name drivers i x at).is) at' at''
drivers_once (element.Register name drivers) i j k x d at at' at'' = once_as drivers x j k d (ap (λ r. r.drivers) (own_role _ name drivers i x at).is) at' at''
drivers_once (element.Unit name ops latency ports) i j k x d at at' at'' =
    ⊎_elim
    (λ is. once_as is.drivers x j k d (ap (λ r. r.drivers) is.is) at' at'')
    (λ is. let bad : None ≡ Some d = ap (λ r. slice_get r.drivers j) (sym is.is) ∙ at' in absurd (cc))
    (unit_role name ops latency ports i x at)

-- ---- the number of a name

-- the name is that of a resource, whose number it has
pub record IsNumbered (rs : List Entry) (d : List ℕ) : Type 0 where
  pub number : number_of rs d ≡ Some (number_in rs d)
  pub y : Entry
  pub at : slice_get rs (number_in rs d) ≡ Some y
  pub named : y.name ≡ Some d

named_by : (o : Option (List ℕ)) (d : List ℕ) → option_map_or (λ own. bytes_eq own d) o false ≡ true → o ≡ Some d
named_by None d e = let bad : false ≡ true = e in absurd (cc)
named_by (Some n) d e = ap Some ((bytes_eq-Decides n d).0 e)

pub numbered : (rs : List Entry) (d : List ℕ) → is_none (number_of rs d) ≡ false → IsNumbered rs d
numbered rs d some =
    let e = some_of (number_of rs d) 0 (number_in rs d) some refl in
    let found = position_from-found (is_named d) 0 rs (number_in rs d) e in
    let same : number_in rs d ≡ found.0 = let h = found.1.1.0 in omega (arith, h) in
    record {
      number = e;
      y = found.1.0;
      at = ap (slice_get rs) same ∙ found.1.1.1.0;
      named = named_by found.1.0.name d found.1.1.1.1;
    }

-- names of one number are the same
pub same_number : (rs : List Entry) (c d : List ℕ) → IsNumbered rs c → IsNumbered rs d → number_in rs c ≡ number_in rs d → c ≡ d
same_number rs c d p q e =
    let entries_same : Some p.y ≡ Some q.y = sym p.at ∙ ap (slice_get rs) e ∙ q.at in
    let same : p.y ≡ q.y = cc in
    let names : Some c ≡ Some d = sym p.named ∙ ap (λ r. r.name) same ∙ q.named in
    cc

-- the driver at place k of resource r
pub record IsDriver (parts : Parts) (r k q : ℕ) : Type 0 where
  pub p : IsResource parts r
  pub d : List ℕ
  pub at : slice_get p.x.drivers k ≡ Some d
  pub numbered : IsNumbered (entries parts.elements) d
  pub number : number_in (entries parts.elements) d ≡ q
  pub no_port : is_wrong PortDrives (entries parts.elements) d ≡ false

module _ (parts : Parts) (good : IsClean parts) where
  driver_by : (r k q : ℕ) (p : IsResource parts r) (d : List ℕ) → slice_get p.x.drivers k ≡ Some d → number_in (entries parts.elements) d ≡ q → IsDriver parts r k q
  driver_by r k q p d at number =
      let m = entry_drivers p.e p.j k p.x d p.within at in
      record {
        p = p;
        d = d;
        at = at;
        numbered = numbered (entries parts.elements) d (good.drivers p.i m.0 p.e d p.at m.1);
        number = number;
        no_port = good.no_ports p.i m.0 p.e d p.at m.1;
      }

  -- the names of a resource's drivers give their numbers
  pub drivers_shown : (r : ℕ) (p : IsResource parts r) → (resource (built parts) r).drivers ≡ map (number_in (entries parts.elements)) p.x.drivers
  drivers_shown r p = ap (λ x. x.drivers) p.shown

  in_range : (r k q : ℕ) → k < length (resource (built parts) r).drivers → r < length (built parts).resources
  in_range r k q h =
      ⊎_elim (λ inside. inside)
      (λ out. let none : length (resource (built parts) r).drivers ≡ 0 = ap (λ x. length x.drivers) (past parts r out) in absurd (omega (arith, none, h)))
      (cases_lt r (length (built parts).resources))

  pub driver_at : (r k q : ℕ) → k < length (resource (built parts) r).drivers → get_or (resource (built parts) r).drivers k q ≡ q → IsDriver parts r k q
  driver_at r k q h e =
      let p = resource_at parts r (in_range r k q h) in
      let shown = drivers_shown r p in
      let long = ap length shown in
      let long' = length-map p.x.drivers (number_in (entries parts.elements)) in
      let h' : k < length p.x.drivers = omega (arith, h, long, long') in
      let d = get_or p.x.drivers k [] in
      driver_by r k q p d (slice_get-get_or p.x.drivers k [] h') (sym (get_or-map (number_in (entries parts.elements)) p.x.drivers k [] q h') ∙ ap (λ ds. get_or ds k q) (sym shown) ∙ e)

  pub driver_of : (q r : ℕ) → Contains (resource (built parts) r).drivers q → (k : ℕ) × IsDriver parts r k q
  driver_of q r c = (c.0, driver_at r c.0 q c.1 c.2)

  -- a driver is a resource, and no port
  pub known : (q r : ℕ) → Contains (resource (built parts) r).drivers q → q < length (built parts).resources
  known q r c =
      let d = (driver_of q r c).1 in
      let h = within parts (number_in (entries parts.elements) d.d) d.numbered.y d.numbered.at in
      let same = d.number in
      omega (arith, h, same)

  no_port_kind : (o : Option ℕ) (q : ℕ) (y : Entry) → o ≡ Some q → slice_get (entries parts.elements) q ≡ Some y → option_map_or (is_port_at (entries parts.elements)) o false ≡ false → is_port y.kind ≡ false
  no_port_kind o q y e at none =
      ap (λ p. option_map_or (λ r. is_port r.kind) p false) (sym at) ∙ ap (λ p. option_map_or (is_port_at (entries parts.elements)) p false) (sym e) ∙ none

  pub from_no_port : (q r : ℕ) → Contains (resource (built parts) r).drivers q → (resource (built parts) q).kind ≢ Port
  from_no_port q r c = λ bad.
      let d = (driver_of q r c).1 in
      let rs = entries parts.elements in
      let free = no_port_kind (number_of rs d.d) (number_in rs d.d) d.numbered.y d.numbered.number d.numbered.at d.no_port in
      let kind : d.numbered.y.kind ≡ Port = ap (λ x. x.kind) (sym (shown_at parts (number_in rs d.d) d.numbered.y d.numbered.at)) ∙ ap (λ n. (resource (built parts) n).kind) d.number ∙ bad in
      let wrong : true ≡ false = ap is_port (sym kind) ∙ free in
      cc

  pub once : (r j k : ℕ) → j < length (resource (built parts) r).drivers → k < length (resource (built parts) r).drivers
      → get_or (resource (built parts) r).drivers j 0 ≡ get_or (resource (built parts) r).drivers k 0 → j ≡ k
  once r j k hj hk same =
      let ds = (resource (built parts) r).drivers in
      let q = get_or ds j 0 in
      let one = driver_at r j q hj (get_or_default ds j q 0 hj) in
      let two = driver_at r k q hk (get_or_default ds k q 0 hk ∙ sym same) in
      let entries_same : Some one.p.x ≡ Some two.p.x = sym one.p.entry ∙ two.p.entry in
      let same_entry : one.p.x ≡ two.p.x = cc in
      let same_name = same_number (entries parts.elements) one.d two.d one.numbered two.numbered (one.number ∙ sym two.number) in
      drivers_once one.p.e one.p.j j k one.p.x one.d one.p.within one.at (ap (λ x. slice_get x.drivers k) same_entry ∙ two.at ∙ ap Some (sym same_name))
