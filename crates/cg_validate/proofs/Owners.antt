-- The ports and outs of units: which resources they are, and whose.
use Rattle.std.proofs.Common.{⊎_elim, ◌≡◌, ℕ, zero, suc, ◌+◌, ◌<◌, List, [], ◌∷◌, length, get_or, true, cond, eqb, Some, None, refl, ap, sym, ◌∙◌, arith, eqb-true}
use Rattle.std.specs.Prelude.{slice_get}
use Rattle.std.specs.List.{range_with_len}
use Rattle.std.proofs.lemmas.Option.{slice_get-get_or, slice_get_within, get_or_from_slice_get}
use Rattle.std.proofs.lemmas.List.FromFn.{length-range_with_len, get_or-range_with_len}
use Rattle.std.proofs.lemmas.Bool.{cases_lt, cases_Bool}
use Rattle.cg_word.specs.declared.op.Op.{Op}
use Rattle.cg_model.specs.declared.array.Kind.{Kind}
use Rattle.cg_model.specs.declared.array.Kind.TheVariants.{Wire, Register, Port, Out}
use Rattle.cg_model.specs.declared.array.Unit.{Unit}
use Rattle.cg_model.specs.Array.{resource, unit, port, owner, owner_from}
use Rattle.cg_parts.specs.declared.parts.Element.{Element}
use Rattle.cg_parts.specs.declared.parts.Element.TheVariants as element
use Rattle.cg_parts.specs.declared.parts.Parts.{Parts}
use Rattle.cg_parts.specs.declared.entry.Entry.{Entry}
use Rattle.cg_parts.specs.Parts.{entries, entries_of, out_entry}
use Rattle.cg_validate.specs.Flat.{resource_of, units_from}
use Rattle.cg_validate.proofs.Places.{start, same_place}
use Rattle.cg_validate.proofs.Units.{unit_at, units_before, unit_place, unit_get}
use Rattle.cg_validate.proofs.Roles.{port_entry, port_of_unit, out_of_unit, own_role, unit_role, IsPortOf, IsOutOf}
use Rattle.cg_validate.proofs.Resources.{built, resource_at, entry_at, shown_at, past}
use Rattle.std.proofs.lemmas.Bool.{eq-eqb}

-- ---- units by number

-- unit x is element i, whose resources begin with number `first`
pub record IsUnit (parts : Parts) (x : ℕ) : Type 0 where
  pub i : ℕ
  pub name : List ℕ
  pub ops : List Op
  pub latency : ℕ
  pub ports : List (List (List ℕ))
  pub at : slice_get parts.elements i ≡ Some (element.Unit name ops latency ports)
  pub number : x ≡ units_before parts.elements i
  pub is : unit (built parts) x ≡ unit_at (start entries_of parts.elements i) name ops latency ports

abbrev no_unit : Unit
no_unit = record { name = []; ops = []; latency = 1; ports = []; out = 0 }

pub unit_by : (parts : Parts) (x : ℕ) → x < length (built parts).units → IsUnit parts x
unit_by parts x h =
    let p = unit_place 0 parts.elements x (get_or (units_from 0 parts.elements) x no_unit) (slice_get-get_or (units_from 0 parts.elements) x no_unit h) in
    let first : 0 + start entries_of parts.elements p.i ≡ start entries_of parts.elements p.i = omega arith in
    record { i = p.i; name = p.name; ops = p.ops; latency = p.latency; ports = p.ports; at = p.at; number = p.number; is = p.is ∙ ap (λ f. unit_at f p.name p.ops p.latency p.ports) first }

-- the unit that an element is
pub unit_of : (parts : Parts) (i : ℕ) (name : List ℕ) (ops : List Op) (latency : ℕ) (ports : List (List (List ℕ))) → slice_get parts.elements i ≡ Some (element.Unit name ops latency ports)
    → (units_before parts.elements i < length (built parts).units) × (unit (built parts) (units_before parts.elements i) ≡ unit_at (start entries_of parts.elements i) name ops latency ports)
unit_of parts i name ops latency ports at =
    let got = unit_get 0 parts.elements i name ops latency ports at in
    let first : 0 + start entries_of parts.elements i ≡ start entries_of parts.elements i = omega arith in (
      slice_get_within (units_from 0 parts.elements) (units_before parts.elements i) _ got,
      get_or_from_slice_get (units_from 0 parts.elements) (units_before parts.elements i) _ no_unit got ∙ ap (λ f. unit_at f name ops latency ports) first,
    )

-- ---- ports

pub port_inside : (name : List ℕ) (ops : List Op) (latency : ℕ) (ports : List (List (List ℕ))) (p : ℕ) → p < length ports → p < length (entries_of (element.Unit name ops latency ports))
port_inside name ops latency ports p h = slice_get_within (entries_of (element.Unit name ops latency ports)) p _ (port_of_unit name ops latency ports p (get_or ports p []) (slice_get-get_or ports p [] h) h)

pub out_inside : (name : List ℕ) (ops : List Op) (latency : ℕ) (ports : List (List (List ℕ))) → length ports < length (entries_of (element.Unit name ops latency ports))
out_inside name ops latency ports = slice_get_within (entries_of (element.Unit name ops latency ports)) (length ports) _ (out_of_unit name ops latency ports)

-- port p of unit x is entry p of its element
pub record IsPort (parts : Parts) (x p : ℕ) : Type 0 where
  pub u : IsUnit parts x
  pub below : p < length u.ports
  pub number : port (built parts) x p ≡ start entries_of parts.elements u.i + p
  pub drivers : List (List ℕ)
  pub entry : slice_get (entries parts.elements) (port (built parts) x p) ≡ Some (port_entry u.name p drivers)
  pub shown : resource (built parts) (port (built parts) x p) ≡ resource_of (entries parts.elements) (port_entry u.name p drivers)

pub port_by : (parts : Parts) (x p : ℕ) → x < length (built parts).units → p < length (unit (built parts) x).ports → IsPort parts x p
port_by parts x p hx hp =
    let u = unit_by parts x hx in
    let first = start entries_of parts.elements u.i in
    let long : length (unit (built parts) x).ports ≡ length (range_with_len first (length u.ports)) = ap (λ w. length w.ports) u.is in
    let long' = length-range_with_len first (length u.ports) in
    let below : p < length u.ports = omega (arith, hp, long, long') in
    let number : port (built parts) x p ≡ first + p = ap (λ w. get_or w.ports p 0) u.is ∙ get_or-range_with_len first (length u.ports) p 0 below in
    let at = slice_get-get_or u.ports p [] below in
    let got = entry_at parts u.i p (element.Unit u.name u.ops u.latency u.ports) (port_entry u.name p (get_or u.ports p [])) u.at (port_of_unit u.name u.ops u.latency u.ports p (get_or u.ports p []) at below) in
    let entry = ap (slice_get (entries parts.elements)) number ∙ got in
    record { u = u; below = below; number = number; drivers = get_or u.ports p []; entry = entry; shown = shown_at parts (port (built parts) x p) _ entry }

pub own_ports : (parts : Parts) (x p y q : ℕ) → IsPort parts x p → IsPort parts y q → port (built parts) x p ≡ port (built parts) y q → (x ≡ y) × (p ≡ q)
own_ports parts x p y q a b e =
    let same = same_place entries_of parts.elements a.u.i b.u.i p q _ _ a.u.at b.u.at (port_inside a.u.name a.u.ops a.u.latency a.u.ports p a.below) (port_inside b.u.name b.u.ops b.u.latency b.u.ports q b.below) (sym a.number ∙ e ∙ b.number) in
    (a.u.number ∙ ap (units_before parts.elements) same.0 ∙ sym b.u.number, same.1)

-- ---- outs

-- the out of unit x is the last entry of its element
pub record IsOut (parts : Parts) (x : ℕ) : Type 0 where
  pub u : IsUnit parts x
  pub number : (unit (built parts) x).out ≡ start entries_of parts.elements u.i + length u.ports
  pub entry : slice_get (entries parts.elements) (unit (built parts) x).out ≡ Some (out_entry u.name)
  pub shown : resource (built parts) (unit (built parts) x).out ≡ resource_of (entries parts.elements) (out_entry u.name)

pub out_by : (parts : Parts) (x : ℕ) → x < length (built parts).units → IsOut parts x
out_by parts x hx =
    let u = unit_by parts x hx in
    let number : (unit (built parts) x).out ≡ start entries_of parts.elements u.i + length u.ports = ap (λ w. w.out) u.is in
    let got = entry_at parts u.i (length u.ports) (element.Unit u.name u.ops u.latency u.ports) (out_entry u.name) u.at (out_of_unit u.name u.ops u.latency u.ports) in
    let entry = ap (slice_get (entries parts.elements)) number ∙ got in
    record { u = u; number = number; entry = entry; shown = shown_at parts (unit (built parts) x).out _ entry }

pub own_outs : (parts : Parts) (x y : ℕ) → IsOut parts x → IsOut parts y → (unit (built parts) x).out ≡ (unit (built parts) y).out → x ≡ y
own_outs parts x y a b e =
    let same = same_place entries_of parts.elements a.u.i b.u.i (length a.u.ports) (length b.u.ports) _ _ a.u.at b.u.at (out_inside a.u.name a.u.ops a.u.latency a.u.ports) (out_inside b.u.name b.u.ops b.u.latency b.u.ports) (sym a.number ∙ e ∙ b.number) in
    a.u.number ∙ ap (units_before parts.elements) same.0 ∙ sym b.u.number

-- ---- whose a port or an out is

-- entry j of element i is a port
pub record IsPortAt (e : Element) (j : ℕ) (x : Entry) : Type 0 where
  pub name : List ℕ
  pub ops : List Op
  pub latency : ℕ
  pub ports : List (List (List ℕ))
  pub unit : e ≡ element.Unit name ops latency ports
  pub is : IsPortOf name ports j x

-- entry j of element i is an out
pub record IsOutAt (e : Element) (j : ℕ) (x : Entry) : Type 0 where
  pub name : List ℕ
  pub ops : List Op
  pub latency : ℕ
  pub ports : List (List (List ℕ))
  pub unit : e ≡ element.Unit name ops latency ports
  pub is : IsOutOf name ports j x

pub port_role : (e : Element) (j : ℕ) (x : Entry) → slice_get (entries_of e) j ≡ Some x → x.kind ≡ Port → IsPortAt e j x
port_role (element.Wire name drivers) j x at k = let bad : Wire ≡ Port = ap (λ r. r.kind) (sym (own_role Wire name drivers j x at).is) ∙ k in absurd (cc)
port_role (element.Register name drivers) j x at k = let bad : Register ≡ Port = ap (λ r. r.kind) (sym (own_role Register name drivers j x at).is) ∙ k in absurd (cc)
port_role (element.Unit name ops latency ports) j x at k =
    ⊎_elim
    (λ is. record { name = name; ops = ops; latency = latency; ports = ports; unit = refl; is = is })
    (λ is. let bad : Out ≡ Port = ap (λ r. r.kind) (sym is.is) ∙ k in absurd (cc))
    (unit_role name ops latency ports j x at)

pub out_role : (e : Element) (j : ℕ) (x : Entry) → slice_get (entries_of e) j ≡ Some x → x.kind ≡ Out → IsOutAt e j x
out_role (element.Wire name drivers) j x at k = let bad : Wire ≡ Out = ap (λ r. r.kind) (sym (own_role Wire name drivers j x at).is) ∙ k in absurd (cc)
out_role (element.Register name drivers) j x at k = let bad : Register ≡ Out = ap (λ r. r.kind) (sym (own_role Register name drivers j x at).is) ∙ k in absurd (cc)
out_role (element.Unit name ops latency ports) j x at k =
    ⊎_elim
    (λ is. let bad : Port ≡ Out = ap (λ r. r.kind) (sym is.is) ∙ k in absurd (cc))
    (λ is. record { name = name; ops = ops; latency = latency; ports = ports; unit = refl; is = is })
    (unit_role name ops latency ports j x at)

-- a resource that isn't a wire without name is one of the architecture's
pub not_past : (parts : Parts) (r : ℕ) (k : Kind) → (resource (built parts) r).kind ≡ k → (Wire ≡ k → ⊥) → r < length (built parts).resources
not_past parts r k e differs =
    ⊎_elim (λ h. h) (λ h. absurd (differs (ap (λ x. x.kind) (sym (past parts r h)) ∙ e))) (cases_lt r (length (built parts).resources))

pub port_owned : (parts : Parts) (r : ℕ) → (resource (built parts) r).kind ≡ Port
    → (x : ℕ) × (p : ℕ) × (x < length (built parts).units) × (p < length (unit (built parts) x).ports) × (port (built parts) x p ≡ r)
port_owned parts r k =
    let z = resource_at parts r (not_past parts r Port k (λ bad. cc)) in
    let role = port_role z.e z.j z.x z.within (ap (λ x. x.kind) (sym z.shown) ∙ k) in
    let u = unit_of parts z.i role.name role.ops role.latency role.ports (z.at ∙ ap Some role.unit) in
    let first = start entries_of parts.elements z.i in
    let inside = slice_get_within role.ports z.j role.is.drivers role.is.at in
    let long : length (unit (built parts) (units_before parts.elements z.i)).ports ≡ length (range_with_len first (length role.ports)) = ap (λ w. length w.ports) u.1 in
    let long' = length-range_with_len first (length role.ports) in
    (units_before parts.elements z.i, z.j, u.0, omega (arith, inside, long, long'), ap (λ w. get_or w.ports z.j 0) u.1 ∙ get_or-range_with_len first (length role.ports) z.j 0 inside ∙ sym z.is)

-- ---- the unit of an out

-- the first unit with that out is number x, where no other has it
first_owner : (r n x : ℕ) (us : List Unit) (k : ℕ) (u : Unit) → slice_get us k ≡ Some u → u.out ≡ r → ((m : ℕ) (w : Unit) → slice_get us m ≡ Some w → w.out ≡ r → m ≡ k) → n ≡ x + k → owner_from r us x ≡ n
first_owner r n x [] k u at is only h = let bad : None ≡ Some u = at in absurd (cc)
first_owner r n x (w ∷ ws) zero u at is only h =
    let same : w ≡ u = cc in
    let here : eqb w.out r ≡ true = ap (λ v. eqb v.out r) same ∙ ap (λ o. eqb o r) is ∙ eq-eqb r r refl in
    ap (λ b. cond b x (owner_from r ws (suc x))) here ∙ omega arith
first_owner r n x (w ∷ ws) (suc k) u at is only h =
    ⊎_elim
    (λ e. let bad : zero ≡ suc k = only zero w refl (eqb-true w.out r e) in absurd (omega arith))
    (λ e. ap (λ b. cond b x (owner_from r ws (suc x))) e ∙ first_owner r n (suc x) ws k u at is (λ m v at' is'. let later : suc m ≡ suc k = only (suc m) v at' is' in omega (arith, later)) (omega arith))
    (cases_Bool (eqb w.out r))

pub owner_of : (parts : Parts) (x : ℕ) → x < length (built parts).units → owner (built parts) (unit (built parts) x).out ≡ x
unfolding owner
owner_of parts x hx =
    first_owner (unit (built parts) x).out x 0 (units_from 0 parts.elements) x (unit (built parts) x) (slice_get-get_or (units_from 0 parts.elements) x no_unit hx) refl
    (λ m w at is.
    let hm = slice_get_within (units_from 0 parts.elements) m w at in
    own_outs parts m x (out_by parts m hm) (out_by parts x hx) (ap (λ v. v.out) (get_or_from_slice_get (units_from 0 parts.elements) m w no_unit at) ∙ is))
    (omega arith)

pub owned : (parts : Parts) (r : ℕ) → (resource (built parts) r).kind ≡ Out → (owner (built parts) r < length (built parts).units) × ((unit (built parts) (owner (built parts) r)).out ≡ r)
owned parts r k =
    let z = resource_at parts r (not_past parts r Out k (λ bad. cc)) in
    let role = out_role z.e z.j z.x z.within (ap (λ x. x.kind) (sym z.shown) ∙ k) in
    let u = unit_of parts z.i role.name role.ops role.latency role.ports (z.at ∙ ap Some role.unit) in
    let x = units_before parts.elements z.i in
    let out : (unit (built parts) x).out ≡ r = ap (λ w. w.out) u.1 ∙ ap (λ j. start entries_of parts.elements z.i + j) (sym role.is.last) ∙ sym z.is in
    let same : owner (built parts) r ≡ x = ap (owner (built parts)) (sym out) ∙ owner_of parts x u.0 in
    let below = u.0 in
    (omega (arith, same, below), ap (λ y. (unit (built parts) y).out) same ∙ out)

-- an out has no drivers
pub undriven : (parts : Parts) (r : ℕ) → (resource (built parts) r).kind ≡ Out → (resource (built parts) r).drivers ≡ []
undriven parts r k =
    let z = resource_at parts r (not_past parts r Out k (λ bad. cc)) in
    let role = out_role z.e z.j z.x z.within (ap (λ x. x.kind) (sym z.shown) ∙ k) in
    ap (λ x. x.drivers) z.shown ∙ ap (λ x. (resource_of (entries parts.elements) x).drivers) role.is.is
