-- The names of a flat architecture: each is the name that it should be, and no two are equal.
use Rattle.std.proofs.Common.{⊎_elim, ◌≡◌, ◌≢◌, ℕ, ◌+◌, ◌<◌, ◌≤◌, ◌⊎◌, List, [], ◌∷◌, ◌++◌, length, inl, inr, cond, true, false, not, ◌&&◌, nat_lt, Some, None, refl, ap, sym, subst, ◌∙◌, arith, length-append}
use Rattle.std.specs.Prelude.{slice_get, unwrap_or}
use Rattle.std.specs.List.{list_any}
use Rattle.std.proofs.lemmas.Option.{slice_get_within}
use Rattle.std.proofs.lemmas.Bool.Decides.{nat_tests}
use Rattle.std.proofs.lemmas.Bool.{or_parts, not-false, ltb-false}
use Rattle.cg_word.specs.declared.op.Op.{Op}
use Rattle.cg_word.specs.Word.{arity, all_ops}
use Rattle.cg_word.specs.Sets.{among}
use Rattle.cg_model.specs.Names.{IsName}
use Rattle.cg_model.specs.declared.array.Kind.TheVariants.{Wire, Register, Port, Out}
use Rattle.cg_model.specs.Array.{HasNames, resource, unit, port}
use Rattle.cg_model.proofs.Identifiers.{is_name-IsName}
use Rattle.cg_parts.specs.declared.parts.Element.{Element}
use Rattle.cg_parts.specs.declared.parts.Element.TheVariants as element
use Rattle.cg_parts.specs.declared.parts.Parts.{Parts}
use Rattle.cg_parts.specs.declared.entry.Entry.{Entry}
use Rattle.cg_parts.specs.Parts.{entries_of, out_entry, out_name, port_name, port_name_of, name_of}
use Rattle.cg_parts.specs.Numbers.{claimer_of}
use Rattle.cg_parts.specs.Rules.{is_bad_unit}
use Rattle.cg_validate.proofs.Places.{start}
use Rattle.cg_validate.proofs.Units.{units_before}
use Rattle.cg_validate.proofs.Roles.{port_entry, own_role, unit_role}
use Rattle.cg_validate.proofs.Clean.{IsClean, HaveGoodUnits}
use Rattle.cg_validate.proofs.Names.{own_claim, entry_claim, claimer, named_port}
use Rattle.cg_validate.proofs.Resources.{built, IsResource, resource_at}
use Rattle.cg_validate.proofs.Owners.{IsUnit, unit_by, IsPort, port_by, IsOut, out_by}

-- ---- what a unit without fault is

pub record IsGoodUnit (ops : List Op) (latency : ℕ) (ports : List (List (List ℕ))) : Type 0 where
  pub on_time : (0 < latency) × (latency ≤ 4)
  pub few : length ports ≤ 3
  pub some : list_any (among ops) all_ops ≡ true
  pub enough : list_any (λ op. among ops op && nat_lt (length ports) (arity op)) all_ops ≡ false

pub good_unit : (name : List ℕ) (ops : List Op) (latency : ℕ) (ports : List (List (List ℕ))) → is_bad_unit (element.Unit name ops latency ports) ≡ false → IsGoodUnit ops latency ports
good_unit name ops latency ports e =
    let one = or_parts (nat_lt latency 1) _ e in
    let two = or_parts (nat_lt 4 latency) _ one.1 in
    let three = or_parts (nat_lt 3 (length ports)) _ two.1 in
    let four = or_parts (not (list_any (among ops) all_ops)) _ three.1 in
    record {
      on_time = (ltb-false latency 1 one.0, ltb-false 4 latency two.0);
      few = ltb-false 3 (length ports) three.0;
      some = not-false _ four.0;
      enough = four.1;
    }

-- ---- names that are made of a unit's

-- the same bytes before one byte each
same_front : (a b : List ℕ) (c d : ℕ) → a ++ 95 ∷ c ∷ [] ≡ b ++ 95 ∷ d ∷ [] → length a ≡ length b → c ≡ d
same_front [] [] c d e h = let tails : 95 ∷ c ∷ [] ≡ 95 ∷ d ∷ [] = e in cc
same_front [] (y ∷ ys) c d e h = absurd (omega arith)
same_front (x ∷ xs) [] c d e h = absurd (omega arith)
same_front (x ∷ xs) (y ∷ ys) c d e h =
    let whole : x ∷ (xs ++ 95 ∷ c ∷ []) ≡ y ∷ (ys ++ 95 ∷ d ∷ []) = e in
    let rest : xs ++ 95 ∷ c ∷ [] ≡ ys ++ 95 ∷ d ∷ [] = cc in
    same_front xs ys c d rest (omega arith)

longer : (a : List ℕ) (c : ℕ) → a ++ 95 ∷ c ∷ [] ≡ a → ⊥
longer a c e = let long = length-append a (95 ∷ c ∷ []) in let same = ap length e in omega (arith, long, same)

-- ---- within an element

-- the name of a port is not that of the out
port_not_out : (unit : List ℕ) (p : ℕ) (n : List ℕ) → port_name_of unit p ≡ Some n → out_name unit ≡ n → ⊥
port_not_out unit p n e f =
    let port = named_port unit p n e in
    let same : 97 + p ≡ 111 = same_front unit unit (97 + p) 111 (port.1 ∙ sym f) refl in
    let h = port.0 in
    omega (arith, same, h)

same_port : (unit : List ℕ) (p q : ℕ) (n : List ℕ) → port_name_of unit p ≡ Some n → port_name_of unit q ≡ Some n → p ≡ q
same_port unit p q n e f =
    let same : 97 + p ≡ 97 + q = same_front unit unit (97 + p) (97 + q) ((named_port unit p n e).1 ∙ sym (named_port unit q n f).1) refl in
    omega (arith, same)

out_named : (unit n : List ℕ) (x : Entry) → x ≡ out_entry unit → x.name ≡ Some n → out_name unit ≡ n
out_named unit n x is named = let e : Some (out_name unit) ≡ Some n = sym (ap (λ r. r.name) is) ∙ named in cc

port_named : (unit n : List ℕ) (j : ℕ) (d : List (List ℕ)) (x : Entry) → x ≡ port_entry unit j d → x.name ≡ Some n → port_name_of unit j ≡ Some n
port_named unit n j d x is named = sym (ap (λ r. r.name) is) ∙ named

pub entry_apart : (e : Element) (j k : ℕ) (x y : Entry) (n : List ℕ) → slice_get (entries_of e) j ≡ Some x → slice_get (entries_of e) k ≡ Some y → x.name ≡ Some n → y.name ≡ Some n → j ≡ k
entry_apart (element.Wire name drivers) j k x y n at at' named named' = (own_role _ name drivers j x at).first ∙ sym (own_role _ name drivers k y at').first
entry_apart (element.Register name drivers) j k x y n at at' named named' = (own_role _ name drivers j x at).first ∙ sym (own_role _ name drivers k y at').first
entry_apart (element.Unit name ops latency ports) j k x y n at at' named named' =
    ⊎_elim
    (λ a. ⊎_elim
    (λ b. same_port name j k n (port_named name n j a.drivers x a.is named) (port_named name n k b.drivers y b.is named'))
    (λ b. absurd (port_not_out name j n (port_named name n j a.drivers x a.is named) (out_named name n y b.is named')))
    (unit_role name ops latency ports k y at'))
    (λ a. ⊎_elim
    (λ b. absurd (port_not_out name k n (port_named name n k b.drivers y b.is named') (out_named name n x a.is named)))
    (λ b. a.last ∙ sym b.last)
    (unit_role name ops latency ports k y at'))
    (unit_role name ops latency ports j x at)

-- a unit's own name is that of none of its resources
pub unit_apart : (name : List ℕ) (ops : List Op) (latency : ℕ) (ports : List (List (List ℕ))) (j : ℕ) (x : Entry) → slice_get (entries_of (element.Unit name ops latency ports)) j ≡ Some x → x.name ≡ Some name → ⊥
unit_apart name ops latency ports j x at named =
    ⊎_elim
    (λ a. longer name (97 + j) (named_port name j name (port_named name name j a.drivers x a.is named)).1)
    (λ a. longer name 111 (out_named name name x a.is named))
    (unit_role name ops latency ports j x at)

-- ---- each resource has a name

third_of : (p n : ℕ) → p < n → n ≤ 3 → nat_lt p 3 ≡ true
third_of p n h few = grind (arith, nat_tests)

some_name : (name : List ℕ) (x : Entry) → x.name ≡ Some name → x.name ≡ Some (unwrap_or x.name [])
some_name name x e = e ∙ ap (λ o. Some (unwrap_or o [])) (sym e)

pub entry_named : (e : Element) (j : ℕ) (x : Entry) → is_bad_unit e ≡ false → slice_get (entries_of e) j ≡ Some x → x.name ≡ Some (unwrap_or x.name [])
entry_named (element.Wire name drivers) j x good at = some_name name x (ap (λ r. r.name) (own_role _ name drivers j x at).is)
entry_named (element.Register name drivers) j x good at = some_name name x (ap (λ r. r.name) (own_role _ name drivers j x at).is)
entry_named (element.Unit name ops latency ports) j x good at =
    ⊎_elim
    (λ a.
    let inside = slice_get_within ports j a.drivers a.at in
    let few = (good_unit name ops latency ports good).few in
    let third : nat_lt j 3 ≡ true = third_of j (length ports) inside few in
    some_name (port_name name j) x (ap (λ r. r.name) a.is ∙ ap (λ b. cond b (Some (port_name name j)) None) third))
    (λ a. some_name (out_name name) x (ap (λ r. r.name) a.is))
    (unit_role name ops latency ports j x at)

-- the names of wires and registers are those of their elements
pub own_name : (e : Element) (j : ℕ) (x : Entry) → slice_get (entries_of e) j ≡ Some x → (x.kind ≡ Wire) ⊎ (x.kind ≡ Register) → x.name ≡ Some (name_of e)
own_name (element.Wire name drivers) j x at k = ap (λ r. r.name) (own_role _ name drivers j x at).is
own_name (element.Register name drivers) j x at k = ap (λ r. r.name) (own_role _ name drivers j x at).is
own_name (element.Unit name ops latency ports) j x at k =
    ⊎_elim
    (λ a. let kind : x.kind ≡ Port = ap (λ r. r.kind) a.is in absurd (⊎_elim (λ w. let bad : Port ≡ Wire = sym kind ∙ w in cc) (λ w. let bad : Port ≡ Register = sym kind ∙ w in cc) k))
    (λ a. let kind : x.kind ≡ Out = ap (λ r. r.kind) a.is in absurd (⊎_elim (λ w. let bad : Out ≡ Wire = sym kind ∙ w in cc) (λ w. let bad : Out ≡ Register = sym kind ∙ w in cc) k))
    (unit_role name ops latency ports j x at)

-- ---- names of the architecture

module _ (parts : Parts) (good : IsClean parts) (units : HaveGoodUnits parts) where
  pub named : (r : ℕ) (p : IsResource parts r) → p.x.name ≡ Some (resource (built parts) r).name
  named r p = entry_named p.e p.j p.x (units.good p.i p.e p.at) p.within ∙ ap Some (ap (λ x. x.name) (sym p.shown))

  claimed : (r : ℕ) (p : IsResource parts r) → claimer_of parts.elements (resource (built parts) r).name ≡ Some p.i
  claimed r p = claimer parts.elements p.i p.e (resource (built parts) r).name p.at (good.claims p.i p.e p.at) (entry_claim p.e p.j p.x (resource (built parts) r).name p.within (named r p))

  unit_claimed : (x : ℕ) (u : IsUnit parts x) → claimer_of parts.elements (unit (built parts) x).name ≡ Some u.i
  unit_claimed x u =
      ap (claimer_of parts.elements) (ap (λ w. w.name) u.is)
      ∙ claimer parts.elements u.i (element.Unit u.name u.ops u.latency u.ports) u.name u.at (good.claims u.i (element.Unit u.name u.ops u.latency u.ports) u.at) (own_claim (element.Unit u.name u.ops u.latency u.ports))

  same_element : (i k : ℕ) (e f : Element) → slice_get parts.elements i ≡ Some e → slice_get parts.elements k ≡ Some f → Some i ≡ Some k → (i ≡ k) × (e ≡ f)
  same_element i k e f at at' same =
      let numbers : i ≡ k = cc in
      let both : Some e ≡ Some f = sym at ∙ ap (slice_get parts.elements) numbers ∙ at' in
      (numbers, cc)

  pub resources_apart : (r s : ℕ) → r < length (built parts).resources → s < length (built parts).resources → (resource (built parts) r).name ≡ (resource (built parts) s).name → r ≡ s
  resources_apart r s hr hs e =
      let p = resource_at parts r hr in
      let q = resource_at parts s hs in
      let same = same_element p.i q.i p.e q.e p.at q.at (sym (claimed r p) ∙ ap (claimer_of parts.elements) e ∙ claimed s q) in
      let j = entry_apart p.e p.j q.j p.x q.x (resource (built parts) r).name p.within (ap (λ f. slice_get (entries_of f) q.j) same.1 ∙ q.within) (named r p) (named s q ∙ ap Some (sym e)) in
      p.is ∙ ap (λ i. start entries_of parts.elements i + p.j) same.0 ∙ ap (λ k. start entries_of parts.elements q.i + k) j ∙ sym q.is

  pub units_apart : (x y : ℕ) → x < length (built parts).units → y < length (built parts).units → (unit (built parts) x).name ≡ (unit (built parts) y).name → x ≡ y
  units_apart x y hx hy e =
      let u = unit_by parts x hx in
      let w = unit_by parts y hy in
      let same : Some u.i ≡ Some w.i = sym (unit_claimed x u) ∙ ap (claimer_of parts.elements) e ∙ unit_claimed y w in
      let numbers : u.i ≡ w.i = cc in
      u.number ∙ ap (units_before parts.elements) numbers ∙ sym w.number

  pub both_apart : (r x : ℕ) → r < length (built parts).resources → x < length (built parts).units → (resource (built parts) r).name ≢ (unit (built parts) x).name
  both_apart r x hr hx = λ e.
      let p = resource_at parts r hr in
      let u = unit_by parts x hx in
      let same = same_element p.i u.i p.e (element.Unit u.name u.ops u.latency u.ports) p.at u.at (sym (claimed r p) ∙ ap (claimer_of parts.elements) e ∙ unit_claimed x u) in
      unit_apart u.name u.ops u.latency u.ports p.j p.x (ap (λ f. slice_get (entries_of f) p.j) (sym same.1) ∙ p.within) (named r p ∙ ap Some (e ∙ ap (λ w. w.name) u.is))

  own_resource : (r : ℕ) (p : IsResource parts r) → (p.x.kind ≡ Wire) ⊎ (p.x.kind ≡ Register) → IsName 40 (resource (built parts) r).name
  own_resource r p k =
      let name : Some (name_of p.e) ≡ Some (resource (built parts) r).name = sym (own_name p.e p.j p.x p.within k) ∙ named r p in
      let same : name_of p.e ≡ (resource (built parts) r).name = cc in
      subst (IsName 40) same (is_name-IsName 40 (name_of p.e) (good.names p.i p.e p.at))

  pub port_shown : (x p : ℕ) → IsPort parts x p → (resource (built parts) (port (built parts) x p)).name ≡ (unit (built parts) x).name ++ 95 ∷ (97 + p) ∷ []
  port_shown x p q =
      let few = (good_unit q.u.name q.u.ops q.u.latency q.u.ports (units.good q.u.i (element.Unit q.u.name q.u.ops q.u.latency q.u.ports) q.u.at)).few in
      let below = q.below in
      let third : nat_lt p 3 ≡ true = third_of p (length q.u.ports) below few in
      ap (λ z. z.name) q.shown ∙ ap (λ b. unwrap_or (cond b (Some (port_name q.u.name p)) None) []) third ∙ ap (λ n. n ++ 95 ∷ (97 + p) ∷ []) (ap (λ w. w.name) (sym q.u.is))

  pub out_shown : (x : ℕ) → IsOut parts x → (resource (built parts) (unit (built parts) x).out).name ≡ (unit (built parts) x).name ++ 95 ∷ 111 ∷ []
  out_shown x q = ap (λ z. z.name) q.shown ∙ ap (λ n. n ++ 95 ∷ 111 ∷ []) (ap (λ w. w.name) (sym q.u.is))

  pub has_names : HasNames (built parts)
  has_names = record {
    own = is_name-IsName 40 parts.name good.own_name;
    units = λ x h. let u = unit_by parts x h in subst (IsName 40) (ap (λ w. w.name) (sym u.is)) (is_name-IsName 40 u.name (good.names u.i (element.Unit u.name u.ops u.latency u.ports) u.at));
    wires = λ r h k. let p = resource_at parts r h in own_resource r p (inl (ap (λ x. x.kind) (sym p.shown) ∙ k));
    registers = λ r h k. let p = resource_at parts r h in own_resource r p (inr (ap (λ x. x.kind) (sym p.shown) ∙ k));
    resources_apart = resources_apart;
    units_apart = units_apart;
    both_apart = both_apart;
    outs = λ x h. out_shown x (out_by parts x h);
    ports = λ x p hx hp. port_shown x p (port_by parts x p hx hp);
  }
