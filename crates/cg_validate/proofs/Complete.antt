-- A hub without fault is complete.
use Rattle.std.proofs.Common.{⊎_elim, ◌≡◌, ℕ, zero, suc, ◌+◌, ◌<◌, List, [], ◌∷◌, ◌++◌, length, get_or, true, false, not, ◌||◌, eqb, bytes_eq, Option, Some, None, Contains, refl, ap, sym, subst, ◌∙◌, arith, eqb-true}
use Rattle.std.specs.Prelude.{slice_get, unwrap_or}
use Rattle.std.specs.Option.{option_map, option_map_or, option_or, is_none}
use Rattle.std.specs.List.{list_any}
use Rattle.std.proofs.lemmas.Option.{slice_get-get_or, slice_get_within, get_or_from_slice_get, slice_get-map}
use Rattle.std.proofs.lemmas.List.{get_or-map, length-map}
use Rattle.std.proofs.lemmas.Bool.{cases_lt, or_parts, not-false}
use Rattle.std.proofs.lemmas.Slice.Eq.{bytes_eq-Decides}
use Rattle.cg_model.specs.declared.array.Kind.{Kind}
use Rattle.cg_model.specs.declared.array.Kind.TheVariants.{Wire, Register, Port, Out}
use Rattle.cg_model.specs.Array.{Arch, HasHub, resource, unit, port, hub_register}
use Rattle.cg_model.proofs.Options.{cond_none, or_none, map_none}
use Rattle.cg_model.proofs.Elements.{any_false, any_true}
use Rattle.cg_model.proofs.Positions.{first_such_none}
use Rattle.cg_parts.specs.declared.parts.Parts.{Parts}
use Rattle.cg_parts.specs.declared.entry.Entry.{Entry}
use Rattle.cg_parts.specs.declared.fault.ArchFault.TheVariants as fault
use Rattle.cg_parts.specs.declared.fault.HubPlace.TheVariants as place
use Rattle.cg_parts.specs.Parts.{entries}
use Rattle.cg_parts.specs.Numbers.{number_of}
use Rattle.cg_validate.specs.Flat.{number_in}
use Rattle.cg_validate.specs.Hub.{is_register, is_register_at, names_register, first_bad_entry, first_not_driving, first_missing, missing, outs, all_ports, hub_fault}
use Rattle.cg_validate.proofs.Places.{start, get_left, get_right, get_at}
use Rattle.cg_validate.proofs.Resources.{built, IsNumbered, numbered, same_number, shown_at}

-- ---- entries

last : (before : List (List ℕ)) (name : List ℕ) → slice_get (before ++ name ∷ []) (length before) ≡ Some name
last before name = get_right before (name ∷ []) (length before) 0 (omega arith)

-- a good entry names a register
pub good_entry : (rs : List Entry) (before names : List (List ℕ)) (k : ℕ) (n : List ℕ) → first_bad_entry rs before names ≡ None → slice_get names k ≡ Some n → names_register rs n ≡ true
good_entry rs before [] k n none at = let bad : None ≡ Some n = at in absurd (cc)
good_entry rs before (c ∷ cs) zero n none at =
    let same : c ≡ n = cc in
    let here = cond_none (not (names_register rs c) || list_any (bytes_eq c) before) c (first_bad_entry rs (before ++ c ∷ []) cs) none in
    ap (names_register rs) (sym same) ∙ not-false (names_register rs c) (or_parts _ _ here.0).0
good_entry rs before (c ∷ cs) (suc k) n none at =
    let here = cond_none (not (names_register rs c) || list_any (bytes_eq c) before) c (first_bad_entry rs (before ++ c ∷ []) cs) none in
    good_entry rs (before ++ c ∷ []) cs k n here.1 at

-- and stands among none before it
not_before : (rs : List Entry) (before names : List (List ℕ)) (k m : ℕ) (n : List ℕ) → first_bad_entry rs before names ≡ None → slice_get names k ≡ Some n → slice_get before m ≡ Some n → ⊥
not_before rs before [] k m n none at there = let bad : None ≡ Some n = at in cc
not_before rs before (c ∷ cs) zero m n none at there =
    let same : c ≡ n = cc in
    let here = cond_none (not (names_register rs c) || list_any (bytes_eq c) before) c (first_bad_entry rs (before ++ c ∷ []) cs) none in
    let differs : bytes_eq c n ≡ false = any_false (bytes_eq c) before m n there (or_parts _ _ here.0).1 in
    let equal : bytes_eq c n ≡ true = (bytes_eq-Decides c n).1 same in
    let bad : true ≡ false = sym equal ∙ differs in
    cc
not_before rs before (c ∷ cs) (suc k) m n none at there =
    let here = cond_none (not (names_register rs c) || list_any (bytes_eq c) before) c (first_bad_entry rs (before ++ c ∷ []) cs) none in
    not_before rs (before ++ c ∷ []) cs k m n here.1 at (get_left before (c ∷ []) m (slice_get_within before m n there) ∙ there)

earlier : (rs : List Entry) (before names : List (List ℕ)) (j k : ℕ) (n : List ℕ) → first_bad_entry rs before names ≡ None → slice_get names j ≡ Some n → slice_get names k ≡ Some n → j < k → ⊥
earlier rs before [] j k n none at at' h = let bad : None ≡ Some n = at in cc
earlier rs before (c ∷ cs) j zero n none at at' h = omega arith
earlier rs before (c ∷ cs) zero (suc k) n none at at' h =
    let here = cond_none (not (names_register rs c) || list_any (bytes_eq c) before) c (first_bad_entry rs (before ++ c ∷ []) cs) none in
    not_before rs (before ++ c ∷ []) cs k (length before) n here.1 at' (last before c ∙ at)
earlier rs before (c ∷ cs) (suc j) (suc k) n none at at' h =
    let here = cond_none (not (names_register rs c) || list_any (bytes_eq c) before) c (first_bad_entry rs (before ++ c ∷ []) cs) none in
    earlier rs (before ++ c ∷ []) cs j k n here.1 at at' (omega arith)

pub entries_once : (rs : List Entry) (names : List (List ℕ)) (j k : ℕ) (n : List ℕ) → first_bad_entry rs [] names ≡ None → slice_get names j ≡ Some n → slice_get names k ≡ Some n → j ≡ k
entries_once rs names j k n none at at' =
    ⊎_elim (λ h. absurd (earlier rs [] names j k n none at at' h))
    (λ h. ⊎_elim (λ h'. absurd (earlier rs [] names k j n none at' at h')) (λ h'. omega (arith, h, h')) (cases_lt k j))
    (cases_lt j k)

-- ---- links

-- what no missing link says: each of the sources drives each of the targets
pub drives : (A : Arch) (sources targets : List ℕ) (k m q r : ℕ) → first_missing A sources targets ≡ None → slice_get targets k ≡ Some r → slice_get sources m ≡ Some q → Contains (resource A r).drivers q
drives A sources [] k m q r none at at' = let bad : None ≡ Some r = at in absurd (cc)
drives A sources (t ∷ ts) zero m q r none at at' =
    let here = or_none (option_map (λ s. missing A s t) (first_not_driving A sources t)) (first_missing A sources ts) none in
    let same : t ≡ r = cc in
    let free = first_such_none (λ s. not (list_any (eqb s) (resource A t).drivers)) sources m q (map_none (λ s. missing A s t) (first_not_driving A sources t) here.0) at' in
    let found = any_true (eqb q) (resource A t).drivers (not-false _ free) in
    let is : q ≡ found.1.0 = eqb-true q found.1.0 found.1.1.1 in
    let there : slice_get (resource A t).drivers found.0 ≡ Some q = found.1.1.0 ∙ ap Some (sym is) in
    subst (λ s. Contains (resource A s).drivers q) same (found.0, slice_get_within (resource A t).drivers found.0 q there, get_or_from_slice_get (resource A t).drivers found.0 q q there)
drives A sources (t ∷ ts) (suc k) m q r none at at' =
    drives A sources ts k m q r (or_none (option_map (λ s. missing A s t) (first_not_driving A sources t)) (first_missing A sources ts) none).1 at at'

-- ---- the hub of the flat architecture

registers_by : (o : Option ℕ) (rs : List Entry) → option_map_or (is_register_at rs) o false ≡ true → (q : ℕ) × ((o ≡ Some q) × (is_register_at rs q ≡ true))
registers_by None rs e = let bad : false ≡ true = e in absurd (cc)
registers_by (Some q) rs e = (q, (refl, e))

register_kind : (k : Kind) → is_register k ≡ true → k ≡ Register
register_kind Wire e = let bad : false ≡ true = e in cc
register_kind Register e = refl
register_kind Port e = let bad : false ≡ true = e in cc
register_kind Out e = let bad : false ≡ true = e in cc

-- entry k of the hub, and the register that it names
record IsEntry (parts : Parts) (k : ℕ) : Type 0 where
  name : List ℕ
  at : slice_get parts.hub k ≡ Some name
  number : hub_register (built parts) k ≡ number_in (entries parts.elements) name
  named : IsNumbered (entries parts.elements) name
  kind : (resource (built parts) (hub_register (built parts) k)).kind ≡ Register

named_register : (rs : List Entry) (name : List ℕ) → names_register rs name ≡ true → (named : IsNumbered rs name) × (named.y.kind ≡ Register)
named_register rs name e =
    let by = registers_by (number_of rs name) rs e in
    let known = numbered rs name (ap is_none by.1.0) in
    let same : number_in rs name ≡ by.0 = ap (λ o. unwrap_or o 0) by.1.0 in
    let kind : is_register known.y.kind ≡ true = ap (λ o. option_map_or (λ r. is_register r.kind) o false) (sym known.at) ∙ ap (is_register_at rs) same ∙ by.1.1 in
    (known, register_kind known.y.kind kind)

entry_at : (parts : Parts) (k : ℕ) → first_bad_entry (entries parts.elements) [] parts.hub ≡ None → k < length (built parts).hub → IsEntry parts k
entry_at parts k none h =
    let rs = entries parts.elements in
    let long = length-map parts.hub (number_in rs) in
    let h' : k < length parts.hub = omega (arith, h, long) in
    let name = get_or parts.hub k [] in
    let at = slice_get-get_or parts.hub k [] h' in
    let register = named_register rs name (good_entry rs [] parts.hub k name none at) in
    let number : hub_register (built parts) k ≡ number_in rs name = get_or-map (number_in rs) parts.hub k [] 0 h' in
    record {
      name = name;
      at = at;
      number = number;
      named = register.0;
      kind = ap (λ q. (resource (built parts) q).kind) number ∙ ap (λ x. x.kind) (shown_at parts (number_in rs name) register.0.y register.0.at) ∙ register.1;
    }

hub_get : (parts : Parts) (k : ℕ) → k < length (built parts).hub → slice_get (built parts).hub k ≡ Some (hub_register (built parts) k)
hub_get parts k h = slice_get-get_or (built parts).hub k 0 h

outs_get : (A : Arch) (x : ℕ) → x < length A.units → slice_get (outs A) x ≡ Some (unit A x).out
outs_get A x h = slice_get-map (λ u. u.out) A.units x ∙ ap (option_map (λ u. u.out)) (slice_get-get_or A.units x (record { name = []; ops = []; latency = 1; ports = []; out = 0 }) h)

ports_get : (A : Arch) (x p : ℕ) → x < length A.units → p < length (unit A x).ports → slice_get (all_ports A) (start (λ u. u.ports) A.units x + p) ≡ Some (port A x p)
ports_get A x p hx hp =
    get_at (λ u. u.ports) A.units x p (unit A x) (port A x p) (slice_get-get_or A.units x (record { name = []; ops = []; latency = 1; ports = []; out = 0 }) hx) (slice_get-get_or (unit A x).ports p 0 hp)

pub has_hub : (parts : Parts) → hub_fault parts (built parts) ≡ None → HasHub (built parts)
unfolding hub_fault
has_hub parts none =
    let A = built parts in
    let rs = entries parts.elements in
    let all = map_none fault.HubIncomplete _ none in
    let one = or_none (option_map place.Entry (first_bad_entry rs [] parts.hub)) (option_or (first_missing A (outs A ++ A.hub) A.hub) (first_missing A A.hub (all_ports A))) all in
    let two = or_none (first_missing A (outs A ++ A.hub) A.hub) (first_missing A A.hub (all_ports A)) one.1 in
    let entries_good = map_none place.Entry (first_bad_entry rs [] parts.hub) one.0 in
    record {
      registers = λ k h. (entry_at parts k entries_good h).kind;
      once = λ j k hj hk same.
          let a = entry_at parts j entries_good hj in
          let b = entry_at parts k entries_good hk in
          let names = same_number rs a.name b.name a.named b.named (sym a.number ∙ same ∙ b.number) in
          entries_once rs parts.hub j k a.name entries_good a.at (b.at ∙ ap Some (sym names));
      from_units = λ k x hk hx.
          let n = length-map A.units (λ u. u.out) in
          let inside : x < length (outs A) = omega (arith, hx, n) in
          drives A (outs A ++ A.hub) A.hub k x (unit A x).out (hub_register A k) two.0 (hub_get parts k hk) (get_left (outs A) A.hub x inside ∙ outs_get A x hx);
      from_hub = λ j k hj hk.
          drives A (outs A ++ A.hub) A.hub k (length (outs A) + j) (hub_register A j) (hub_register A k) two.0 (hub_get parts k hk) (get_right (outs A) A.hub (length (outs A) + j) j refl ∙ hub_get parts j hj);
      to_ports = λ k x p hk hx hp.
          drives A A.hub (all_ports A) (start (λ u. u.ports) A.units x + p) k (hub_register A k) (port A x p) two.1 (ports_get A x p hx hp) (hub_get parts k hk);
    }
