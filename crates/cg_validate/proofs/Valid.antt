-- The flat architecture of parts without faults is valid.
use Rattle.std.proofs.Common.{◌≡◌, ℕ, zero, suc, ◌-◌, ◌<◌, eqb, if◌then◌else◌, ◌≤◌, List, [], ◌∷◌, map, length, Bool, true, false, ◌&&◌, nat_lt, Some, None, Contains, refl, ap, sym, ◌∙◌, arith}
use Rattle.std.specs.Prelude.{slice_get}
use Rattle.std.specs.List.{list_any}
use Rattle.std.proofs.lemmas.Option.{slice_get-get_or}
use Rattle.std.proofs.lemmas.List.{length-map}
use Rattle.std.proofs.lemmas.List.FromFn.{length-range_with_len}
use Rattle.std.proofs.lemmas.Bool.{ltb-false, eq-eqb}
use Rattle.cg_word.specs.declared.op.Op.{Op}
use Rattle.cg_word.specs.declared.op.Op.TheVariants.{Const, Iter, Input, Add, Sub, Mul, And, Or, Xor, Shl, Shr, Sar, Eq, Ne, Lts, Ltu, Mins, Maxs, Select, Load, Store, Output, LoadIf, StoreIf, OutputIf}
use Rattle.cg_word.specs.Word.{arity, code, all_ops}
use Rattle.cg_word.specs.Sets.{among}
use Rattle.cg_model.specs.Array.{Arch, IsArch, IsSmall, resource, unit, delay}
use Rattle.cg_model.specs.Array as array
use Rattle.cg_model.proofs.Elements.{any_false}
use Rattle.cg_parts.specs.declared.parts.Element.TheVariants as element
use Rattle.cg_parts.specs.declared.parts.Parts.{Parts}
use Rattle.cg_parts.specs.declared.entry.Entry.{Entry}
use Rattle.cg_parts.specs.Parts.{entries}
use Rattle.cg_parts.specs.Rules as rules
use Rattle.cg_validate.specs.Flat.{number_in, resource_of, arch_of}
use Rattle.cg_validate.specs.Hub.{hub_fault}
use Rattle.cg_validate.proofs.Units.{length-units_from}
use Rattle.cg_validate.proofs.Clean.{IsClean, HaveGoodUnits, clean, good_units}
use Rattle.cg_validate.proofs.Resources.{built, size, within, known, from_no_port, once}
use Rattle.cg_validate.proofs.Owners.{IsUnit, unit_by, port_by, own_ports, port_owned, out_by, owner_of, owned, undriven}
use Rattle.cg_validate.proofs.Apart.{IsGoodUnit, good_unit, has_names}
use Rattle.cg_validate.proofs.Complete.{has_hub}

-- ---- how much there is

links_mapped : (rs xs : List Entry) → array.links (map (resource_of rs) xs) ≡ rules.links xs
unfolding array.links
links_mapped rs [] = refl
links_mapped rs (x ∷ xs) =
    let rest = links_mapped rs xs in
    let long = length-map x.drivers (number_in rs) in
    omega (arith, rest, long)

small : (parts : Parts) → IsClean parts → HaveGoodUnits parts → IsSmall (built parts)
small parts good own =
    let rs = entries parts.elements in
    let long = size parts in
    let links = links_mapped rs rs in
    let units = length-units_from 0 parts.elements in
    let few = good.resources in
    let few_links = good.links in
    let few_units = good.units in
    record {
      resources = omega (arith, long, few);
      links = omega (arith, links, few_links);
      units = omega (arith, units, few_units);
      memory = good.memory;
      contexts = own.contexts;
    }

-- ---- operations

all_get : (op : Op) → slice_get all_ops (code op - 1) ≡ Some op
all_get Const = refl
all_get Iter = refl
all_get Input = refl
all_get Add = refl
all_get Sub = refl
all_get Mul = refl
all_get And = refl
all_get Or = refl
all_get Xor = refl
all_get Shl = refl
all_get Shr = refl
all_get Sar = refl
all_get Eq = refl
all_get Ne = refl
all_get Lts = refl
all_get Ltu = refl
all_get Mins = refl
all_get Maxs = refl
all_get Select = refl
all_get Load = refl
all_get Store = refl
all_get Output = refl
all_get LoadIf = refl
all_get StoreIf = refl
all_get OutputIf = refl

among_by : (b : Bool) (c : Bool) → b ≡ true → (if b then true else c) ≡ true
among_by true c e = refl
among_by false c e = let bad : false ≡ true = e in cc

among_later : (b : Bool) (c : Bool) → c ≡ true → (if b then true else c) ≡ true
among_later true c e = refl
among_later false c e = e

among_get : (ops : List Op) (k : ℕ) (op : Op) → slice_get ops k ≡ Some op → among ops op ≡ true
among_get [] k op at = let bad : None ≡ Some op = at in absurd (cc)
among_get (o ∷ os) zero op at = let same : o ≡ op = cc in among_by (eqb (code o) (code op)) (among os op) (ap (λ x. eqb (code x) (code op)) same ∙ eq-eqb (code op) (code op) refl)
among_get (o ∷ os) (suc k) op at = among_later (eqb (code o) (code op)) (among os op) (among_get os k op at)

not_more : (a b : Bool) → (a && b) ≡ false → a ≡ true → b ≡ false
not_more true b e h = e
not_more false b e h = let bad : false ≡ true = h in cc

-- ---- units

some_length : (ops : List Op) → list_any (among ops) all_ops ≡ true → 0 < length ops
some_length [] e = let bad : false ≡ true = e in absurd (cc)
some_length (op ∷ ops) e = omega arith

module _ (parts : Parts) (own : HaveGoodUnits parts) where
  good_at : (x : ℕ) (u : IsUnit parts x) → IsGoodUnit u.ops u.latency u.ports
  good_at x u = good_unit u.name u.ops u.latency u.ports (own.good u.i (element.Unit u.name u.ops u.latency u.ports) u.at)

  ports_long : (x : ℕ) (u : IsUnit parts x) → length (unit (built parts) x).ports ≡ length u.ports
  ports_long x u = ap (λ w. length w.ports) u.is ∙ length-range_with_len _ (length u.ports)

  latencies : (x : ℕ) → x < length (built parts).units → (0 < (unit (built parts) x).latency) × ((unit (built parts) x).latency ≤ 4)
  latencies x h =
      let u = unit_by parts x h in
      let same : (unit (built parts) x).latency ≡ u.latency = ap (λ w. w.latency) u.is in
      let time = (good_at x u).on_time in
      let low = time.0 in let high = time.1 in
      (omega (arith, same, low), omega (arith, same, high))

  some_op : (x : ℕ) → x < length (built parts).units → 0 < length (unit (built parts) x).ops
  some_op x h =
      let u = unit_by parts x h in
      let same : length (unit (built parts) x).ops ≡ length u.ops = ap (λ w. length w.ops) u.is in
      let some = some_length u.ops (good_at x u).some in
      omega (arith, same, some)

  few_ports : (x : ℕ) → x < length (built parts).units → length (unit (built parts) x).ports ≤ 3
  few_ports x h = let u = unit_by parts x h in let long = ports_long x u in let few = (good_at x u).few in omega (arith, long, few)

  enough_ports : (x : ℕ) (op : Op) → x < length (built parts).units → Contains (unit (built parts) x).ops op → arity op ≤ length (unit (built parts) x).ports
  enough_ports x op h c =
      let u = unit_by parts x h in
      let long = ports_long x u in
      let ops : (unit (built parts) x).ops ≡ u.ops = ap (λ w. w.ops) u.is in
      let at : slice_get (unit (built parts) x).ops c.0 ≡ Some op = slice_get-get_or (unit (built parts) x).ops c.0 op c.1 ∙ ap Some c.2 in
      let here = among_get u.ops c.0 op (ap (λ os. slice_get os c.0) (sym ops) ∙ at) in
      let free = any_false (λ o. among u.ops o && nat_lt (length u.ports) (arity o)) all_ops (code op - 1) op (all_get op) (good_at x u).enough in
      let few = ltb-false (length u.ports) (arity op) (not_more (among u.ops op) (nat_lt (length u.ports) (arity op)) free here) in
      omega (arith, long, few)

-- the flat architecture is valid, where a level rises along each of its links of delay 0
pub valid : (parts : Parts) → rules.fault_before_loops parts ≡ None → rules.unit_or_contexts_fault parts ≡ None → hub_fault parts (arch_of parts) ≡ None
    → (level : ℕ → ℕ) → ((r : ℕ) → r < length (arch_of parts).resources → level r < length (arch_of parts).resources)
    → ((q r : ℕ) → Contains (resource (arch_of parts) r).drivers q → delay (arch_of parts) r ≡ 0 → level q < level r) → IsArch (arch_of parts)
unfolding arch_of
valid parts early late hub level levels rising =
    let good = clean parts early in
    let own = good_units parts late in
    record {
      small = small parts good own;
      names = has_names parts good own;
      hub = has_hub parts hub;
      latencies = latencies parts own;
      some_op = some_op parts own;
      few_ports = few_ports parts own;
      enough_ports = enough_ports parts own;
      ports_known = λ x p hx hp. let q = port_by parts x p hx hp in within parts _ _ q.entry;
      ports = λ x p hx hp. ap (λ z. z.kind) (port_by parts x p hx hp).shown;
      own_ports = λ x p y q hx hy hp hq same. own_ports parts x p y q (port_by parts x p hx hp) (port_by parts y q hy hq) same;
      port_owned = port_owned parts;
      outs = λ x h. ap (λ z. z.kind) (out_by parts x h).shown;
      owners = owner_of parts;
      owned = owned parts;
      known = known parts good;
      from_no_port = from_no_port parts good;
      once = once parts good;
      undriven = undriven parts;
      level = level;
      levels = levels;
      rising = rising;
    }
