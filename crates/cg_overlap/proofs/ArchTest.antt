-- A test that shows an architecture valid, with a level for each resource.
use Rattle.std.proofs.Common.{◌≡◌, ℕ, ◌+◌, ◌<◌, ◌++◌, Bool, true, List, [], ◌∷◌, length, Contains, sym, ap, ◌∙◌, ⊎_elim, eqb-true, eq-eqb}
use Rattle.std.specs.Prelude.{◌&&◌, eqb, nat_lt, nat_le, not, bytes_eq, slice_index, slice_index_or}
use Rattle.std.proofs.lemmas.Bool.{and_parts, cases_lt, ltb-true, leb-true}
use Rattle.std.proofs.lemmas.List.{get_or_past, nil_from_length}
use Rattle.std.proofs.lemmas.List.Elements.{Contains-get_or}
use Rattle.std.proofs.lemmas.Slice.Eq.{bytes_eq-Decides}
use Rattle.cg_word.specs.Word.{arity}
use Rattle.cg_model.specs.declared.array.Kind.TheVariants.{Wire, Register, Port, Out}
use Rattle.cg_model.specs.Array.{Arch, IsArch, IsSmall, HasNames, HasHub, resource, unit, port, hub_register, owner, links, delay}
use Rattle.cg_model.specs.Canonical.{any_below}
use Rattle.cg_model.specs.Names.{is_name}
use Rattle.cg_model.proofs.Identifiers.{is_name-IsName}
use Rattle.cg_overlap.proofs.Wires.{driven_within, out_within}
use Rattle.cg_overlap.proofs.Tests.{all_true, part, every, every_it, has, has_it, all_below, all_below_it, any_below_it, given, given_it, fails_it, is_kind, kind_is}

abbrev each_resource : Arch → (ℕ → Bool) → Bool
each_resource A f = all_below f (length A.resources)

abbrev each_unit : Arch → (ℕ → Bool) → Bool
each_unit A f = all_below f (length A.units)

abbrev each_port : Arch → ℕ → (ℕ → Bool) → Bool
each_port A x f = all_below f (length (unit A x).ports)

abbrev each_hub : Arch → (ℕ → Bool) → Bool
each_hub A f = all_below f (length A.hub)

same_name : (a b : List ℕ) → bytes_eq a b ≡ true → a ≡ b
same_name a b h = (bytes_eq-Decides a b).0 h

port_within : (A : Arch) (r : ℕ) → (resource A r).kind ≡ Port → r < length A.resources
port_within A r e =
    ⊎_elim (λ l. l)
    (λ l. let f : resource A r ≡ record { name = []; kind = Wire; drivers = [] } = get_or_past A.resources r (record { name = []; kind = Wire; drivers = [] }) l in let g : Wire ≡ Port = sym (ap (λ z. z.kind) f) ∙ e in absurd (cc))
    (cases_lt r (length A.resources))

-- ---- limits

abbrev small_tests : Arch → List Bool
small_tests A =
    nat_le (length A.resources) 4096
    ∷ nat_le (links A.resources) 65536
    ∷ nat_le (length A.units) 1024
    ∷ nat_le A.memory 1048576
    ∷ nat_lt 0 A.contexts
    ∷ nat_le A.contexts 64
    ∷ []

small_by : (A : Arch) → all_true (small_tests A) ≡ true → IsSmall A
small_by A h =
    record {
      resources = leb-true _ _ (part _ 0 h);
      links = leb-true _ _ (part _ 1 h);
      units = leb-true _ _ (part _ 2 h);
      memory = leb-true _ _ (part _ 3 h);
      contexts = (ltb-true _ _ (part _ 4 h), leb-true _ _ (part _ 5 h));
    }

-- ---- names

abbrev name_tests : Arch → List Bool
name_tests A =
    is_name 40 A.name
    ∷ each_unit A (λ x. is_name 40 (unit A x).name)
    ∷ each_resource A (λ r. given (is_kind (resource A r).kind Wire) (is_name 40 (resource A r).name))
    ∷ each_resource A (λ r. given (is_kind (resource A r).kind Register) (is_name 40 (resource A r).name))
    ∷ each_resource A (λ r. each_resource A (λ s. given (bytes_eq (resource A r).name (resource A s).name) (eqb r s)))
    ∷ each_unit A (λ x. each_unit A (λ y. given (bytes_eq (unit A x).name (unit A y).name) (eqb x y)))
    ∷ each_resource A (λ r. each_unit A (λ x. not (bytes_eq (resource A r).name (unit A x).name)))
    ∷ each_unit A (λ x. bytes_eq (resource A (unit A x).out).name ((unit A x).name ++ 95 ∷ 111 ∷ []))
    ∷ each_unit A (λ x. each_port A x (λ p. bytes_eq (resource A (port A x p)).name ((unit A x).name ++ 95 ∷ (97 + p) ∷ [])))
    ∷ []

names_by : (A : Arch) → all_true (name_tests A) ≡ true → HasNames A
names_by A h =
    record {
      own = is_name-IsName _ _ (part _ 0 h);
      units = λ x l. is_name-IsName _ _ (all_below_it _ _ x (part _ 1 h) l);
      wires = λ r l e. is_name-IsName _ _ (given_it _ _ (all_below_it _ _ r (part _ 2 h) l) (ap (λ z. is_kind z Wire) e));
      registers = λ r l e. is_name-IsName _ _ (given_it _ _ (all_below_it _ _ r (part _ 3 h) l) (ap (λ z. is_kind z Register) e));
      resources_apart = λ r s lr ls e. eqb-true _ _ (given_it _ _ (all_below_it _ _ s (all_below_it _ _ r (part _ 4 h) lr) ls) ((bytes_eq-Decides _ _).1 e));
      units_apart = λ x y lx ly e. eqb-true _ _ (given_it _ _ (all_below_it _ _ y (all_below_it _ _ x (part _ 5 h) lx) ly) ((bytes_eq-Decides _ _).1 e));
      both_apart = λ r x lr lx e. fails_it _ (all_below_it _ _ x (all_below_it _ _ r (part _ 6 h) lr) lx) ((bytes_eq-Decides _ _).1 e);
      outs = λ x l. same_name _ _ (all_below_it _ _ x (part _ 7 h) l);
      ports = λ x p l m. same_name _ _ (all_below_it _ _ p (all_below_it _ _ x (part _ 8 h) l) m);
    }

-- ---- the hub

abbrev hub_tests : Arch → List Bool
hub_tests A =
    each_hub A (λ k. is_kind (resource A (hub_register A k)).kind Register)
    ∷ each_hub A (λ j. each_hub A (λ k. given (eqb (hub_register A j) (hub_register A k)) (eqb j k)))
    ∷ each_hub A (λ k. each_unit A (λ x. has (resource A (hub_register A k)).drivers (unit A x).out))
    ∷ each_hub A (λ j. each_hub A (λ k. has (resource A (hub_register A k)).drivers (hub_register A j)))
    ∷ each_hub A (λ k. each_unit A (λ x. each_port A x (λ p. has (resource A (port A x p)).drivers (hub_register A k))))
    ∷ []

hub_by : (A : Arch) → all_true (hub_tests A) ≡ true → HasHub A
hub_by A h =
    record {
      registers = λ k l. kind_is _ _ (all_below_it _ _ k (part _ 0 h) l);
      once = λ j k lj lk e. eqb-true _ _ (given_it _ _ (all_below_it _ _ k (all_below_it _ _ j (part _ 1 h) lj) lk) (eq-eqb _ _ e));
      from_units = λ k x l m. has_it _ _ (all_below_it _ _ x (all_below_it _ _ k (part _ 2 h) l) m);
      from_hub = λ j k lj lk. has_it _ _ (all_below_it _ _ k (all_below_it _ _ j (part _ 3 h) lj) lk);
      to_ports = λ k x p l m n. has_it _ _ (all_below_it _ _ p (all_below_it _ _ x (all_below_it _ _ k (part _ 4 h) l) m) n);
    }

-- ---- units and links

abbrev unit_tests : Arch → List Bool
unit_tests A =
    each_unit A (λ x. nat_lt 0 (unit A x).latency && nat_le (unit A x).latency 4)
    ∷ each_unit A (λ x. nat_lt 0 (length (unit A x).ops))
    ∷ each_unit A (λ x. nat_le (length (unit A x).ports) 3)
    ∷ each_unit A (λ x. every (λ op. nat_le (arity op) (length (unit A x).ports)) (unit A x).ops)
    ∷ each_unit A (λ x. each_port A x (λ p. is_kind (resource A (port A x p)).kind Port))
    ∷ each_unit A (λ x. each_unit A (λ y. each_port A x (λ p. each_port A y (λ q. given (eqb (port A x p) (port A y q)) (eqb x y && eqb p q)))))
    ∷ each_resource A (λ r. given (is_kind (resource A r).kind Port) (any_below (λ x. any_below (λ p. eqb (port A x p) r) (length (unit A x).ports)) (length A.units)))
    ∷ each_unit A (λ x. is_kind (resource A (unit A x).out).kind Out)
    ∷ each_unit A (λ x. eqb (owner A (unit A x).out) x)
    ∷ each_resource A (λ r. given (is_kind (resource A r).kind Out) (nat_lt (owner A r) (length A.units) && eqb (unit A (owner A r)).out r))
    ∷ []

abbrev link_tests : Arch → List ℕ → List Bool
link_tests A levels =
    each_resource A (λ r. every (λ q. nat_lt q (length A.resources)) (resource A r).drivers)
    ∷ each_resource A (λ r. every (λ q. not (is_kind (resource A q).kind Port)) (resource A r).drivers)
    ∷ each_resource A (λ r. all_below (λ j. all_below (λ k. given (eqb (slice_index_or (resource A r).drivers j 0) (slice_index_or (resource A r).drivers k 0)) (eqb j k)) (length (resource A r).drivers)) (length (resource A r).drivers))
    ∷ each_resource A (λ r. given (is_kind (resource A r).kind Out) (eqb (length (resource A r).drivers) 0))
    ∷ each_resource A (λ r. nat_lt (slice_index levels r) (length A.resources))
    ∷ each_resource A (λ r. every (λ q. given (eqb (delay A r) 0) (nat_lt (slice_index levels q) (slice_index levels r))) (resource A r).drivers)
    ∷ []

abbrev pub is_arch : Arch → List ℕ → Bool
is_arch A levels = all_true (all_true (small_tests A) ∷ all_true (name_tests A) ∷ all_true (hub_tests A) ∷ all_true (unit_tests A) ∷ all_true (link_tests A levels) ∷ [])

-- a port that passes is some unit's
port_of : (A : Arch) (r : ℕ) → any_below (λ x. any_below (λ p. eqb (port A x p) r) (length (unit A x).ports)) (length A.units) ≡ true →
    (x : ℕ) × (p : ℕ) × (x < length A.units) × (p < length (unit A x).ports) × (port A x p ≡ r)
port_of A r h =
    let (x, l, e) = any_below_it _ _ h in
    let (p, m, f) = any_below_it _ _ e in
    (x, p, l, m, eqb-true _ _ f)

-- a resource with drivers is in range
at_link : (A : Arch) (f : ℕ → Bool) (q r : ℕ) → each_resource A f ≡ true → Contains (resource A r).drivers q → f r ≡ true
at_link A f q r h m = all_below_it f _ r h (driven_within A q r m)

pub arch_by : (A : Arch) (levels : List ℕ) → is_arch A levels ≡ true → IsArch A
arch_by A levels all =
    let h = part _ 3 all in
    let g = part _ 4 all in
    record {
      small = small_by A (part _ 0 all);
      names = names_by A (part _ 1 all);
      hub = hub_by A (part _ 2 all);
      latencies = λ x l. let (a, b) = and_parts _ _ (all_below_it _ _ x (part _ 0 h) l) in (ltb-true _ _ a, leb-true _ _ b);
      some_op = λ x l. ltb-true _ _ (all_below_it _ _ x (part _ 1 h) l);
      few_ports = λ x l. leb-true _ _ (all_below_it _ _ x (part _ 2 h) l);
      enough_ports = λ x op l m. leb-true _ _ (every_it _ _ op (all_below_it _ _ x (part _ 3 h) l) m);
      ports_known = λ x p l m. port_within A _ (kind_is _ _ (all_below_it _ _ p (all_below_it _ _ x (part _ 4 h) l) m));
      ports = λ x p l m. kind_is _ _ (all_below_it _ _ p (all_below_it _ _ x (part _ 4 h) l) m);
      own_ports = λ x p y q lx ly lp lq e.
          let (a, b) = and_parts _ _ (given_it _ _ (all_below_it _ _ q (all_below_it _ _ p (all_below_it _ _ y (all_below_it _ _ x (part _ 5 h) lx) ly) lp) lq) (eq-eqb _ _ e)) in
          (eqb-true _ _ a, eqb-true _ _ b);
      port_owned = λ r e. port_of A r (given_it _ _ (all_below_it _ _ r (part _ 6 h) (port_within A r e)) (ap (λ z. is_kind z Port) e));
      outs = λ x l. kind_is _ _ (all_below_it _ _ x (part _ 7 h) l);
      owners = λ x l. eqb-true _ _ (all_below_it _ _ x (part _ 8 h) l);
      owned = λ r e.
          let (a, b) = and_parts _ _ (given_it _ _ (all_below_it _ _ r (part _ 9 h) (out_within A r e)) (ap (λ z. is_kind z Out) e)) in
          (ltb-true _ _ a, eqb-true _ _ b);
      known = λ q r m. ltb-true _ _ (every_it _ _ q (at_link A _ q r (part _ 0 g) m) m);
      from_no_port = λ q r m e. fails_it _ (every_it _ _ q (at_link A _ q r (part _ 1 g) m) m) (ap (λ z. is_kind z Port) e);
      once = λ r j k lj lk e. once r j k lj lk e g;
      undriven = λ r e. nil_from_length _ (eqb-true _ _ (given_it _ _ (all_below_it _ _ r (part _ 3 g) (out_within A r e)) (ap (λ z. is_kind z Out) e)));
      level = slice_index levels;
      levels = λ r l. ltb-true _ _ (all_below_it _ _ r (part _ 4 g) l);
      rising = λ q r m e. ltb-true _ _ (given_it _ _ (every_it _ _ q (at_link A _ q r (part _ 5 g) m) m) (eq-eqb _ _ e));
    }
  where
    once : (r j k : ℕ) → j < length (resource A r).drivers → k < length (resource A r).drivers → slice_index_or (resource A r).drivers j 0 ≡ slice_index_or (resource A r).drivers k 0 →
        all_true (link_tests A levels) ≡ true → j ≡ k
    once r j k lj lk e g =
        let there = all_below_it _ _ r (part _ 2 g) (driven_within A (slice_index_or (resource A r).drivers j 0) r (Contains-get_or (resource A r).drivers j 0 lj)) in
        eqb-true _ _ (given_it _ _ (all_below_it _ _ k (all_below_it _ _ j there lj) lk) (eq-eqb _ _ e))
