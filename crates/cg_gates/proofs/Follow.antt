-- The netlist's words are the array's, cycle by cycle, and its run leaves the same.
use Rattle.std.proofs.Common.{◌≡◌, ℕ, zero, suc, ◌+◌, ◌-◌, ◌/◌, ◌%◌, ◌<◌, ◌≤◌, Bool, true, false, List, [], ◌∷◌, ◌++◌, length, map, Option, Some, None, refl, sym, ap, ap₂, ◌∙◌, subst, arith, add-one}
use Rattle.std.specs.Prelude.{Contains, bytes_eq, flat_map, slice_index_or, slice_get}
use Rattle.std.specs.Option.{option_map, option_map_or}
use Rattle.std.proofs.Math.Path.{fun_ext}
use Rattle.std.proofs.lemmas.Bool.{and_parts, eqb-true, eqb-false}
use Rattle.std.proofs.lemmas.List.{length-append}
use Rattle.std.proofs.lemmas.Option.{slice_get-map, slice_get_within, get_or_from_slice_get}
use Rattle.cg_model.specs.declared.array.Kind.{Kind}
use Rattle.cg_model.specs.declared.array.Kind.TheVariants.{Wire, Register, Port, Out}
use Rattle.cg_model.specs.declared.array.Resource.{Resource}
use Rattle.cg_model.specs.Work.{Image, Work, left}
use Rattle.cg_model.specs.Array.{Arch, IsArch, resource, unit, owner, delay_by}
use Rattle.cg_model.specs.Config.{Config, select, fields}
use Rattle.cg_model.specs.Machine.{Cycle, State, ago, driver, driven, by_kind, word_by as array_by, begun, result_of, memory_after, memory_by, sent_after, sent_by_units, missed_after, missed_by_units, cycles, words_in, works_in, at_cycle, word, machine, machine_left}
use Rattle.cg_model.proofs.Lookups.{Contains-get}
use Rattle.cg_netlist.specs.Netlist.{select_net, nets_of, netlist_of}
use Rattle.cg_netlist.proofs.Whole.{is_graph}
use Rattle.cg_gates.specs.Shape.{Shape, shapes, is_unit}
use Rattle.cg_gates.specs.Gates.{driving, unit_instance, is_instance, pins_named, GateCycle, GateState, gates_ago, word_on, way, picked, on_q, net_by, nets_in, gate_works, gates_at, net_word, gates, gates_left}
use Rattle.cg_gates.proofs.Finds.{same_text, text_same, find_only}
use Rattle.cg_gates.proofs.Early.{driving_only}
use Rattle.cg_gates.proofs.Cells.{word_at, choice_ins, unit_shape, word_by, word_shape, select_by, select_shape, is_undriven, unit_there, word_there, select_there, same_named}
use Rattle.cg_gates.proofs.Own.{early, resource_found, unit_found}

abbrev nowhere : Cycle
nowhere = record { words = λ r. 0; results = λ x. 0 }

abbrev no_gates : GateCycle
no_gates = record { nets = λ net. 0; results = λ x. 0 }

-- ---- choosing by a select

driver_none : (ds : List ℕ) (j : ℕ) → length ds ≡ 0 → driver ds j ≡ None
driver_none [] zero e = refl
driver_none [] (suc j) e = refl
driver_none (d ∷ ds) j e = absurd (omega arith)

way_is : (A : Arch) (ds : List ℕ) (j : ℕ) → way (map (word_at A) ds) j ≡ option_map (word_at A) (driver ds j)
way_is A ds zero = refl
way_is A ds (suc j) = slice_get-map (word_at A) ds j

same_on : (A : Arch) (words : List ℕ → ℕ) (then : ℕ → ℕ) (o : Option ℕ) → ((q : ℕ) → o ≡ Some q → words (word_at A q) ≡ then q) → word_on words (option_map (word_at A) o) ≡ driven then o
same_on A words then None h = refl
same_on A words then (Some q) h = h q refl

picks : (A : Arch) (words : List ℕ → ℕ) (then : ℕ → ℕ) (r : Resource) (j : ℕ) → words (select_net r) ≡ j → ((q : ℕ) → driver r.drivers j ≡ Some q → words (word_at A q) ≡ then q) → picked words (choice_ins A r) ≡ driven then (driver r.drivers j)
picks A words then r j e h = ap (λ z. word_on words (way (map (word_at A) r.drivers) z)) e ∙ ap (word_on words) (way_is A r.drivers j) ∙ same_on A words then (driver r.drivers j) h

Contains-driver : (ds : List ℕ) (j q : ℕ) → driver ds j ≡ Some q → Contains ds q
Contains-driver ds zero q e = absurd (cc)
Contains-driver ds (suc j) q e = Contains-get ds j q e

-- what was before the first cycle
nothing_driven : (o : Option ℕ) → driven (λ r. 0) o ≡ 0
nothing_driven None = refl
nothing_driven (Some q) = refl

-- ---- more nets than resources

some_nets : (r : Resource) → 0 < length (nets_of r)
some_nets r = omega arith

nets_enough : (rs : List Resource) → length rs ≤ length (flat_map nets_of rs)
nets_enough [] = omega arith
nets_enough (r ∷ rs) = omega (arith, some_nets r, nets_enough rs, length-append (nets_of r) (flat_map nets_of rs))

pub enough_nets : (A : Arch) → length A.resources ≤ length (netlist_of A).nets
unfolding netlist_of
enough_nets A = nets_enough A.resources

-- the two pasts agree, and so do the words that registers take over
record Agree (A : Arch) (C : Config) (c : ℕ) (p : List Cycle) (g : List GateCycle) : Type 0 where
  results : (k x : ℕ) → x < length A.units → (slice_index_or g k no_gates).results x ≡ (slice_index_or p k nowhere).results x
  taken : (r : ℕ) → r < length A.resources → (resource A r).kind ≡ Register → is_undriven A r ≡ false →
      picked (slice_index_or g 0 no_gates).nets (choice_ins A (resource A r)) ≡ driven (slice_index_or p 0 nowhere).words (driver (resource A r).drivers (select C r (c % C.ii)))

module _ (A : Arch) (is : IsArch A) where
  -- ---- which cells drive the nets

  pub word_driven : (r : ℕ) → r < length A.resources → driving (word_at A r) (shapes (netlist_of A)) ≡ Some (word_shape A r)
  word_driven r l =
      let (a, b) = word_there A is r l in
      driving_only (netlist_of A) (early A is) (is_graph A is) (word_shape A r) (word_at A r) a b

  select_q : (r : ℕ) (k : Kind) → (select_by A r k).q ≡ select_net (resource A r)
  select_q r Wire = refl
  select_q r Port = refl
  select_q r Register = refl
  select_q r Out = refl

  pub select_driven : (r : ℕ) → r < length A.resources → 0 < length (resource A r).drivers → driving (select_net (resource A r)) (shapes (netlist_of A)) ≡ Some (select_shape A r)
  select_driven r l some =
      driving_only (netlist_of A) (early A is) (is_graph A is) (select_shape A r) (select_net (resource A r)) (select_there A is r l some) (select_q r (resource A r).kind)

  pub pins_found : (x : ℕ) → x < length A.units → pins_named (unit_instance (unit A x).name) (shapes (netlist_of A)) ≡ map (word_at A) (unit A x).ports
  pins_found x l =
      let name = unit_instance (unit A x).name in
      ap (λ o. option_map_or (λ (c : Shape). c.ins) o [])
      (find_only (is_instance name) (shapes (netlist_of A)) (unit_shape A (unit A x)) (unit_there A is x l) (text_same name name refl)
      (λ c m e. same_named A is c (unit_shape A (unit A x)) m (unit_there A is x l) (same_text c.name name (and_parts (is_unit c.form) (bytes_eq c.name name) e).1)))

  some_drivers : (r : ℕ) → is_undriven A r ≡ false → 0 < length (resource A r).drivers
  some_drivers r e = let apart = eqb-false (length (resource A r).drivers) 0 e in omega arith

module _ (A : Arch) (C : Config) (is : IsArch A) where
  -- the select of a resource, this cycle's or for a register the next
  gives_now : (c : ℕ) (g : List GateCycle) (now : List ℕ → ℕ) (r : ℕ) (k : Kind) → r < length A.resources → delay_by k ≡ 0 → on_q A (netlist_of A) C c g now (Some (select_by A r k)) ≡ select C r (c % C.ii)
  gives_now c g now r Wire l z = ap (λ s. select C s (c % C.ii)) (resource_found A is r l)
  gives_now c g now r Port l z = ap (λ s. select C s (c % C.ii)) (resource_found A is r l)
  gives_now c g now r Out l z = ap (λ s. select C s (c % C.ii)) (resource_found A is r l)
  gives_now c g now r Register l z = absurd (omega arith)

  select_now : (c f : ℕ) (g : List GateCycle) (r : ℕ) → r < length A.resources → is_undriven A r ≡ false → delay_by (resource A r).kind ≡ 0 → net_by A (netlist_of A) C c g (suc f) (select_net (resource A r)) ≡ select C r (c % C.ii)
  unfolding net_by
  select_now c f g r l b z = ap (on_q A (netlist_of A) C c g (net_by A (netlist_of A) C c g f)) (select_driven A is r l (some_drivers A is r b)) ∙ gives_now c g (net_by A (netlist_of A) C c g f) r (resource A r).kind l z

  select_next : (c f : ℕ) (g : List GateCycle) (r : ℕ) → r < length A.resources → is_undriven A r ≡ false → (resource A r).kind ≡ Register → net_by A (netlist_of A) C c g (suc f) (select_net (resource A r)) ≡ select C r (suc c % C.ii)
  unfolding net_by
  select_next c f g r l b k =
      ap (on_q A (netlist_of A) C c g (net_by A (netlist_of A) C c g f)) (select_driven A is r l (some_drivers A is r b))
      ∙ ap (λ k. on_q A (netlist_of A) C c g (net_by A (netlist_of A) C c g f) (Some (select_by A r k))) k
      ∙ ap₂ (λ s t. select C s (t % C.ii)) (resource_found A is r l) (add-one c)

  -- one cell
  cell_gives : (c : ℕ) (p : List Cycle) (g : List GateCycle) (now : List ℕ → ℕ) (then : ℕ → ℕ) (r : ℕ) (k : Kind) (b : Bool) → Agree A C c p g → r < length A.resources →
      (resource A r).kind ≡ k → is_undriven A r ≡ b →
      (b ≡ false → delay_by k ≡ 0 → now (select_net (resource A r)) ≡ select C r (c % C.ii)) →
      ((q : ℕ) → Contains (resource A r).drivers q → delay_by k ≡ 0 → now (word_at A q) ≡ then q) →
      on_q A (netlist_of A) C c g now (Some (word_by A r k b)) ≡
      by_kind k (driven then (driver (resource A r).drivers (select C r (c % C.ii)))) (driven (ago p 1).words (driver (resource A r).drivers (select C r (c % C.ii)))) ((ago p (unit A (owner A r)).latency).results (owner A r))
  cell_gives c p g now then r Out b a l k e s h =
      let own = is.owned r k in
      ap (gates_ago g (unit A (owner A r)).latency).results (unit_found A is (owner A r) own.0) ∙ a.results ((unit A (owner A r)).latency - 1) (owner A r) own.0
  cell_gives c p g now then r Wire true a l k e s h = sym (ap (driven then) (driver_none (resource A r).drivers (select C r (c % C.ii)) (eqb-true (length (resource A r).drivers) 0 e)))
  cell_gives c p g now then r Port true a l k e s h = sym (ap (driven then) (driver_none (resource A r).drivers (select C r (c % C.ii)) (eqb-true (length (resource A r).drivers) 0 e)))
  cell_gives c p g now then r Register true a l k e s h = sym (ap (driven (ago p 1).words) (driver_none (resource A r).drivers (select C r (c % C.ii)) (eqb-true (length (resource A r).drivers) 0 e)))
  cell_gives c p g now then r Wire false a l k e s h = picks A now then (resource A r) (select C r (c % C.ii)) (s refl refl) (λ q o. h q (Contains-driver (resource A r).drivers (select C r (c % C.ii)) q o) refl)
  cell_gives c p g now then r Port false a l k e s h = picks A now then (resource A r) (select C r (c % C.ii)) (s refl refl) (λ q o. h q (Contains-driver (resource A r).drivers (select C r (c % C.ii)) q o) refl)
  cell_gives c p g now then r Register false a l k e s h = a.taken r l k e

  -- the words of one cycle, level by level
  words_agree : (c : ℕ) (p : List Cycle) (g : List GateCycle) → Agree A C c p g → (h f r : ℕ) → r < length A.resources → is.level r < h → is.level r + 1 < f →
      net_by A (netlist_of A) C c g f (word_at A r) ≡ array_by A C (c % C.ii) p h r
  unfolding net_by array_by
  words_agree c p g a zero f r l x y = absurd (omega arith)
  words_agree c p g a (suc h) zero r l x y = absurd (omega arith)
  words_agree c p g a (suc h) (suc zero) r l x y = absurd (omega arith)
  words_agree c p g a (suc h) (suc (suc f)) r l x y =
      ap (on_q A (netlist_of A) C c g (net_by A (netlist_of A) C c g (suc f))) (word_driven A is r l)
      ∙ cell_gives c p g (net_by A (netlist_of A) C c g (suc f)) (array_by A C (c % C.ii) p h) r (resource A r).kind (is_undriven A r) a l refl refl
      (λ b z. select_now c f g r l b z)
      (λ q m z. let up = is.rising q r m z in words_agree c p g a h (suc f) q (is.known q r m) (omega arith) (omega arith))

  words_all : (n : ℕ) (image : Image) (c : ℕ) (p : List Cycle) (g : List GateCycle) → Agree A C c p g → (r : ℕ) → r < length A.resources → nets_in A (netlist_of A) C c g (word_at A r) ≡ words_in A C n image c p r
  words_all n image c p g a r l = words_agree c p g a (length A.resources) (suc (length (netlist_of A).nets)) r l (is.levels r l) (omega (arith, is.levels r l, enough_nets A))

-- ---- what follows from the works alone

pub same_memory : (a b : ℕ → Option Work) (m : List ℕ) (x : ℕ) → ((y : ℕ) → y < x → a y ≡ b y) → memory_by a m x ≡ memory_by b m x
unfolding memory_by
same_memory a b m zero h = refl
same_memory a b m (suc x) h = ap₂ memory_after (same_memory a b m x (λ y l. h y (omega arith))) (h x (omega arith))

pub same_sent : (a b : ℕ → Option Work) (at x : ℕ) → ((y : ℕ) → y < x → a y ≡ b y) → sent_by_units a at x ≡ sent_by_units b at x
unfolding sent_by_units
same_sent a b at zero h = refl
same_sent a b at (suc x) h = ap₂ (λ s w. s ++ sent_after at w) (same_sent a b at x (λ y l. h y (omega arith))) (h x (omega arith))

pub same_missed : (a b : ℕ → Option Work) (size x : ℕ) → ((y : ℕ) → y < x → a y ≡ b y) → missed_by_units a size x ≡ missed_by_units b size x
unfolding missed_by_units
same_missed a b size zero h = refl
same_missed a b size (suc x) h = ap₂ (λ s w. s + missed_after size w) (same_missed a b size x (λ y l. h y (omega arith))) (h x (omega arith))

-- ---- cycle by cycle

record Level (A : Arch) (C : Config) (c : ℕ) (s : State) (t : GateState) : Type 0 where
  agree : Agree A C c s.past t.past
  memory : t.memory ≡ s.memory
  streams : (at : ℕ) → t.streams at ≡ s.streams at
  outside : t.outside ≡ s.outside

module _ (A : Arch) (C : Config) (n : ℕ) (image : Image) (is : IsArch A) where
  port_known : (x p q : ℕ) → x < length A.units → slice_get (unit A x).ports p ≡ Some q → q < length A.resources
  port_known x p q l e =
      subst (λ z. z < length A.resources) (get_or_from_slice_get (unit A x).ports p q 0 e) (is.ports_known x p l (slice_get_within (unit A x).ports p q e))

  works_agree : (c : ℕ) (p : List Cycle) (g : List GateCycle) → Agree A C c p g → (x : ℕ) → x < length A.units → gate_works A (netlist_of A) C n image c g x ≡ works_in A C n image c p x
  works_agree c p g a x l =
      ap (begun (fields C x (c % C.ii)) n (c / C.ii))
      (fun_ext
      (λ i.
      ap (λ pins. word_on (nets_in A (netlist_of A) C c g) (slice_get pins i)) (pins_found A is x l)
      ∙ ap (word_on (nets_in A (netlist_of A) C c g)) (slice_get-map (word_at A) (unit A x).ports i)
      ∙ same_on A (nets_in A (netlist_of A) C c g) (words_in A C n image c p) (slice_get (unit A x).ports i)
      (λ q e. words_all A C is n image c p g a q (port_known x i q l e))))

  results_later : (c : ℕ) (s : State) (t : GateState) → Level A C c s t → ((x : ℕ) → x < length A.units → gate_works A (netlist_of A) C n image c t.past x ≡ works_in A C n image c s.past x) →
      (k x : ℕ) → x < length A.units →
      (slice_index_or (record { nets = nets_in A (netlist_of A) C c t.past; results = λ x. result_of image t.memory (gate_works A (netlist_of A) C n image c t.past x) } ∷ t.past) k no_gates).results x ≡
      (slice_index_or (record { words = words_in A C n image c s.past; results = λ x. result_of image s.memory (works_in A C n image c s.past x) } ∷ s.past) k nowhere).results x
  results_later c s t before works zero x l = ap₂ (result_of image) before.memory (works x l)
  results_later c s t before works (suc k) x l = before.agree.results k x l

  level : (c : ℕ) → Level A C c (at_cycle A C n image c) (gates_at A (netlist_of A) C n image c)
  unfolding at_cycle gates_at
  level zero =
      record {
        agree = record { results = λ k x l. refl; taken = λ r l k b. sym (nothing_driven (driver (resource A r).drivers (select C r (0 % C.ii)))) };
        memory = refl;
        streams = λ at. refl;
        outside = refl;
      }
  level (suc c) =
      let before = level c in
      let s = at_cycle A C n image c in
      let t = gates_at A (netlist_of A) C n image c in
      let works = works_agree c s.past t.past before.agree in
      record {
        agree =
            record {
              results = results_later c s t before works;
              taken = λ r l k b.
                  picks A (nets_in A (netlist_of A) C c t.past) (words_in A C n image c s.past) (resource A r) (select C r (suc c % C.ii))
                  (select_next A C is c (length (netlist_of A).nets) t.past r l b k)
                  (λ q o. words_all A C is n image c s.past t.past before.agree q (is.known q r (Contains-driver (resource A r).drivers (select C r (suc c % C.ii)) q o)));
            };
        memory = same_memory (gate_works A (netlist_of A) C n image c t.past) (works_in A C n image c s.past) t.memory (length A.units) works ∙ ap (λ m. memory_by (works_in A C n image c s.past) m (length A.units)) before.memory;
        streams = λ at. ap₂ (λ x y. x ++ y) (before.streams at) (same_sent (gate_works A (netlist_of A) C n image c t.past) (works_in A C n image c s.past) at (length A.units) works);
        outside =
            ap₂ (λ x y. x + y) before.outside
            (same_missed (gate_works A (netlist_of A) C n image c t.past) (works_in A C n image c s.past) (length t.memory) (length A.units) works
            ∙ ap (λ m. missed_by_units (works_in A C n image c s.past) (length m) (length A.units)) before.memory);
      }

  pub words_follow : (r c : ℕ) → r < length A.resources → net_word A (netlist_of A) C n image (word_at A r) c ≡ word A C n image r c
  words_follow r c l = words_all A C is n image c (at_cycle A C n image c).past (gates_at A (netlist_of A) C n image c).past (level c).agree r l

  same_left : (m l : List ℕ) (x y : ℕ → List ℕ) (o u : ℕ) → m ≡ l → x ≡ y → o ≡ u → left m x o ≡ left l y u
  same_left m l x y o u a b c = ap (λ m. left m x o) a ∙ ap (λ x. left l x o) b ∙ ap (left l y) c

  pub leaves_alike : gates_left A (netlist_of A) C n image ≡ machine_left A C n image
  leaves_alike =
      let end = level (cycles C n) in
      let g = gates A (netlist_of A) C n image in
      let s = machine A C n image in
      same_left g.memory s.memory g.streams s.streams g.outside s.outside end.memory (fun_ext end.streams) end.outside
