-- What is computed cycle by cycle solves the equations of a netlist, and is their only solution.
use Rattle.std.proofs.Common.{◌≡◌, ℕ, zero, suc, ◌+◌, ◌-◌, ◌/◌, ◌%◌, ◌<◌, List, [], ◌∷◌, ◌++◌, length, Option, Some, None, refl, sym, ap, ap₂, ◌∙◌, subst, arith, ⊎_elim}
use Rattle.std.specs.Prelude.{Contains, find, slice_get, slice_index_or}
use Rattle.std.specs.Option.{option_map_or}
use Rattle.std.proofs.Math.Path.{fun_ext}
use Rattle.std.proofs.lemmas.Bool.{cases_lt}
use Rattle.std.proofs.lemmas.List.{get_or_past}
use Rattle.cg_model.specs.Work.{Image, Work}
use Rattle.cg_model.specs.Array.{Arch, unit}
use Rattle.cg_model.specs.Config.{Config, fields}
use Rattle.cg_model.specs.Machine.{begun, result_of, memory_by, missed_by_units}
use Rattle.cg_model.proofs.Lookups.{Contains-get}
use Rattle.cg_netlist.specs.declared.forms.Form.{Form}
use Rattle.cg_netlist.specs.declared.forms.Form.TheVariants.{Context as ContextForm, Preselect as PreselectForm, Mux as MuxForm, Register as RegisterForm, Zero as ZeroForm, FunctionalUnit as UnitForm}
use Rattle.cg_netlist.specs.declared.parts.Net.{Net}
use Rattle.cg_netlist.specs.Forms.{IsForm}
use Rattle.cg_netlist.specs.Netlist.{NetGraph}
use Rattle.cg_netlist.specs.Graph.{names, IsNetGraph}
use Rattle.cg_gates.specs.Shape.{Shape, shapes}
use Rattle.cg_gates.specs.Gates.{stem, unit_named, unit_instance, is_instance, pins_named, GateCycle, gates_ago, word_on, picked, by_form, on_q, nets_in, gates_at, net_word, gate_begins, gate_result}
use Rattle.cg_gates.specs.Accepts.{IsAccepted}
use Rattle.cg_gates.specs.Equations.{IsGateRun, GatesAgree}
use Rattle.cg_gates.proofs.Finds.{Contains-map, find_from}
use Rattle.cg_gates.proofs.Early.{driving_only, in_known, meant}
use Rattle.cg_gates.proofs.Follow.{same_memory, same_sent, same_missed}
use Rattle.cg_gates.proofs.Graph.{has_rank}
use Rattle.cg_gates.proofs.Late.{unit_known}
use Rattle.cg_gates.proofs.Unrolled.{picked_same, by_muxes, unrolled}

abbrev no_gates : GateCycle
no_gates = record { nets = λ net. 0; results = λ x. 0 }

-- a unit's latency is some
some_latency : (N : NetGraph) (graph : IsNetGraph N) (A : Arch) → IsAccepted A N → (x : Shape) (p l h : ℕ) → Contains (shapes N) x → x.form ≡ UnitForm p l h → 0 < l
some_latency N graph A ok x p l h m e = let valid : IsForm (UnitForm p l h) = subst IsForm e (meant N ok.early graph x m).valid in valid.1

picked_none : (ins : List (List ℕ)) → picked (λ net. 0) ins ≡ 0
picked_none [] = refl
picked_none (s ∷ ds) = refl

module _ (A : Arch) (N : NetGraph) (C : Config) (n : ℕ) (image : Image) (graph : IsNetGraph N) (ok : IsAccepted A N) where
  -- the cycles that are over
  past_at : (d c : ℕ) → slice_index_or (gates_at A N C n image (suc (d + c))).past d no_gates ≡ record { nets = λ net. net_word A N C n image net c; results = λ x. gate_result A N C n image x c }
  unfolding gates_at
  past_at zero c = let e : zero + c ≡ c = omega arith in rw e refl
  past_at (suc d) c = let e : suc d + c ≡ suc (d + c) = omega arith in rw e (past_at d c)

  length-past : (c : ℕ) → length (gates_at A N C n image c).past ≡ c
  unfolding gates_at
  length-past zero = refl
  length-past (suc c) = ap suc (length-past c)

  none_before : (c d : ℕ) → c < d → gates_ago (gates_at A N C n image c).past d ≡ no_gates
  none_before c d l = get_or_past (gates_at A N C n image c).past (d - 1) no_gates (omega (arith, length-past c))

  -- each cell gives its word
  gives : (x : Shape) (f : Form) (c : ℕ) (g : List GateCycle) → Contains (shapes N) x → x.form ≡ f → nets_in A N C c g x.q ≡ by_form A N C c g (nets_in A N C c g) x.name x.ins f
  gives x f c g m e =
      unrolled A N C graph ok.early ok.no_loop c g x.q
      ∙ ap (on_q A N C c g (nets_in A N C c g)) (driving_only N ok.early graph x x.q m refl)
      ∙ ap (by_form A N C c g (nets_in A N C c g) x.name x.ins) e

  register_next : (x : Shape) (k c : ℕ) → Contains (shapes N) x → x.form ≡ RegisterForm k → net_word A N C n image x.q (suc c) ≡ picked (λ net. net_word A N C n image net c) x.ins
  unfolding gates_at
  register_next x k c m e = gives x (RegisterForm k) (suc c) (gates_at A N C n image (suc c)).past m e

  register_first : (x : Shape) (k : ℕ) → Contains (shapes N) x → x.form ≡ RegisterForm k → net_word A N C n image x.q 0 ≡ 0
  unfolding gates_at
  register_first x k m e = gives x (RegisterForm k) 0 (gates_at A N C n image 0).past m e ∙ picked_none x.ins

  unit_by : (l : ℕ) (x : Shape) (p h c : ℕ) → 0 < l → Contains (shapes N) x → x.form ≡ UnitForm p l h → net_word A N C n image x.q (c + l) ≡ gate_result A N C n image (unit_named A (stem x.name)) c
  unit_by zero x p h c some m e = absurd (omega arith)
  unit_by (suc d) x p h c some m e =
      let z : c + suc d ≡ suc (d + c) = omega arith in
      let y : suc d - 1 ≡ d = omega arith in
      let past = (gates_at A N C n image (suc (d + c))).past in
      let one : net_word A N C n image x.q (suc (d + c)) ≡ (slice_index_or past (suc d - 1) no_gates).results (unit_named A (stem x.name)) = gives x (UnitForm p (suc d) h) (suc (d + c)) past m e in
      ap (net_word A N C n image x.q) z ∙ one ∙ ap (λ i. (slice_index_or past i no_gates).results (unit_named A (stem x.name))) y ∙ ap (λ (g : GateCycle). g.results (unit_named A (stem x.name))) (past_at d c)

  unit_first : (x : Shape) (p l h c : ℕ) → Contains (shapes N) x → x.form ≡ UnitForm p l h → c < l → net_word A N C n image x.q c ≡ 0
  unit_first x p l h c m e low =
      gives x (UnitForm p l h) c (gates_at A N C n image c).past m e ∙ ap (λ (g : GateCycle). g.results (unit_named A (stem x.name))) (none_before c l low)

  pub run : IsGateRun A N C n image (net_word A N C n image) (gate_begins A N C n image) (gate_result A N C n image) (λ c. (gates_at A N C n image c).memory) (λ port c. (gates_at A N C n image c).streams port)
      (λ c. (gates_at A N C n image c).outside)
  unfolding gates_at
  run =
      record {
        contexts = λ x w c m e. gives x (ContextForm w) c (gates_at A N C n image c).past m e;
        preselects = λ x w c m e. gives x (PreselectForm w) c (gates_at A N C n image c).past m e;
        muxes = λ x k c m e. gives x (MuxForm k) c (gates_at A N C n image c).past m e;
        registers = register_next;
        registers_first = register_first;
        zeros = λ x c m e. gives x ZeroForm c (gates_at A N C n image c).past m e;
        units = λ x p l h c m e. unit_by l x p h c (some_latency N graph A ok x p l h m e) m e;
        units_first = unit_first;
        begun_by = λ x c l. refl;
        results = λ x c l. refl;
        memory_first = refl;
        memory_next = λ c. refl;
        streams_first = λ port. refl;
        streams_next = λ port c. refl;
        outside_first = refl;
        outside_next = λ c. refl;
      }

-- ---- two solutions are one

-- they agree in a cycle
record Same (A : Arch) (N : NetGraph) (w v : List ℕ → ℕ → ℕ) (b d : ℕ → ℕ → Option Work) (r s : ℕ → ℕ → ℕ) (m l : ℕ → List ℕ) (c : ℕ) : Type 0 where
  words : (net : List ℕ) → Contains (names N.nets) net → w net c ≡ v net c
  begins : (x : ℕ) → x < length A.units → b x c ≡ d x c
  results : (x : ℕ) → x < length A.units → r x c ≡ s x c
  memory : m c ≡ l c

-- a pin that a unit has is on a declared net
pin_known : (N : NetGraph) (A : Arch) → IsNetGraph N → IsAccepted A N → (name : List ℕ) (p : ℕ) (net : List ℕ) → slice_get (pins_named name (shapes N)) p ≡ Some net → Contains (names N.nets) net
pin_known N A graph ok name p net = by (find (is_instance name) (shapes N)) refl
  where
    by : (o : Option Shape) → find (is_instance name) (shapes N) ≡ o → slice_get (option_map_or (λ (c : Shape). c.ins) o []) p ≡ Some net → Contains (names N.nets) net
    by None e at = let bad : None ≡ Some net = at in absurd (cc)
    by (Some c) e at = in_known N ok.early graph c net (find_from (is_instance name) (shapes N) c e).0 (Contains-get c.ins p net at)

word_same : (a b : List ℕ → ℕ) (o : Option (List ℕ)) → ((d : List ℕ) → o ≡ Some d → a d ≡ b d) → word_on a o ≡ word_on b o
word_same a b None h = refl
word_same a b (Some d) h = h d refl

module _ (A : Arch) (N : NetGraph) (C : Config) (n : ℕ) (image : Image) (graph : IsNetGraph N) (ok : IsAccepted A N) (w v : List ℕ → ℕ → ℕ) (b d : ℕ → ℕ → Option Work) (r s : ℕ → ℕ → ℕ) (m l : ℕ → List ℕ) (x y : ℕ → ℕ → List ℕ) (o u : ℕ → ℕ)
    (one : IsGateRun A N C n image w b r m x o) (two : IsGateRun A N C n image v d s l y u) where
  unit_same : (c : ℕ) → ((t : ℕ) → t < c → Same A N w v b d r s m l t) → (z : Shape) (p k h : ℕ) → Contains (shapes N) z → z.form ≡ UnitForm p k h → w z.q c ≡ v z.q c
  unit_same c before z p k h there e =
      let some = some_latency N graph A ok z p k h there e in
      let x : ℕ = unit_named A (stem z.name) in
      ⊎_elim
      (λ a. one.units_first z p k h c there e a ∙ sym (two.units_first z p k h c there e a))
      (λ a.
      let back : c - k + k ≡ c = omega arith in
      subst (λ t. w z.q t ≡ v z.q t) back
      (one.units z p k h (c - k) there e ∙ (before (c - k) (omega arith)).results x (unit_known A N ok.late z p k h there e).within ∙ sym (two.units z p k h (c - k) there e)))
      (cases_lt c k)

  register_same : (c : ℕ) → ((t : ℕ) → t < c → Same A N w v b d r s m l t) → (z : Shape) (k : ℕ) → Contains (shapes N) z → z.form ≡ RegisterForm k → w z.q c ≡ v z.q c
  register_same zero before z k there e = one.registers_first z k there e ∙ sym (two.registers_first z k there e)
  register_same (suc c) before z k there e =
      one.registers z k c there e
      ∙ picked_same (λ net. w net c) (λ net. v net c) z.ins (λ net i. (before c (omega arith)).words net (in_known N ok.early graph z net there i))
      ∙ sym (two.registers z k c there e)

  cell_same : (c : ℕ) → ((t : ℕ) → t < c → Same A N w v b d r s m l t) → (z : Shape) → Contains (shapes N) z → (f : Form) → z.form ≡ f → ((k : ℕ) → f ≡ MuxForm k → (net : List ℕ) → Contains z.ins net → w net c ≡ v net c) → w z.q c ≡ v z.q c
  cell_same c before z there (ContextForm k) e ih = one.contexts z k c there e ∙ sym (two.contexts z k c there e)
  cell_same c before z there (PreselectForm k) e ih = one.preselects z k c there e ∙ sym (two.preselects z k c there e)
  cell_same c before z there (MuxForm k) e ih = one.muxes z k c there e ∙ picked_same (λ net. w net c) (λ net. v net c) z.ins (ih k refl) ∙ sym (two.muxes z k c there e)
  cell_same c before z there (RegisterForm k) e ih = register_same c before z k there e
  cell_same c before z there ZeroForm e ih = one.zeros z c there e ∙ sym (two.zeros z c there e)
  cell_same c before z there (UnitForm p k h) e ih = unit_same c before z p k h there e

  words_same : (c : ℕ) → ((t : ℕ) → t < c → Same A N w v b d r s m l t) → (net : List ℕ) → Contains (names N.nets) net → w net c ≡ v net c
  words_same c before =
      let (rank, up) = has_rank N ok.early graph ok.no_loop in
      by_muxes N ok.early graph rank up (λ net. w net c ≡ v net c) (λ z there ih. cell_same c before z there z.form refl ih)

  memory_same : (c : ℕ) → ((t : ℕ) → t < c → Same A N w v b d r s m l t) → m c ≡ l c
  memory_same zero before = one.memory_first ∙ sym two.memory_first
  memory_same (suc c) before =
      one.memory_next c ∙ ap (λ z. memory_by (λ x. b x c) z (length A.units)) (before c (omega arith)).memory
      ∙ same_memory (λ x. b x c) (λ x. d x c) (l c) (length A.units) (λ y h. (before c (omega arith)).begins y h) ∙ sym (two.memory_next c)

  same_at : (c : ℕ) → ((t : ℕ) → t < c → Same A N w v b d r s m l t) → Same A N w v b d r s m l c
  same_at c before =
      let words = words_same c before in
      let memory : m c ≡ l c = memory_same c before in
      let works : (x : ℕ) → x < length A.units → b x c ≡ d x c =
      λ x lx. one.begun_by x c lx
      ∙ ap (begun (fields C x (c % C.ii)) n (c / C.ii))
      (fun_ext
      (λ p. word_same (λ net. w net c) (λ net. v net c) (slice_get (pins_named (unit_instance (unit A x).name) (shapes N)) p) (λ net e. words net (pin_known N A graph ok (unit_instance (unit A x).name) p net e))))
      ∙ sym (two.begun_by x c lx) in
      record { words = words; begins = works; results = λ x lx. one.results x c lx ∙ ap₂ (result_of image) memory (works x lx) ∙ sym (two.results x c lx); memory = memory }

  below : (c t : ℕ) → t < c → Same A N w v b d r s m l t
  below zero t h = absurd (omega arith)
  below (suc c) t h = ⊎_elim (λ a. below c t a) (λ a. same_at t (λ u k. below c u (omega arith))) (cases_lt t c)

  each : (c : ℕ) → Same A N w v b d r s m l c
  each c = same_at c (below c)

  streams_same : (port c : ℕ) → x port c ≡ y port c
  streams_same port zero = one.streams_first port ∙ sym (two.streams_first port)
  streams_same port (suc c) =
      one.streams_next port c
      ∙ ap₂ (λ a e. a ++ e) (streams_same port c) (same_sent (λ z. b z c) (λ z. d z c) port (length A.units) (λ z h. (each c).begins z h)) ∙ sym (two.streams_next port c)

  outside_same : (c : ℕ) → o c ≡ u c
  outside_same zero = one.outside_first ∙ sym two.outside_first
  outside_same (suc c) =
      one.outside_next c
      ∙ ap₂ (λ a e. a + e) (outside_same c)
      (same_missed (λ z. b z c) (λ z. d z c) (length (m c)) (length A.units) (λ z h. (each c).begins z h) ∙ ap (λ z. missed_by_units (λ k. d k c) (length z) (length A.units)) (each c).memory)
      ∙ sym (two.outside_next c)

  pub agree : GatesAgree A N w v b d r s m l x y o u
  agree =
      record {
        words = λ net c h. (each c).words net.name (Contains-map (λ (n : Net). n.name) N.nets net h);
        begins = λ k c h. (each c).begins k h;
        results = λ k c h. (each c).results k h;
        memory = λ c. (each c).memory;
        streams = streams_same;
        outside = outside_same;
      }
