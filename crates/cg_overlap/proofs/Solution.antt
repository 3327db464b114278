-- The array solves its equations.
use Rattle.std.proofs.Common.{ap₂, subst₂, ⊎_elim, ◌/◌, ◌≡◌, ℕ, zero, suc, ◌+◌, ◌-◌, ◌%◌, ◌<◌, List, length, Option, Some, None, refl, sym, ap, ◌∙◌, subst, arith}
use Rattle.std.specs.Prelude.{slice_get, ◌++◌}
use Rattle.std.proofs.lemmas.Option.{slice_get_within, get_or_from_slice_get}
use mathlib.Core.Path.{fun_ext}
use Rattle.std.proofs.lemmas.List.{get_or_past}
use Rattle.std.proofs.lemmas.Bool.{cases_lt}
use Rattle.cg_model.specs.Work.{Image, Work}
use Rattle.cg_model.specs.declared.array.Kind.{Kind}
use Rattle.cg_model.specs.declared.array.Kind.TheVariants.{Wire, Register, Port, Out}
use Rattle.cg_model.specs.Array.{Arch, IsArch, resource, unit, owner, delay_by}
use Rattle.cg_model.specs.Config.{Config, select, fields}
use Rattle.cg_model.specs.Machine.{ago, driver, driven, at_cycle, word, begins, result, begun, memory_by, memory_after, sent_by_units, sent_after, missed_by_units, missed_after, result_of}
use Rattle.cg_model.specs.Equations.{IsRun, AreSame}
use Rattle.cg_overlap.proofs.Wires.{unrolled, given, out_within, Contains-driver, same_driven}

module _ (A : Arch) (C : Config) (n : ℕ) (image : Image) (is : IsArch A) where
  length-past : (c : ℕ) → length (at_cycle A C n image c).past ≡ c
  unfolding at_cycle
  length-past zero = refl
  length-past (suc c) = ap suc (length-past c)

  none_before : (c d : ℕ) → c < d → ago (at_cycle A C n image c).past d ≡ record { words = λ r. 0; results = λ x. 0 }
  none_before c d l = get_or_past (at_cycle A C n image c).past (d - 1) _ (omega (arith, length-past c))

  driven_none : (o : Option ℕ) → driven (λ q. 0) o ≡ 0
  driven_none None = refl
  driven_none (Some q) = refl

  register_next : (r c : ℕ) → r < length A.resources → (resource A r).kind ≡ Register → word A C n image r (suc c) ≡ driven (λ q. word A C n image q c) (driver (resource A r).drivers (select C r (suc c % C.ii)))
  unfolding at_cycle
  register_next r c l e = rw e at (unrolled A C n image is (suc c % C.ii) (at_cycle A C n image (suc c)).past r l)

  pub run : IsRun A C n image (word A C n image) (begins A C n image) (result A C n image) (λ c. (at_cycle A C n image c).memory) (λ port c. (at_cycle A C n image c).streams port) (λ c. (at_cycle A C n image c).outside)
  unfolding at_cycle
  run =
      record {
        wires = λ r c l e. rw e at (unrolled A C n image is (c % C.ii) (at_cycle A C n image c).past r l);
        ports = λ r c l e. rw e at (unrolled A C n image is (c % C.ii) (at_cycle A C n image c).past r l);
        registers = register_next;
        registers_first = λ r l e. rw e at (unrolled A C n image is (0 % C.ii) (at_cycle A C n image 0).past r l) ∙ driven_none _;
        outs = given A C n image is;
        outs_first = λ x c l b.
            rw (is.outs x l) at (unrolled A C n image is (c % C.ii) (at_cycle A C n image c).past (unit A x).out (out_within A (unit A x).out (is.outs x l)))
            ∙ rw (is.owners x l) (ap (λ z. z.results x) (none_before c (unit A x).latency b));
        units = λ x c. refl;
        results = λ x c. refl;
        memory_first = refl;
        memory_next = λ c. refl;
        streams_first = λ port. refl;
        streams_next = λ port c. refl;
        outside_first = refl;
        outside_next = λ c. refl;
      }

same_memory_by : (a b : ℕ → Option Work) (memory : List ℕ) (x : ℕ) → ((y : ℕ) → y < x → a y ≡ b y) → memory_by a memory x ≡ memory_by b memory x
unfolding memory_by
same_memory_by a b memory zero h = refl
same_memory_by a b memory (suc x) h = ap₂ memory_after (same_memory_by a b memory x (λ y l. h y (omega arith))) (h x (omega arith))

same_sent_by : (a b : ℕ → Option Work) (port x : ℕ) → ((y : ℕ) → y < x → a y ≡ b y) → sent_by_units a port x ≡ sent_by_units b port x
unfolding sent_by_units
same_sent_by a b port zero h = refl
same_sent_by a b port (suc x) h = ap₂ (λ xs o. xs ++ sent_after port o) (same_sent_by a b port x (λ y l. h y (omega arith))) (h x (omega arith))

same_missed_by : (a b : ℕ → Option Work) (room x : ℕ) → ((y : ℕ) → y < x → a y ≡ b y) → missed_by_units a room x ≡ missed_by_units b room x
unfolding missed_by_units
same_missed_by a b room zero h = refl
same_missed_by a b room (suc x) h = ap₂ (λ k o. k + missed_after room o) (same_missed_by a b room x (λ y l. h y (omega arith))) (h x (omega arith))

-- two solutions are one
pub record Same (A : Arch) (w v : ℕ → ℕ → ℕ) (b d : ℕ → ℕ → Option Work) (r s : ℕ → ℕ → ℕ) (m l : ℕ → List ℕ) (c : ℕ) : Type 0 where
  pub words : (q : ℕ) → q < length A.resources → w q c ≡ v q c
  pub begins : (x : ℕ) → x < length A.units → b x c ≡ d x c
  pub results : (x : ℕ) → x < length A.units → r x c ≡ s x c
  pub memory : m c ≡ l c

module _ (A : Arch) (C : Config) (n : ℕ) (image : Image) (is : IsArch A) (w v : ℕ → ℕ → ℕ) (b d : ℕ → ℕ → Option Work) (r s : ℕ → ℕ → ℕ) (m l : ℕ → List ℕ) (x y : ℕ → ℕ → List ℕ) (o u : ℕ → ℕ) (one : IsRun A C n image w b r m x o) (two : IsRun A C n image v d s l y u) where
  -- the words of one cycle, by level
  words_by : (c : ℕ) → ((t : ℕ) → t < c → Same A w v b d r s m l t) → (f q : ℕ) → is.level q < f → q < length A.resources → (k : Kind) → (resource A q).kind ≡ k → w q c ≡ v q c
  words_by c before zero q lf lq k e = absurd (omega arith)
  words_by c before (suc f) q lf lq Wire e =
      one.wires q c lq e
      ∙ same_driven _ _ _ (λ p h. let m = Contains-driver (resource A q).drivers _ p h in words_by c before f p (let up = is.rising p q m (ap delay_by e) in omega arith) (is.known p q m) (resource A p).kind refl)
      ∙ sym (two.wires q c lq e)
  words_by c before (suc f) q lf lq Port e =
      one.ports q c lq e
      ∙ same_driven _ _ _ (λ p h. let m = Contains-driver (resource A q).drivers _ p h in words_by c before f p (let up = is.rising p q m (ap delay_by e) in omega arith) (is.known p q m) (resource A p).kind refl)
      ∙ sym (two.ports q c lq e)
  words_by zero before (suc f) q lf lq Register e = one.registers_first q lq e ∙ sym (two.registers_first q lq e)
  words_by (suc c) before (suc f) q lf lq Register e =
      one.registers q c lq e
      ∙ same_driven _ _ _ (λ p h. (before c (omega arith)).words p (is.known p q (Contains-driver (resource A q).drivers _ p h)))
      ∙ sym (two.registers q c lq e)
  words_by c before (suc f) q lf lq Out e =
      let (lx, ex) = is.owned q e in
      let lat = (is.latencies (owner A q) lx).0 in
      ⊎_elim
      (λ a. subst (λ z. w z c ≡ v z c) ex (one.outs_first (owner A q) c lx a ∙ sym (two.outs_first (owner A q) c lx a)))
      (λ a.
      let z : c - (unit A (owner A q)).latency + (unit A (owner A q)).latency ≡ c = omega arith in
      subst₂ (λ z t. w z t ≡ v z t) ex z
      (one.outs (owner A q) (c - (unit A (owner A q)).latency) lx ∙ (before (c - (unit A (owner A q)).latency) (omega arith)).results (owner A q) lx ∙ sym (two.outs (owner A q) (c - (unit A (owner A q)).latency) lx)))
      (cases_lt c (unit A (owner A q)).latency)

  memory_by_cycle : (c : ℕ) → ((t : ℕ) → t < c → Same A w v b d r s m l t) → m c ≡ l c
  memory_by_cycle zero before = one.memory_first ∙ sym two.memory_first
  memory_by_cycle (suc c) before =
      one.memory_next c ∙ ap (λ z. memory_by (λ x. b x c) z (length A.units)) (before c (omega arith)).memory
      ∙ same_memory_by (λ x. b x c) (λ x. d x c) (l c) (length A.units) (λ y h. (before c (omega arith)).begins y h) ∙ sym (two.memory_next c)

  port_within : (z p q : ℕ) → z < length A.units → slice_get (unit A z).ports p ≡ Some q → q < length A.resources
  port_within z p q h e = subst (λ k. k < length A.resources) (get_or_from_slice_get (unit A z).ports p q 0 e) (is.ports_known z p h (slice_get_within (unit A z).ports p q e))

  same_at : (c : ℕ) → ((t : ℕ) → t < c → Same A w v b d r s m l t) → Same A w v b d r s m l c
  same_at c before =
      let words : (q : ℕ) → q < length A.resources → w q c ≡ v q c = λ q lq. words_by c before (suc (is.level q)) q (omega arith) lq (resource A q).kind refl in
      let begun_same : (x : ℕ) → x < length A.units → b x c ≡ d x c =
      λ x lx. one.units x c ∙ ap (begun (fields C x (c % C.ii)) n (c / C.ii)) (fun_ext (λ p. same_driven (λ q. w q c) (λ q. v q c) (slice_get (unit A x).ports p) (λ q e. words q (port_within x p q lx e)))) ∙ sym (two.units x c) in
      let memory_same = memory_by_cycle c before in
      record { words = words; begins = begun_same; results = λ x lx. one.results x c ∙ ap₂ (result_of image) memory_same (begun_same x lx) ∙ sym (two.results x c); memory = memory_same }

  below : (c t : ℕ) → t < c → Same A w v b d r s m l t
  below zero t h = absurd (omega arith)
  below (suc c) t h = ⊎_elim (λ a. below c t a) (λ a. let z : t ≡ c = omega arith in same_at t (λ u k. below c u (omega arith))) (cases_lt t c)

  each : (c : ℕ) → Same A w v b d r s m l c
  each c = same_at c (below c)

  same_streams : (port c : ℕ) → x port c ≡ y port c
  same_streams port zero = one.streams_first port ∙ sym (two.streams_first port)
  same_streams port (suc c) =
      one.streams_next port c
      ∙ ap₂ (λ a e. a ++ e) (same_streams port c) (same_sent_by (λ z. b z c) (λ z. d z c) port (length A.units) (λ z h. (each c).begins z h)) ∙ sym (two.streams_next port c)

  same_outside : (c : ℕ) → o c ≡ u c
  same_outside zero = one.outside_first ∙ sym two.outside_first
  same_outside (suc c) =
      one.outside_next c
      ∙ ap₂ (λ a e. a + e) (same_outside c)
      (same_missed_by (λ z. b z c) (λ z. d z c) (length (m c)) (length A.units) (λ z h. (each c).begins z h) ∙ ap (λ z. missed_by_units (λ k. d k c) (length z) (length A.units)) (each c).memory)
      ∙ sym (two.outside_next c)

  pub same : AreSame A w v b d r s m l x y o u
  same =
      record {
        words = λ q c h. (each c).words q h;
        begins = λ k c h. (each c).begins k h;
        results = λ k c h. (each c).results k h;
        memory = λ c. (each c).memory;
        streams = same_streams;
        outside = same_outside;
      }
