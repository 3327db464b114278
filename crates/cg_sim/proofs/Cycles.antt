-- One cycle more.
use Rattle.std.proofs.Common.{◌≡◌, ℕ, zero, suc, ◌+◌, ◌-◌, ◌/◌, ◌%◌, ◌<◌, ◌≤◌, true, List, [], ◌∷◌, ◌++◌, length, replicate, Option, Contains, refl, sym, ap, ◌∙◌, subst, arith, ⊎_elim}
use mathlib.Core.Path.{fun_ext}
use Rattle.std.specs.Prelude.{slice_index, slice_index_or, slice_get}
use Rattle.std.proofs.lemmas.Bool.{cases_lt, true≢false}
use Rattle.std.proofs.lemmas.List.{get_or_past, get_or-replicate, length-replicate}
use Rattle.std.proofs.lemmas.Nat.{mod_below}
use Rattle.cg_model.specs.declared.array.Kind.{Kind}
use Rattle.cg_model.specs.declared.array.Kind.TheVariants.{Wire, Register, Port, Out}
use Rattle.cg_model.specs.declared.array.Resource.{Resource}
use Rattle.cg_model.specs.declared.array.Unit.{Unit}
use Rattle.cg_model.specs.declared.config.UnitFields.{UnitFields}
use Rattle.cg_model.specs.Array.{Arch, IsArch, resource, unit, owner}
use Rattle.cg_model.specs.Config.{Config, select, fields}
use Rattle.cg_model.specs.Canonical.{IsCanonical}
use Rattle.cg_model.specs.Work.{Image, Work}
use Rattle.cg_model.specs.Machine.{Cycle, ago, driver, driven, by_kind, word_by, words_in, at_cycle, begun, begins, word, result_of, memory_by, sent_by_units, missed_by_units}
use Rattle.cg_overlap.proofs.Wires.{unrolled, Contains-driver, out_within, same_driven}
use Rattle.cg_datapath.specs.Terminals.{terminals, on_ports}
use Rattle.cg_datapath.specs.Course.{Course, result_ago, works, IsStart, Keeps, AreOutsRight, GiveOuts, Advances}
use Rattle.cg_datapath.specs.declared.terminals.Terminals.{Terminals}
use Rattle.cg_datapath.proofs.Facts.{off_past}
use Rattle.cg_sim.specs.Plan.{link, is_register, is_net, AreTerminals, IsPlan}
use Rattle.cg_sim.specs.Settle.{chosen, AreRight, Settles, IsSettled}
use Rattle.cg_sim.specs.State.{IsState, IsRunning}
use Rattle.cg_sim.specs.declared.plan.Plan.{Plan}
use Rattle.cg_sim.proofs.Chosen.{register_is, chosen_word, terminal_at, units_long, ports_right}

by_kinds : (k : Kind) (P : Type 0) → (k ≡ Out → P) → (k ≡ Register → P) → (is_net k ≡ true → P) → P
by_kinds Wire P o r n = n refl
by_kinds Port P o r n = n refl
by_kinds Register P o r n = r refl
by_kinds Out P o r n = o refl

net_now : (k : Kind) (a b g : ℕ) → is_net k ≡ true → by_kind k a b g ≡ a
net_now Wire a b g h = refl
net_now Port a b g h = refl
net_now Register a b g h = absurd (true≢false (sym h))
net_now Out a b g h = absurd (true≢false (sym h))

pub driven_nothing : (f : ℕ → ℕ) (j : ℕ) → driven f (driver [] j) ≡ 0
driven_nothing f zero = refl
driven_nothing f (suc j) = refl

pub ago_more : (x : Cycle) (past : List Cycle) (d : ℕ) → ago (x ∷ past) (suc (suc d)) ≡ ago past (suc d)
ago_more x past d = let e : suc (suc d) - 1 ≡ suc d = omega arith in let f : suc d - 1 ≡ d = omega arith in rw (e, f) refl

-- past the last resource there is no word
word_past : (A : Arch) (C : Config) (slot : ℕ) (past : List Cycle) (fuel r : ℕ) → length A.resources ≤ r → word_by A C slot past fuel r ≡ 0
unfolding word_by
word_past A C slot past zero r l = refl
word_past A C slot past (suc fuel) r l =
    let e : resource A r ≡ record { name = []; kind = Wire; drivers = [] } = get_or_past A.resources r (record { name = []; kind = Wire; drivers = [] }) l in
    ap (λ (X : Resource). by_kind X.kind (driven (word_by A C slot past fuel) (driver X.drivers (select C r slot))) (driven (ago past 1).words (driver X.drivers (select C r slot))) ((ago past (unit A (owner A r)).latency).results (owner A r))) e
    ∙ driven_nothing (word_by A C slot past fuel) (select C r slot)

last_none : (A : Arch) (C : Config) (n : ℕ) (image : Image) (c : ℕ) → (ago (at_cycle A C n image c).past 1).words (length A.resources) ≡ 0
unfolding at_cycle
last_none A C n image zero = refl
last_none A C n image (suc c) = word_past A C (c % C.ii) (at_cycle A C n image c).past (length A.resources) (length A.resources) (omega arith)

module _ (C0 : Config) (k : Course) (p : Plan) (words before : List ℕ) (run : IsRunning C0 k p words before) where
  abbrev A : Arch
  A = k.arch

  abbrev C : Config
  C = k.config

  abbrev n : ℕ
  n = k.n

  abbrev image : Image
  image = k.image

  abbrev c : ℕ
  c = k.done

  abbrev slot : ℕ
  slot = c % C.ii

  abbrev past : List Cycle
  past = (at_cycle A C n image c).past

  abbrev now : ℕ → ℕ
  now = words_in A C n image c past

  valid : IsArch A
  valid = run.valid

  good : IsCanonical A C
  good = run.canonical

  plan : IsPlan A p
  plan = run.plan_is

  units : AreTerminals A.units (length A.resources) k.terminals
  units = run.terminals_are

  s : IsState A C n image c words before k
  s = run.state_is

  within : slot < C.ii
  within = mod_below c C.ii good.interval

  none_now : now (length A.resources) ≡ 0
  none_now = word_past A C slot past (length A.resources) (length A.resources) (omega arith)

  none_last : slice_index words (length A.resources) ≡ 0
  none_last = s.words_are (length A.resources) ∙ last_none A C n image c

  -- the word of an out
  given : (x : ℕ) → x < length A.units → now (unit A x).out ≡ (ago past (unit A x).latency).results x
  given x l =
      let one : now (unit A x).out ≡ (ago past (unit A (owner A (unit A x).out)).latency).results (owner A (unit A x).out) =
      rw (valid.outs x l) at (unrolled A C n image valid slot past (unit A x).out (out_within A (unit A x).out (valid.outs x l))) in
      let two : (ago past (unit A (owner A (unit A x).out)).latency).results (owner A (unit A x).out) ≡ (ago past (unit A x).latency).results x = rw (valid.owners x l) refl in
      one ∙ two

  out_right : (x : ℕ) → x < length A.units → result_ago k x (unit A x).latency ≡ now (unit A x).out
  out_right x l = s.results x (unit A x).latency l (valid.latencies x l).0 (valid.latencies x l).1 ∙ sym (given x l)

  pub outs_give : GiveOuts k now
  outs_give x h =
      let long = units_long A k.terminals units in
      let l : x < length A.units = omega arith in
      subst (λ (t : Terminals). result_ago k x t.latency ≡ now t.out) (sym (terminal_at A k.terminals units x l)) (out_right x l)

  registers_settle : (j : ℕ) → j < length p.registers.entries.items → slice_index words (chosen C slot p.registers j) ≡ now (link p.registers.entries.items j).resource
  registers_settle j h =
      let entry = link p.registers.entries.items j in
      let r = entry.resource in
      let linked = plan.registers.linked j h in
      let kind : (resource A r).kind ≡ Register = register_is (resource A r).kind (plan.registers.chosen j h) in
      let o = driver (resource A r).drivers (select C r slot) in
      chosen_word A p.registers.drivers.items entry linked (slice_index words) none_last (select C r slot) (good.selects r slot linked.known within)
      ∙ same_driven (slice_index words) (ago past 1).words o (λ q d. s.words_are q)
      ∙ sym (rw kind at (unrolled A C n image valid slot past r linked.known))

  -- a word is right where those of outs and registers are, and that of a wire or port
  right_at : (ws : List ℕ) → AreOutsRight k.terminals ws now → AreRight p.registers (length p.registers.entries.items) ws now →
      (q : ℕ) → q < length A.resources → (is_net (resource A q).kind ≡ true → slice_index ws q ≡ now q) → slice_index ws q ≡ now q
  right_at ws outs registers q known net =
      by_kinds (resource A q).kind (slice_index ws q ≡ now q)
      (λ e.
      let (l, is) = valid.owned q e in
      let long = units_long A k.terminals units in
      let t : (terminals k.terminals (owner A q)).out ≡ q = ap (λ (t : Terminals). t.out) (terminal_at A k.terminals units (owner A q) l) ∙ is in
      subst (λ z. slice_index ws z ≡ now z) t (outs (owner A q) (omega arith)))
      (λ e.
      let (j, h, is) = plan.registers.all q known (ap is_register e) in
      subst (λ z. slice_index ws z ≡ now z) is (registers j h))
      net

  -- after the words of the outs
  module _ (after : List ℕ) (kept_outs : Keeps now before after) (outs : AreOutsRight k.terminals after now) where
    none_after : slice_index after (length A.resources) ≡ now (length A.resources)
    none_after = kept_outs (length A.resources) (s.before_none ∙ sym none_now)

    nets_settle : (j : ℕ) → j < length p.nets.entries.items → (ws : List ℕ) → Keeps now after ws →
        AreRight p.registers (length p.registers.entries.items) ws now →
        AreRight p.nets j ws now → slice_index ws (chosen C slot p.nets j) ≡ now (link p.nets.entries.items j).resource
    nets_settle j h ws kept registers earlier =
        let entry = link p.nets.entries.items j in
        let r = entry.resource in
        let linked = plan.nets.linked j h in
        let sel = select C r slot in
        let ds = (resource A r).drivers in
        let none : slice_index ws (length A.resources) ≡ 0 = kept (length A.resources) none_after ∙ none_now in
        chosen_word A p.nets.drivers.items entry linked (slice_index ws) none sel (good.selects r slot linked.known within)
        ∙ same_driven (slice_index ws) now (driver ds sel)
        (λ q d.
        let m : Contains ds q = Contains-driver ds sel q d in
        right_at ws (λ x l. kept (terminals k.terminals x).out (outs x l)) registers q (valid.known q r m)
        (λ net. let (i, lower, is) = plan.rising j q h m net in subst (λ z. slice_index ws z ≡ now z) is (earlier i lower)))
        ∙ sym (unrolled A C n image valid slot past r linked.known ∙ net_now (resource A r).kind _ _ _ (plan.nets.chosen j h))

    -- the definition's words settle the plan
    pub settles : Settles C slot p words after now
    settles = record { registers = registers_settle; nets = nets_settle }

    -- the same, of what is equal to that
    pub settled_by : (C' : Config) (at : ℕ) (w b words' : List ℕ) → C' ≡ C → at ≡ slot → w ≡ words → b ≡ after →
        ((f : ℕ → ℕ) → Settles C' at p w b f → IsSettled p b words' f) → IsSettled p after words' now
    settled_by C' at w b words' ec ea ew eb by =
        subst (λ z. IsSettled p z words' now) eb
        (by now
        (subst (λ z. Settles z at p w b now) (sym ec)
        (subst (λ z. Settles C z p w b now) (sym ea)
        (subst (λ z. Settles C slot p z b now) (sym ew)
        (subst (λ z. Settles C slot p words z now) (sym eb) settles)))))

    module _ (words' : List ℕ) (long : length words' ≡ length A.resources + 1) (settled : IsSettled p after words' now) where
      words_right : (r : ℕ) → slice_index words' r ≡ now r
      words_right r =
          ⊎_elim
          (λ l. right_at words' (λ x h. settled.kept (terminals k.terminals x).out (outs x h)) settled.registers r l
          (λ net. let (j, h, is) = plan.nets.all r l net in subst (λ z. slice_index words' z ≡ now z) is (settled.nets j h)))
          (λ l. ⊎_elim
          (λ b. let z : r ≡ length A.resources = omega arith in subst (λ q. slice_index words' q ≡ now q) (sym z) (settled.kept (length A.resources) none_after))
          (λ b. get_or_past words' r 0 (omega arith) ∙ sym (word_past A C slot past (length A.resources) r l))
          (cases_lt r (length A.resources + 1)))
          (cases_lt r (length A.resources))

      works_right : (x : ℕ) → works k words' x ≡ begins A C n image x c
      works_right x =
          ⊎_elim
          (λ l. ap (begun (fields C x slot) n (c / C.ii))
          (fun_ext (λ q. ports_right A valid k.terminals units words' long x l (words_right (length A.resources) ∙ none_now) q
          ∙ same_driven (slice_index words') now (slice_get (unit A x).ports q) (λ r d. words_right r))))
          (λ l.
          let off = off_past A C good x slot within l in
          ap (λ (F : UnitFields). begun F n (c / C.ii) (on_ports (terminals k.terminals x).ports words')) off
          ∙ sym (ap (λ (F : UnitFields). begun F n (c / C.ii) (λ q. driven now (slice_get (unit A x).ports q))) off))
          (cases_lt x (length A.units))

      works_same : works k words' ≡ (λ x. begins A C n image x c)
      works_same = fun_ext works_right

      module _ (k' : Course) (adv : Advances k words' k') where
        count : length k.terminals ≡ length A.units
        count = units_long A k.terminals units

        results_next : (x d : ℕ) → x < length A.units → 0 < d → d ≤ 4 → result_ago k' x d ≡ (ago (at_cycle A C n image (suc c)).past d).results x
        unfolding at_cycle
        results_next x zero lx q h = absurd (omega arith)
        results_next x (suc zero) lx q h =
            let l : x < length k.terminals = (let e = count in omega arith) in
            adv.results x l ∙ ap (λ (o : Option Work). result_of image k.memory o) (works_right x)
            ∙ ap (λ (m : List ℕ). result_of image m (begins A C n image x c)) s.memory
        results_next x (suc (suc d)) lx q h =
            let e : suc (suc d) ≡ suc d + 1 = omega arith in
            ap (result_ago k' x) e ∙ adv.earlier x (suc d) (omega arith) (omega arith) ∙ s.results x (suc d) lx (omega arith) (omega arith)
            ∙ sym (ap (λ (z : Cycle). z.results x) (ago_more (record { words = now; results = λ y. result_of image (at_cycle A C n image c).memory (begins A C n image y c) }) past d))

        next_state : IsState A C n image (suc c) words' words k'
        unfolding at_cycle
        next_state =
            record {
              words_long = long;
              before_long = s.words_long;
              words_are = words_right;
              before_none = none_last;
              results = results_next;
              memory = adv.memory ∙ ap (λ (m : ℕ). memory_by (works k words') k.memory m) count ∙ ap (λ (ws : ℕ → Option Work). memory_by ws k.memory (length A.units)) works_same ∙ ap (λ (m : List ℕ). memory_by (λ x. begins A C n image x c) m (length A.units)) s.memory;
              ports = adv.sixteen;
              streams = λ port l. adv.streams port l
                  ∙ ap (λ (m : ℕ). slice_index_or k.streams port [] ++ sent_by_units (works k words') port m) count
                  ∙ ap (λ (ws : ℕ → Option Work). slice_index_or k.streams port [] ++ sent_by_units ws port (length A.units)) works_same
                  ∙ ap (λ (ws : List ℕ). ws ++ sent_by_units (λ x. begins A C n image x c) port (length A.units)) (s.streams port l);
              outside = adv.outside
                  ∙ ap (λ (m : ℕ). k.outside + missed_by_units (works k words') (length k.memory) m) count
                  ∙ ap (λ (ws : ℕ → Option Work). k.outside + missed_by_units ws (length k.memory) (length A.units)) works_same
                  ∙ ap (λ (z : ℕ). z + missed_by_units (λ x. begins A C n image x c) (length k.memory) (length A.units)) s.outside
                  ∙ ap (λ (m : List ℕ). (at_cycle A C n image c).outside + missed_by_units (λ x. begins A C n image x c) (length m) (length A.units)) s.memory;
            }

        -- the course that goes on, in the numbers of the one that was
        abbrev moved : Course
        moved = record { arch = A; config = C; n = n; image = image; terminals = k.terminals; done = c + 1; memory = k'.memory; streams = k'.streams; outside = k'.outside; history = k'.history }

        is_moved : k' ≡ moved
        is_moved = λ i. record {
          arch = adv.arch i;
          config = adv.config i;
          n = adv.n i;
          image = adv.image i;
          terminals = adv.terminals i;
          done = adv.done i;
          memory = k'.memory;
          streams = k'.streams;
          outside = k'.outside;
          history = k'.history;
        }

        running_moved : IsState A C n image (c + 1) words' words moved → IsRunning C0 moved p words' words
        running_moved state =
            record {
              valid = valid;
              canonical = good;
              config_is = run.config_is;
              plan_is = plan;
              terminals_are = units;
              state_is = state;
            }

        pub next_running : IsRunning C0 k' p words' words
        next_running =
            let one : suc c ≡ c + 1 = omega arith in
            subst (λ (X : Course). IsRunning C0 X p words' words) (sym is_moved)
            (running_moved (subst (λ (X : Course). IsState A C n image (c + 1) words' words X) is_moved
            (subst (λ (z : ℕ). IsState A C n image z words' words k') one next_state)))

zeros : (m i : ℕ) → slice_index (replicate m 0) i ≡ 0
zeros m i = ⊎_elim (λ l. get_or-replicate m i 0 0 l) (λ l. get_or_past (replicate m 0) i 0 (omega (arith, length-replicate {A = ℕ} m 0))) (cases_lt i m)

module _ (A : Arch) (C : Config) (n : ℕ) (image : Image) (us : List Terminals) (words before : List ℕ) (k : Course)
    (ew : words ≡ replicate (length A.resources + 1) 0)
    (eb : before ≡ replicate (length A.resources + 1) 0)
    (start : IsStart A C n image us k)
  where
    first_state : IsState A C n image 0 words before k
    unfolding at_cycle
    first_state =
        record {
          words_long = ap length ew ∙ length-replicate (length A.resources + 1) 0;
          before_long = ap length eb ∙ length-replicate (length A.resources + 1) 0;
          words_are = λ r. ap (λ (ws : List ℕ). slice_index ws r) ew ∙ zeros (length A.resources + 1) r;
          before_none = ap (λ (ws : List ℕ). slice_index ws (length A.resources)) eb ∙ zeros (length A.resources + 1) (length A.resources);
          results = λ x d lx p h. start.results x d;
          memory = start.memory;
          ports = ap length start.streams ∙ length-replicate {A = List ℕ} 16 [];
          streams = λ port l. ap (λ (ss : List (List ℕ)). slice_index_or ss port []) start.streams ∙ get_or-replicate 16 port [] [] l;
          outside = start.outside;
        }

    abbrev begun_course : Course
    begun_course = record { arch = A; config = C; n = n; image = image; terminals = us; done = 0; memory = k.memory; streams = k.streams; outside = k.outside; history = k.history }

    pub is_begun : k ≡ begun_course
    is_begun = λ i. record {
      arch = start.arch i;
      config = start.config i;
      n = start.n i;
      image = start.image i;
      terminals = start.terminals i;
      done = start.done i;
      memory = k.memory;
      streams = k.streams;
      outside = k.outside;
      history = k.history;
    }

    pub first_running : IsArch A → IsCanonical A C → (p : Plan) → IsPlan A p → AreTerminals A.units (length A.resources) us → IsRunning C k p words before
    first_running valid good p plan units =
        let first : IsRunning C begun_course p words before =
        record {
          valid = valid;
          canonical = good;
          config_is = refl;
          plan_is = plan;
          terminals_are = units;
          state_is = subst (λ (X : Course). IsState A C n image 0 words before X) is_begun first_state;
        } in
        subst (λ (X : Course). IsRunning C X p words before) (sym is_begun) first

-- the terminals of the units that the code was given
pub terminals_by : (A : Arch) (xs : List Unit) (rs : List Resource) (us : List Terminals) → xs ≡ A.units → rs ≡ A.resources → AreTerminals xs (length rs) us → AreTerminals A.units (length A.resources) us
terminals_by A xs rs us ex er h = subst (λ (z : List Unit). AreTerminals z (length A.resources) us) ex (subst (λ (z : List Resource). AreTerminals xs (length z) us) er h)

pub last_first : (A : Arch) (C : Config) (n : ℕ) (image : Image) (k r : ℕ) → k ≡ 0 → (ago (at_cycle A C n image k).past 1).words r ≡ 0
unfolding at_cycle
last_first A C n image k r e = rw e refl

last_suc : (A : Arch) (C : Config) (n : ℕ) (image : Image) (c r : ℕ) → (ago (at_cycle A C n image (suc c)).past 1).words r ≡ word A C n image r c
unfolding at_cycle
last_suc A C n image c r = refl

pub last_later : (A : Arch) (C : Config) (n : ℕ) (image : Image) (k c r : ℕ) → k ≡ c + 1 → (ago (at_cycle A C n image k).past 1).words r ≡ word A C n image r c
last_later A C n image k c r e =
    let z : suc c ≡ k = omega arith in
    subst (λ (m : ℕ). (ago (at_cycle A C n image m).past 1).words r ≡ word A C n image r c) z (last_suc A C n image c r)
