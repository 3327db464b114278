-- One cycle more.
use Rattle.std.proofs.Common.{◌≡◌, ℕ, zero, suc, ◌+◌, ◌-◌, ◌<◌, ◌≤◌, List, [], ◌∷◌, ◌++◌, length, replicate, Option, map, refl, sym, ap, ◌∙◌, subst, arith, ⊎_elim}
use Rattle.std.specs.Prelude.{slice_index, slice_index_or}
use Rattle.std.specs.List.{range_with_len}
use Rattle.std.proofs.lemmas.Bool.{cases_lt}
use Rattle.std.proofs.lemmas.List.{get_or_past, get_or-replicate, length-replicate}
use Rattle.std.proofs.lemmas.List.FromFn.{fill_by_all}
use Rattle.cg_model.specs.Array.{Arch, IsArch}
use Rattle.cg_model.specs.Config.{Config}
use Rattle.cg_model.specs.Canonical.{IsCanonical}
use Rattle.cg_model.specs.Work.{Image, Work}
use Rattle.cg_model.specs.Machine.{cycles, result_of, memory_by, sent_by_units, missed_by_units}
use Rattle.cg_datapath.specs.declared.terminals.Terminals.{Terminals}
use Rattle.cg_datapath.specs.Course.{Course, result_ago, works, AreShort, IsStart, Advances}
use Rattle.cg_netlist.specs.Netlist.{NetGraph}
use Rattle.cg_netlist.specs.Graph.{IsNetGraph}
use Rattle.cg_gates.specs.Gates.{GateCycle, gates_ago, nets_in, gate_works, gates_at, net_word, gates_left}
use Rattle.cg_gates.specs.Accepts.{IsAccepted}
use Rattle.cg_gates.specs.Tables.{AreTerminals}
use Rattle.cg_gates_run.specs.Settle.{AreByNet, IsFitted, IsSettled}
use Rattle.cg_gates_run.specs.State.{HaveThree, IsState, IsRunning}
use Rattle.cg_gates_run.proofs.Settled.{units_long}
use Rattle.cg_gates_run.proofs.Works.{works_same}

gates_ago_more : (x : GateCycle) (past : List GateCycle) (d : ℕ) → gates_ago (x ∷ past) (suc (suc d)) ≡ gates_ago past (suc d)
gates_ago_more x past d = let e : suc (suc d) - 1 ≡ suc d = omega arith in let f : suc d - 1 ≡ d = omega arith in rw (e, f) refl

module _ (A : Arch) (N : NetGraph) (C : Config) (k : Course) (words before : List ℕ) (run : IsRunning A N C k words before) where
  abbrev n : ℕ
  n = k.n

  abbrev image : Image
  image = k.image

  abbrev c : ℕ
  c = k.done

  abbrev past : List GateCycle
  past = (gates_at A N C n image c).past

  fit : IsFitted A N C k
  fit = run.fitted

  s : IsState A N C n image c k words
  s = run.state_is

  module _ (words' : List ℕ) (settled : IsSettled N words' (nets_in A N C c past)) (k' : Course) (adv : Advances k words' k') where
    abbrev begins : ℕ → Option Work
    begins x = gate_works A N C n image c past x

    count : length k.terminals ≡ length A.units
    count = units_long A N C k fit

    same : works k words' ≡ begins
    same = works_same A N C k fit run.three past words' settled image

    results_next : (x d : ℕ) → x < length A.units → 0 < d → d ≤ 4 → result_ago k' x d ≡ (gates_ago (gates_at A N C n image (suc c)).past d).results x
    unfolding gates_at
    results_next x zero lx q h = absurd (omega arith)
    results_next x (suc zero) lx q h =
        let l : x < length k.terminals = (let e = count in omega arith) in
        adv.results x l ∙ ap (λ (w : ℕ → Option Work). result_of image k.memory (w x)) same
        ∙ ap (λ (m : List ℕ). result_of image m (begins x)) s.memory
    results_next x (suc (suc d)) lx q h =
        let e : suc (suc d) ≡ suc d + 1 = omega arith in
        ap (result_ago k' x) e ∙ adv.earlier x (suc d) (omega arith) (omega arith) ∙ s.precedes.results x (suc d) lx (omega arith) (omega arith)
        ∙ sym (ap (λ (z : GateCycle). z.results x) (gates_ago_more (record { nets = nets_in A N C c past; results = λ y. result_of image (gates_at A N C n image c).memory (begins y) }) past d))

    next_state : IsState A N C n image (suc c) k' words'
    unfolding gates_at
    next_state =
        record {
          memory = adv.memory ∙ ap (λ (m : ℕ). memory_by (works k words') k.memory m) count ∙ ap (λ (ws : ℕ → Option Work). memory_by ws k.memory (length A.units)) same ∙ ap (λ (m : List ℕ). memory_by begins m (length A.units)) s.memory;
          sixteen = adv.sixteen;
          streams = λ port l. adv.streams port l
              ∙ ap (λ (m : ℕ). slice_index_or k.streams port [] ++ sent_by_units (works k words') port m) count
              ∙ ap (λ (ws : ℕ → Option Work). slice_index_or k.streams port [] ++ sent_by_units ws port (length A.units)) same
              ∙ ap (λ (ws : List ℕ). ws ++ sent_by_units begins port (length A.units)) (s.streams port l);
          outside = adv.outside
              ∙ ap (λ (m : ℕ). k.outside + missed_by_units (works k words') (length k.memory) m) count
              ∙ ap (λ (ws : ℕ → Option Work). k.outside + missed_by_units ws (length k.memory) (length A.units)) same
              ∙ ap (λ (z : ℕ). z + missed_by_units begins (length k.memory) (length A.units)) s.outside
              ∙ ap (λ (m : List ℕ). (gates_at A N C n image c).outside + missed_by_units begins (length m) (length A.units)) s.memory;
          precedes = record { words = λ i l. settled.are i l; results = results_next };
        }

    pub next_running : IsRunning A N C k' words' words
    next_running =
        let one : suc c ≡ k'.done = (let e = adv.done in omega arith) in
        record {
          fitted = record {
            valid = fit.valid;
            graph = fit.graph;
            accepted = fit.accepted;
            canonical = fit.canonical;
            config = adv.config ∙ fit.config;
            terminals = subst (AreTerminals A N) (sym adv.terminals) fit.terminals;
          };
          three = subst HaveThree (sym adv.terminals) run.three;
          words_by_net = settled.by_net;
          before_by_net = run.words_by_net;
          state_is =
              subst (λ (z : ℕ). IsState A N C z k'.image k'.done k' words') (sym adv.n)
              (subst (λ (z : Image). IsState A N C n z k'.done k' words') (sym adv.image)
              (subst (λ (z : ℕ). IsState A N C n image z k' words') one next_state));
        }

-- ---- before the first cycle

zeros : (m i : ℕ) → slice_index (replicate m 0) i ≡ 0
zeros m i = ⊎_elim (λ l. get_or-replicate m i 0 0 l) (λ l. get_or_past (replicate m 0) i 0 (omega (arith, length-replicate {A = ℕ} m 0))) (cases_lt i m)

none_by_net : (N : NetGraph) (words : List ℕ) (m : ℕ) → m ≡ length N.nets → words ≡ replicate (m + 1) 0 → AreByNet N words
none_by_net N words m em e =
    record {
      long = ap length e ∙ length-replicate (m + 1) 0 ∙ ap (λ (z : ℕ). z + 1) em;
      none = ap (λ (ws : List ℕ). slice_index ws (length N.nets)) e ∙ zeros (m + 1) (length N.nets);
      zeros = λ i l z. ap (λ (ws : List ℕ). slice_index ws i) e ∙ zeros (m + 1) i;
    }

-- no latency is above four
pub are_short : (A : Arch) (N : NetGraph) (us : List Terminals) → IsArch A → AreTerminals A N us → AreShort us
are_short A N us valid is x h =
    let many = is.long in
    let l : x < length A.units = omega arith in
    let e = (is.each x l).latency in
    let b = (valid.latencies x l).1 in
    omega arith

module _ (A : Arch) (N : NetGraph) (C : Config) (n : ℕ) (image : Image) (us : List Terminals) (words before : List ℕ) (k : Course) (m : ℕ) (em : m ≡ length N.nets)
    (ew : words ≡ replicate (m + 1) 0)
    (eb : before ≡ replicate (m + 1) 0)
    (start : IsStart A C n image us k)
  where
    first_state : IsState A N C n image 0 k words
    unfolding gates_at
    first_state =
        record {
          memory = start.memory;
          sixteen = ap length start.streams ∙ length-replicate {A = List ℕ} 16 [];
          streams = λ port l. ap (λ (ss : List (List ℕ)). slice_index_or ss port []) start.streams ∙ get_or-replicate 16 port [] [] l;
          outside = start.outside;
          precedes = record {
            words = λ i l. ap (λ (ws : List ℕ). slice_index ws i) ew ∙ zeros (m + 1) i;
            results = λ x d lx p h. start.results x d;
          };
        }

    pub first_running : IsArch A → IsNetGraph N → IsAccepted A N → IsCanonical A C → AreTerminals A N us → HaveThree us → IsRunning A N C k words before
    first_running valid graph accepted canonical are three =
        record {
          fitted = record {
            valid = valid;
            graph = graph;
            accepted = accepted;
            canonical = canonical;
            config = start.config;
            terminals = subst (AreTerminals A N) (sym start.terminals) are;
          };
          three = subst HaveThree (sym start.terminals) three;
          words_by_net = none_by_net N words m em ew;
          before_by_net = none_by_net N before m em eb;
          state_is =
              subst (λ (z : ℕ). IsState A N C z k.image k.done k words) (sym start.n)
              (subst (λ (z : Image). IsState A N C n z k.done k words) (sym start.image)
              (subst (λ (z : ℕ). IsState A N C n image z k words) (sym start.done) first_state));
        }

-- ---- the last word, and what is left

module _ (A : Arch) (N : NetGraph) (C : Config) (n : ℕ) (image : Image) where
  pub last_first : (k : ℕ) (net : List ℕ) → k ≡ 0 → (gates_ago (gates_at A N C n image k).past 1).nets net ≡ 0
  unfolding gates_at
  last_first k net e = rw e refl

  last_suc : (c : ℕ) (net : List ℕ) → (gates_ago (gates_at A N C n image (suc c)).past 1).nets net ≡ net_word A N C n image net c
  unfolding gates_at
  last_suc c net = refl

  pub last_later : (k c : ℕ) (net : List ℕ) → k ≡ c + 1 → (gates_ago (gates_at A N C n image k).past 1).nets net ≡ net_word A N C n image net c
  last_later k c net e =
      let z : suc c ≡ k = omega arith in
      subst (λ (m : ℕ). (gates_ago (gates_at A N C n image m).past 1).nets net ≡ net_word A N C n image net c) z (last_suc c net)

  pub left_is : (c : ℕ) (k : Course) (words : List ℕ) → IsState A N C n image c k words → c ≡ cycles C n →
      let i : Image = record { memory = k.memory; streams = k.streams } in i ≡ (gates_left A N C n image).image
  left_is c k words s last =
      let each : (port : ℕ) → port < 16 → slice_index_or k.streams port [] ≡ (gates_at A N C n image (cycles C n)).streams port =
      λ port l. s.streams port l ∙ ap (λ (z : ℕ). (gates_at A N C n image z).streams port) last in
      let streams : k.streams ≡ map (gates_at A N C n image (cycles C n)).streams (range_with_len 0 16) = fill_by_all (gates_at A N C n image (cycles C n)).streams k.streams 16 [] s.sixteen each in
      let memory : k.memory ≡ (gates_at A N C n image (cycles C n)).memory = s.memory ∙ ap (λ (z : ℕ). (gates_at A N C n image z).memory) last in
      ap (λ (m : List ℕ). let i : Image = record { memory = m; streams = k.streams } in i) memory
      ∙ ap (λ (xs : List (List ℕ)). let i : Image = record { memory = (gates_at A N C n image (cycles C n)).memory; streams = xs } in i) streams
