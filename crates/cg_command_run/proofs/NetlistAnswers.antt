-- What `run` with a netlist answers.
use Rattle.std.proofs.Common.{◌≡◌, ℕ, ◌≤◌, [], ◌∷◌, length, Result, Ok, Err, refl, sym, ◌∙◌, ap, subst, inl, inr}
use Rattle.cg_model.specs.Work.{Image}
use Rattle.cg_model.specs.Array.{Arch, IsArch}
use Rattle.cg_model.specs.Config.{Config}
use Rattle.cg_model.specs.Machine.{machine_left}
use Rattle.cg_files.specs.Held.{Holds, Appends}
use Rattle.cg_effects.specs.declared.outcome.Status.TheVariants.{Done}
use Rattle.cg_effects.specs.Outcome.{Name, File, Outcome}
use Rattle.cg_effects.specs.Ends.{Moment, Completed, Wrote}
use Rattle.cg_bits.specs.Ranges.{IsBytes}
use Rattle.cg_pad.specs.Bytes as images
use Rattle.cg_netlist.specs.Netlist.{NetGraph, netlist_of}
use Rattle.cg_netlist.specs.Graph.{IsNetGraph}
use Rattle.cg_netlist_reader.specs.declared.fault.VerilogFault.TheVariants as verilog_fault
use Rattle.cg_netlist_reader.specs.FaultText.{verilog_fault_text}
use Rattle.cg_netlist_reader.specs.Reading as netlists
use Rattle.cg_netlist_reader.proofs.NotBoth as reader
use Rattle.cg_netlist_reader.proofs.Solved as reader_solved
use Rattle.cg_gates.specs.declared.fault.GateFault.{GateFault}
use Rattle.cg_gates.specs.declared.fault.GateFault.TheVariants as gate_fault
use Rattle.cg_gates.specs.Gates.{gates_left}
use Rattle.cg_gates.specs.Accepts.{IsGateAnswer}
use Rattle.cg_gates.specs.Texts.{gate_fault_text}
use Rattle.cg_gates.proofs.Answered as gates
use Rattle.cg_gates.proofs.Follow.{leaves_alike}
use Rattle.cg_inputs.specs.Answered.{WithMemory}
use Rattle.cg_inputs.specs.Readings.{ReadsArray, ReadsImage}
use Rattle.cg_inputs.proofs.Sound.{IsSound, plain, IsNamed}
use Rattle.cg_inputs.proofs.Answered.{IsReading, sound_answer, named_answer, same_answer, done_answer, some_answer, left_answer, not_done}
use Rattle.cg_inputs.proofs.Both.{both_reading, only}
use Rattle.cg_inputs.proofs.Parsed.{IsParsing, parsed_reading, with_memory}
use Rattle.cg_inputs.proofs.Readings.{array_reading, image_reading}
use Rattle.cg_inputs.proofs.Arrays.{valid_array}
use Rattle.cg_inputs.proofs.Wholes.{whole, one_write}
use Rattle.cg_command_run.specs.Run.{run_by_size}
use Rattle.cg_command_run.proofs.RunAnswers.{each_size, hold_start, leaves_turns, ran_by_size, run_fits}
use Rattle.cg_command_run.specs.Netlist.{IsNetlistRun, IsNetlistRunnable, IsGatesRun, ReadsNetlist, ReadsMeaning, ReadsGates, ReadsOn, ReadsNetlistRun, RunsGates, gates_ran}

-- ---- what is read

netlist_parsing : (file : File) → IsParsing (WithMemory (netlists.IsAnswer file.bytes) verilog_fault.Memory)
netlist_parsing file =
    let a = reader_solved.some_answer file.bytes in
    record {
      one = λ G H g h. reader.one_graph file.bytes G H g.1 h.1;
      apart = λ G f g e. reader.not_both file.bytes G f g.0 g.1 e.1 e.0;
      some = (a.0, with_memory (netlists.IsAnswer file.bytes) verilog_fault.Memory a.0 a.1 a.2);
    }

netlist_reading : (file : File) → IsReading (ReadsNetlist file)
netlist_reading file = parsed_reading (WithMemory (netlists.IsAnswer file.bytes) verilog_fault.Memory) verilog_fault_text file.name (netlist_parsing file)

abbrev IsMeaning : Arch → NetGraph → Result (Unit {0}) GateFault → Type 0
IsMeaning A N r = WithMemory (IsGateAnswer A N) gate_fault.Memory r

some_meaning : (A : Arch) (N : NetGraph) → gates.HasAnswer A N → (r : Result (Unit {0}) GateFault) × IsMeaning A N r
some_meaning A N (inl is) = (Ok tt, is)
some_meaning A N (inr f) = (Err f.0, ((λ m. f.1.1), f.1.0))

meaning_parsing : (A : Arch) (N : NetGraph) → IsNetGraph N → IsParsing (IsMeaning A N)
meaning_parsing A N graph = record {
  one = λ x y a b. refl;
  apart = λ x f a e. gates.not_both A N f a (e.0 e.1);
  some = some_meaning A N (gates.some_answer A N graph);
}

meaning_reading : (A : Arch) (file : Name) (N : NetGraph) → IsNetGraph N → IsReading (ReadsMeaning A file N)
meaning_reading A file N graph = parsed_reading (IsMeaning A N) gate_fault_text file (meaning_parsing A N graph)

gates_reading : (A : Arch) (file : File) → IsReading (ReadsGates A file)
gates_reading A file = both_reading (ReadsNetlist file) (ReadsMeaning A file.name) (netlist_reading file) (λ N is. meaning_reading A file.name N is.0)

on_reading : (input netlist : File) (A : Arch) → IsReading (ReadsOn input netlist A)
on_reading input netlist A = both_reading (ReadsImage input) (λ image. ReadsGates A netlist) (image_reading input) (λ image is. gates_reading A netlist)

run_reading : (arch file input netlist : File) → IsReading (ReadsNetlistRun arch file input netlist)
run_reading arch file input netlist = both_reading (ReadsArray arch file) (λ a. ReadsOn input netlist a.0) (array_reading arch file) (λ a is. on_reading input netlist a.0)

-- ---- what is answered

abbrev IsStart : Type 0
IsStart = (Arch × Config) × (Image × (NetGraph × Unit {0}))

module _ (n : ℕ) (arch file input netlist : File) (out : Name) where
  -- the outcome of the run
  abbrev ran : IsStart → Outcome
  ran s = gates_ran n s.0.0 s.1.1.0 s.0.1 s.1.0 out

  pub sound_netlist_run : (o : Outcome) → IsNetlistRun n arch file input netlist out o → IsSound plain o
  sound_netlist_run o p =
      sound_answer (ReadsNetlistRun arch file input netlist) (RunsGates n input.name out) (run_reading arch file input netlist) plain refl
      (λ s o e. each_size s.0.0 input.name s.1.0 (ran s) (IsSound plain) (record { own = refl; quiet = λ h. cc }) (record { own = refl; quiet = λ h. refl }) o e) o p

  pub named_netlist_run : (o : Outcome) → IsNetlistRun n arch file input netlist out o → IsNamed (out ∷ []) o
  named_netlist_run o p =
      named_answer (ReadsNetlistRun arch file input netlist) (RunsGates n input.name out) (run_reading arch file input netlist) (out ∷ [])
      (λ s o e. each_size s.0.0 input.name s.1.0 (ran s) (IsNamed (out ∷ [])) (inl refl) (inr refl) o e) o p

  pub accepted_netlist_run : (o : Outcome) → IsNetlistRunnable arch file input netlist → IsNetlistRun n arch file input netlist out o → o.status ≡ Done
  accepted_netlist_run o a p =
      let s : IsStart = ((a.array, a.config), (a.image, (a.graph, tt))) in
      let is = only (ReadsNetlistRun arch file input netlist) (run_reading arch file input netlist) s ((a.given, a.config_is), (a.image_is, (a.graph_is, a.accepted))) in
      ap (λ y. y.status)
      (done_answer (ReadsNetlistRun arch file input netlist) (RunsGates n input.name out) (run_reading arch file input netlist) s is o p ∙ run_fits a.array input.name a.image (ran s) a.fits)

  pub same_netlist_run : (a b : Outcome) → IsNetlistRun n arch file input netlist out a → IsNetlistRun n arch file input netlist out b → a.status ≡ b.status
  same_netlist_run a b p q =
      same_answer (ReadsNetlistRun arch file input netlist) (RunsGates n input.name out) (run_reading arch file input netlist) (λ s a b x y. ap (λ z. z.status) (x ∙ sym y)) a b p q

  pub some_netlist_run : (o : Outcome) × IsNetlistRun n arch file input netlist out o
  some_netlist_run =
      some_answer (ReadsNetlistRun arch file input netlist) (RunsGates n input.name out) (run_reading arch file input netlist) (λ s is. (run_by_size s.0.0 input.name s.1.0 (ran s), refl))

-- ---- what is left

gates_same : (A : Arch) (N : NetGraph) (C : Config) (n : ℕ) (image : Image) → IsArch A → N ≡ netlist_of A → gates_left A N C n image ≡ machine_left A C n image
gates_same A N C n image valid e = ap (λ G. gates_left A G C n image) e ∙ leaves_alike A C n image valid

module _ (n : ℕ) (arch file input netlist out : Name) (f g h k : File) (o : Outcome) (before after : Moment)
    (arch_held : Holds before.held arch f.bytes) (held : Holds before.held file g.bytes) (bytes : IsBytes g.bytes) (image_held : Holds before.held input h.bytes) (netlist_held : Holds before.held netlist k.bytes)
  where
    left_by : (s : IsStart) → ReadsNetlistRun f g h k (Ok s) → length s.1.0.memory ≤ s.0.0.memory → o ≡ gates_ran n s.0.0 s.1.1.0 s.0.1 s.1.0 out → o.status ≡ Done → Completed o before after Done
        → IsGatesRun n arch file input netlist out before after
    left_by s is fits e done c =
        let A = s.0.0 in
        let C = s.0.1 in
        let image = s.1.0 in
        let N = s.1.1.0 in
        let valid = valid_array f.bytes A is.0.0 in
        record {
          read = hold_start arch file input f g h before arch_held held bytes image_held (s.0, image) (is.0, is.1.0) fits;
          netlist_bytes = k.bytes;
          netlist_held = netlist_held;
          graph = N;
          valid = is.1.1.0.0;
          graph_spelled = is.1.1.0.1;
          accepted = is.1.1.1;
          written = one_write before.held after.held out (images.image_bytes (gates_left A N C n image).image) (subst (λ fs. Wrote before.held fs after.held) (ap (λ x. x.writes) e) c.held);
          put = subst (λ report. Appends before.taken report after.taken) (ap (λ x. x.report) e) (whole o.status o.report before after done c.put);
          same = gates_same A N C n image valid;
          turns = λ own K M good legal are ordered. gates_same A N C n image valid own ∙ leaves_turns A n image C g.bytes valid is.0.1 K M good legal are ordered;
        }

    pub netlist_run_left : IsNetlistRun n f g h k out o → o.status ≡ Done → Completed o before after Done → IsGatesRun n arch file input netlist out before after
    netlist_run_left p done c =
        left_answer (ReadsNetlistRun f g h k) (RunsGates n h.name out) (run_reading f g h k) (IsGatesRun n arch file input netlist out before after) o
        (λ s is e. let r = ran_by_size s.0.0 h.name s.1.0 (gates_ran n s.0.0 s.1.1.0 s.0.1 s.1.0 out) o e done in left_by s is r.0 r.1 done c) p (not_done o done)
