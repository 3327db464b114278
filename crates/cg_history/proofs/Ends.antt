-- Before the first cycle and after the last.
use Rattle.std.proofs.Common.{◌≡◌, ℕ, ◌<◌, ◌≤◌, List, [], length, map, ap, ◌∙◌, arith, ⊎_elim}
use Rattle.std.specs.Prelude.{slice_index_or}
use Rattle.std.specs.List.{range_with_len}
use Rattle.std.proofs.lemmas.Bool.{cases_lt}
use Rattle.std.proofs.lemmas.List.{get_or_past}
use Rattle.std.proofs.lemmas.List.FromFn.{fill_by_all}
use Rattle.cg_model.specs.Array.{Arch, IsArch}
use Rattle.cg_model.specs.Config.{Config}
use Rattle.cg_model.specs.Limits.{most_turns}
use Rattle.cg_model.specs.Work.{Image, Left}
use Rattle.cg_model.specs.Machine.{at_cycle, cycles, machine_left}
use Rattle.cg_pad.specs.Bytes.{IsStorable}
use Rattle.cg_datapath.specs.Reserved.{all_words}
use Rattle.cg_datapath.specs.State.{IsFresh}
use Rattle.cg_datapath.specs.declared.effects.Effects.{Effects}
use Rattle.cg_datapath.proofs.Next.{first_effects, words_at, words_long}
use Rattle.cg_history.specs.Results.{Results, IsFirst}
use Rattle.cg_history.specs.State.{IsAt}

-- before the first cycle
pub first_at : (A : Arch) (C : Config) (n : ℕ) (image : Image) (h : Results) (e : Effects) (rows : ℕ) → IsFirst (length A.units) rows h → length image.memory ≤ A.memory → IsFresh A C n image e → IsAt A C n image 0 h e
unfolding at_cycle
first_at A C n image h e rows first fits fresh =
    record {
      units = first.units_are;
      results = λ x d l p k on. first.none x d;
      memory = fresh.memory;
      streams = λ port l. fresh.empty port;
      outside = fresh.outside;
      effects = first_effects A C n image e fits fresh;
    }

-- after the last
module _ (A : Arch) (C : Config) (n : ℕ) (image : Image) (c : ℕ) (h : Results) (e : Effects) (state : IsAt A C n image c h e)
    (memory : List ℕ) (streams : List (List ℕ)) (memory_is : memory ≡ e.memory) (streams_are : streams ≡ all_words e.streams.items)
  where
    word_is : (port : ℕ) → port < 16 → slice_index_or streams port [] ≡ (at_cycle A C n image c).streams port
    word_is port l =
        let ports = state.effects.ports in
        ap (λ (ss : List (List ℕ)). slice_index_or ss port []) streams_are ∙ words_at e.streams.items port (omega arith) ∙ state.streams port l

    long : length streams ≡ 16
    long = ap length streams_are ∙ words_long e.streams.items ∙ state.effects.ports

    pub left_by : (outside : ℕ) → outside ≡ e.outside → c ≡ cycles C n →
        let left : Left = record { image = record { memory = memory; streams = streams }; outside = outside } in left ≡ machine_left A C n image
    left_by outside outside_is last =
        let each : (port : ℕ) → port < 16 → slice_index_or streams port [] ≡ (at_cycle A C n image (cycles C n)).streams port =
        λ port l. word_is port l ∙ ap (λ (z : ℕ). (at_cycle A C n image z).streams port) last in
        let streams_left : streams ≡ map (at_cycle A C n image (cycles C n)).streams (range_with_len 0 16) = fill_by_all (at_cycle A C n image (cycles C n)).streams streams 16 [] long each in
        let memory_left : memory ≡ (at_cycle A C n image (cycles C n)).memory = memory_is ∙ state.memory ∙ ap (λ (z : ℕ). (at_cycle A C n image z).memory) last in
        let outside_left : outside ≡ (at_cycle A C n image (cycles C n)).outside = outside_is ∙ state.outside ∙ ap (λ (z : ℕ). (at_cycle A C n image z).outside) last in
        λ i. record { image = record { memory = memory_left i; streams = streams_left i }; outside = outside_left i }

    pub storable_by : IsArch A → n ≤ most_turns → (let left : Image = record { memory = memory; streams = streams } in IsStorable left)
    storable_by valid turns =
        record {
          memory = (let same = ap length memory_is in let fits = state.effects.fits in let small = valid.small.memory in omega arith);
          streams = λ port.
              let same = ap (λ (ss : List (List ℕ)). length (slice_index_or ss port [])) streams_are in
              ⊎_elim
              (λ l.
              let there = ap length (words_at e.streams.items port l) in
              let few = state.effects.few_words port in
              omega arith)
              (λ past.
              let wide = words_long e.streams.items in
              let there = ap length (get_or_past (all_words e.streams.items) port [] (omega arith)) in
              omega arith)
              (cases_lt port (length e.streams.items));
        }
