use Rattle.std.proofs.Common.{◌≡◌, List, ℕ, [], length, ap, ◌∙◌, arith, ⊎_elim}
use Rattle.std.specs.Prelude.{slice_index_or}
use Rattle.std.proofs.lemmas.Bool.{cases_lt}
use Rattle.std.proofs.lemmas.List.{get_or_past}
use Rattle.cg_datapath.specs.Reserved.{all_words}
use Rattle.cg_datapath.proofs.Next.{words_at, words_long}
use Rattle.cg_datapath.proofs.course.Course.into_image.Goals as goal

pub returns-clause-storable : goal.returns-clause-storable
returns-clause-storable g c =
    let v = c.self.inside in
    let inv = c.self.invariant in
    let e = v.effects in
    let streams : c.new.result ≡ all_words e.streams.items = c.new.ensures ∙ c.all_words.ensures in
    let memory_is : c.into_words.result ≡ e.memory = c.into_words.ensures in
    let turns = inv.turns in
    let long = words_long e.streams.items in
    record {
      memory = (let same = ap length memory_is in let fits = inv.effects.fits in let small = inv.valid.small.memory in omega arith);
      streams = λ port.
          let same = ap (λ (ss : List (List ℕ)). length (slice_index_or ss port [])) streams in
          ⊎_elim
          (λ l.
          let there = ap length (words_at e.streams.items port l) in
          let few = inv.effects.few_words port in
          omega arith)
          (λ past.
          let there = ap length (get_or_past (all_words e.streams.items) port [] (omega arith)) in
          omega arith)
          (cases_lt port (length e.streams.items));
    }
