-- What a search answers, and what its bytes do, whatever it searches by.
use Rattle.std.proofs.Common.{◌≡◌, List, [], ◌∷◌, refl, sym, ◌∙◌, ap, subst, ◌⊎◌, inl, inr, ⊎_elim}
use Rattle.std.specs.Prelude.{false}
use Rattle.cg_model.specs.Array.{IsArch}
use Rattle.cg_model.specs.Kernel.{IsKernel}
use Rattle.cg_model.specs.Mapping.{Mapping, IsLegal}
use Rattle.cg_effects.specs.declared.outcome.Status.TheVariants.{Done, Impossible, BudgetSpent}
use Rattle.cg_effects.specs.Outcome.{Name, Bytes, File, Outcome, names_of}
use Rattle.cg_effects.specs.Ends.{Moment, Completed, Wrote}
use Rattle.cg_effects.specs.Refusals.{reports}
use Rattle.cg_files.specs.Held.{Holds, Appends}
use Rattle.cg_bits.specs.Spelling.{AreBits}
use Rattle.cg_check.specs.Legal.{Mapped, config_of}
use Rattle.cg_bound.specs.declared.interval.Certificate.{Certificate}
use Rattle.cg_bound.specs.Bound.{IsForbidden, IsOpen, Shows}
use Rattle.cg_hub.specs.Hub.{HubEnough}
use Rattle.cg_intervals.specs.declared.answering.FoundBy.{FoundBy}
use Rattle.cg_intervals.specs.declared.answering.Answer.{Answer}
use Rattle.cg_intervals.specs.declared.answering.Answer.TheVariants as answer
use Rattle.cg_intervals.specs.Intervals.{IsAsked, last_tried}
use Rattle.cg_intervals.specs.Answers.{IsMapping}
use Rattle.cg_intervals.proofs.Intervals.{not_both}
use Rattle.cg_model.specs.declared.request.Request.{Request}
use Rattle.cg_model.specs.Request.{IsInRange}
use Rattle.cg_inputs.specs.Sources.{Pair, GivesPair}
use Rattle.cg_command_map.specs.Searches.{IsSearchOver, IsWritten, IsForbiddenInput, IsImpossibleRun, is_above, map_writes, impossible_report}
use Rattle.cg_command_map.specs.Answered.{IsOutcomeOf, IsAnswered, found_report}
use Rattle.cg_command_map.specs.Runs.{RunsOfPair, FirstRuns, IsFoundRun, IsLeftRun}
use Rattle.cg_inputs.proofs.Sound.{IsSound, searching, IsNamed}
use Rattle.cg_inputs.proofs.Wholes.{whole}
use Rattle.cg_inputs.proofs.Paired.{valid_pair}
use Rattle.cg_command_judge.proofs.Bitstream.{runs, some_run}
use Rattle.cg_command_map.proofs.MappingText.{answer-mapping_text}
use Rattle.cg_command_map.proofs.Left.{held_writes, hold_pair, put_of, kept_of, quiet_of, left_impossible}
use Rattle.cg_command_map.proofs.Over.{sound_over, named_over, given_over, some_over, left_over, made_over}

-- what is known of a search: why an interval is impossible, what holds of the mappings that it finds and of what it leaves, and
-- that it has an answer, which is a mapping where the hub suffices
pub record IsSearcher {L : Type 0} (Answers : Request → Pair → Answer L → Type 0) (Found : Request → Pair → Mapped → FoundBy → Type 0) (Left : Request → Pair → L → Type 0) : Type 0 where
  pub shown : (s : Request) (p : Pair) (c : Certificate) → Answers s p (answer.Impossible c) → Shows p.arch p.kernel (last_tried p.arch s.ii) c
  pub free : (s : Request) (p : Pair) (m : Mapped) (found_by : FoundBy) → Answers s p (answer.Mapped m found_by) → IsOpen p.arch p.kernel (last_tried p.arch s.ii)
  pub legal : (s : Request) (p : Pair) (m : Mapped) (found_by : FoundBy) → IsArch p.arch → IsKernel p.kernel → IsAsked p.arch s.ii → Answers s p (answer.Mapped m found_by)
      → (m.arch ≡ p.arch) × (m.kernel ≡ p.kernel) × IsLegal p.arch p.kernel m.mapping
  pub found : (s : Request) (p : Pair) (m : Mapped) (found_by : FoundBy) → IsArch p.arch → IsKernel p.kernel → Answers s p (answer.Mapped m found_by) → Found s p m found_by
  pub open_left : (s : Request) (p : Pair) (left : L) → Answers s p (answer.Unmapped left) → IsOpen p.arch p.kernel (last_tried p.arch s.ii)
  pub left : (s : Request) (p : Pair) (left : L) → Answers s p (answer.Unmapped left) → Left s p left
  pub by_hub : (s : Request) (p : Pair) → IsArch p.arch → IsKernel p.kernel → IsAsked p.arch s.ii → HubEnough p.arch p.kernel (last_tried p.arch s.ii) → (a : Answer L) → Answers s p a → IsMapping a
  pub some : (s : Request) (p : Pair) → IsArch p.arch → IsKernel p.kernel → IsAsked p.arch s.ii → (a : Answer L) × Answers s p a

-- ---- status and writes

-- an interval is called impossible, and nothing is written
abbrev pub SaysImpossible : Outcome → Type 0
SaysImpossible o = (o.status ≡ Impossible) × (o.writes ≡ [])

named_writes : (outs : List Name) (m : Mapped) (bytes : Bytes) → (names_of (map_writes outs m bytes) ≡ outs) ⊎ (map_writes outs m bytes ≡ [])
named_writes [] m bytes = inr refl
named_writes (out ∷ []) m bytes = inl refl
named_writes (out ∷ file ∷ []) m bytes = inl refl
named_writes (out ∷ file ∷ other ∷ outs) m bytes = inr refl

named_as : (outs : List Name) (m : Mapped) (bytes : Bytes) (o : Outcome) → o.writes ≡ map_writes outs m bytes → IsNamed outs o
named_as outs m bytes o e = ⊎_elim (λ n. inl (ap names_of e ∙ n)) (λ n. inr (e ∙ n)) (named_writes outs m bytes)

module _ {L : Type 0} (word : Bytes) (left_text : Pair → L → Bytes) (Answers : Request → Pair → Answer L → Type 0) where
  -- what is defined of a pair
  abbrev pub Defines : Request → List Name → Pair → Outcome → Type 0
  Defines s outs p o = IsAnswered word left_text s outs p (Answers s p) o

  -- and of two files
  abbrev pub IsOver : Request → File → File → List Name → Outcome → Type 0
  IsOver s arch kernel outs o = IsSearchOver (Defines s outs) s arch kernel o

  module _ (s : Request) (outs : List Name) where
    sound_of : (p : Pair) (a : Answer L) (o : Outcome) → IsOutcomeOf word left_text s outs p a o → IsSound searching o
    sound_of p (answer.Impossible c) o e = subst (IsSound searching) (sym e) (record { own = refl; quiet = λ h. refl })
    sound_of p (answer.Mapped m found_by) o w = subst (IsSound searching) (sym w.outcome) (record { own = refl; quiet = λ h. cc })
    sound_of p (answer.Unmapped left) o e = subst (IsSound searching) (sym e) (record { own = refl; quiet = λ h. refl })

    pub sound : (arch kernel : File) (o : Outcome) → IsOver s arch kernel outs o → IsSound searching o
    sound arch kernel o e = sound_over (Defines s outs) s arch kernel (λ p o f. sound_of p f.answer o f.outcome) o e

    named_of : (p : Pair) (a : Answer L) (o : Outcome) → IsOutcomeOf word left_text s outs p a o → IsNamed outs o
    named_of p (answer.Impossible c) o e = inr (ap (λ x. x.writes) e)
    named_of p (answer.Mapped m found_by) o w = named_as outs m w.bytes o (ap (λ x. x.writes) w.outcome)
    named_of p (answer.Unmapped left) o e = inr (ap (λ x. x.writes) e)

    pub named : (arch kernel : File) (o : Outcome) → IsOver s arch kernel outs o → IsNamed outs o
    named arch kernel o e = named_over (Defines s outs) s arch kernel outs (λ p o f. named_of p f.answer o f.outcome) o e

  -- without output files nothing is written
  pub quiet : (s : Request) (arch kernel : File) (o : Outcome) → IsOver s arch kernel [] o → o.writes ≡ []
  quiet s arch kernel o e = ⊎_elim (λ n. none o.writes n) (λ n. n) (named s [] arch kernel o e)
    where
      none : (files : List File) → names_of files ≡ [] → files ≡ []
      none [] n = refl
      none (f ∷ fs) n = absurd (cc)

  -- the status of an answer that is a mapping
  pub mapped_done : (s : Request) (outs : List Name) (p : Pair) (a : Answer L) (o : Outcome) → IsMapping a → IsOutcomeOf word left_text s outs p a o → o.status ≡ Done
  mapped_done s outs p (answer.Mapped n by) o e f = ap (λ z. z.status) f.outcome
  mapped_done s outs p (answer.Impossible c) o e f = absurd e
  mapped_done s outs p (answer.Unmapped left) o e f = absurd e

  module _ (Found : Request → Pair → Mapped → FoundBy → Type 0) (Left : Request → Pair → L → Type 0) (is_searcher : IsSearcher Answers Found Left) where
    -- ---- what there is

    some_of : (s : Request) (outs : List Name) (p : Pair) → IsArch p.arch → IsKernel p.kernel → IsAsked p.arch s.ii → (a : Answer L) → Answers s p a → (o : Outcome) × IsOutcomeOf word left_text s outs p a o
    some_of s outs p valid good is (answer.Impossible c) found = (reports Impossible (impossible_report p s c), refl)
    some_of s outs p valid good is (answer.Unmapped left) found = (reports BudgetSpent (left_text p left), refl)
    some_of s outs p valid good is (answer.Mapped m found_by) found =
        let (one, two, ok) = is_searcher.legal s p m found_by valid good is found in
        let fine : IsKernel m.kernel = subst IsKernel (sym two) good in
        let here : IsLegal m.arch m.kernel m.mapping = rw (one, two) ok in
        let (bytes, spelled) = some_run m fine here.shape here in
        (record { status = Done; report = found_report word m found_by; writes = map_writes outs m bytes }, record { bytes = bytes; spelled = spelled; outcome = refl })

    pub some_outcome : (s : Request) (arch kernel : File) (outs : List Name) → IsInRange s → (o : Outcome) × IsOver s arch kernel outs o
    some_outcome s arch kernel outs range =
        some_over (Defines s outs) s arch kernel
        (λ p valid good is.
        let (a, found) = is_searcher.some s p valid good is in
        let (o, f) = some_of s outs p valid good is a found in
        (o, record { answer = a; is_answer = found; outcome = f }))
        range

    -- ---- what is accepted

    pub accepted : (s : Request) (arch kernel : File) (outs : List Name) (p : Pair) → GivesPair arch.bytes kernel.bytes p → is_above s.ii p.arch ≡ false
        → (IsArch p.arch → IsKernel p.kernel → IsAsked p.arch s.ii → (a : Answer L) → Answers s p a → IsMapping a) → (o : Outcome) → IsOver s arch kernel outs o → o.status ≡ Done
    accepted s arch kernel outs p given within each o f =
        given_over (Defines s outs) s arch kernel (λ o. o.status ≡ Done) p given within (λ valid good is o f. mapped_done s outs p f.answer o (each valid good is f.answer f.is_answer) f.outcome) o f

    -- ---- what is impossible

    forbidden_by : (s : Request) (outs : List Name) (p : Pair) → IsForbidden p.arch p.kernel (last_tried p.arch s.ii) → (a : Answer L) (o : Outcome) → Answers s p a → IsOutcomeOf word left_text s outs p a o → SaysImpossible o
    forbidden_by s outs p forbidden (answer.Impossible c) o found e = (ap (λ x. x.status) e, ap (λ x. x.writes) e)
    forbidden_by s outs p forbidden (answer.Mapped m found_by) o found e = absurd (not_both p.arch p.kernel (last_tried p.arch s.ii) (is_searcher.free s p m found_by found) forbidden)
    forbidden_by s outs p forbidden (answer.Unmapped left) o found e = absurd (not_both p.arch p.kernel (last_tried p.arch s.ii) (is_searcher.open_left s p left found) forbidden)

    pub forbidden : (s : Request) (arch kernel : File) (outs : List Name) → IsForbiddenInput s arch kernel → (o : Outcome) → IsOver s arch kernel outs o → SaysImpossible o
    forbidden s arch kernel outs input o f =
        given_over (Defines s outs) s arch kernel SaysImpossible input.pair input.given input.within
        (λ valid good is o f. forbidden_by s outs input.pair input.forbidden f.answer o f.is_answer f.outcome) o f

    -- ---- what is left

    module _ (s : Request) (arch kernel : Name) (outs : List Name) (f g : File) (before after : Moment) (arch_held : Holds before.held arch f.bytes) (kernel_held : Holds before.held kernel g.bytes) where
      module _ (p : Pair) (given : GivesPair f.bytes g.bytes p) (is : IsAsked p.arch s.ii) where
        valid : IsArch p.arch
        valid = (valid_pair f.bytes g.bytes p given).0

        good : IsKernel p.kernel
        good = (valid_pair f.bytes g.bytes p given).1

        impossible_of : (a : Answer L) (o : Outcome) → Answers s p a → IsOutcomeOf word left_text s outs p a o → o.status ≡ Impossible → Completed o before after Impossible → IsImpossibleRun s arch kernel before after
        impossible_of (answer.Impossible c) o found e status done = left_impossible s arch kernel f g before after arch_held kernel_held p given c o (is_searcher.shown s p c found) e done
        impossible_of (answer.Mapped m found_by) o found e status done = absurd (let z : Done ≡ Impossible = sym (ap (λ x. x.status) e.outcome) ∙ status in cc)
        impossible_of (answer.Unmapped left) o found e status done = absurd (let z : BudgetSpent ≡ Impossible = sym (ap (λ x. x.status) e) ∙ status in cc)

        spent_of : (a : Answer L) (o : Outcome) → Answers s p a → IsOutcomeOf word left_text s outs p a o → o.status ≡ BudgetSpent → Completed o before after BudgetSpent → IsLeftRun left_text (Left s) s arch kernel before after
        spent_of (answer.Unmapped left) o found e status done =
            let reported = reports BudgetSpent (left_text p left) in
            record {
              pair = p;
              read = hold_pair s arch kernel f g before after arch_held kernel_held p given;
              free = is_searcher.open_left s p left found;
              left = left;
              is_left = is_searcher.left s p left found;
              no_hub = λ enough. is_searcher.by_hub s p valid good is enough (answer.Unmapped left) found;
              put = put_of s arch kernel f g before after arch_held kernel_held o reported BudgetSpent e done;
              kept = kept_of s arch kernel f g before after arch_held kernel_held o reported BudgetSpent e done;
              no_write = quiet_of s arch kernel f g before after arch_held kernel_held o reported BudgetSpent e refl done;
            }
        spent_of (answer.Mapped m found_by) o found e status done = absurd (let z : Done ≡ BudgetSpent = sym (ap (λ x. x.status) e.outcome) ∙ status in cc)
        spent_of (answer.Impossible c) o found e status done = absurd (let z : Impossible ≡ BudgetSpent = sym (ap (λ x. x.status) e) ∙ status in cc)

        abbrev Here : Mapping → Mapped
        Here M = record { arch = p.arch; kernel = p.kernel; mapping = M }

        same : (n : Mapped) → n.arch ≡ p.arch → n.kernel ≡ p.kernel → n ≡ Here n.mapping
        same n a k = subst (λ A. n ≡ record { arch = A; kernel = p.kernel; mapping = n.mapping }) a (subst (λ K. n ≡ record { arch = n.arch; kernel = K; mapping = n.mapping }) k refl)

        run : {m : Mapped} (found_by : FoundBy) (o : Outcome) (found : Answers s p (answer.Mapped m found_by)) (e : IsWritten outs m (found_report word m found_by) o) → o.status ≡ Done → Completed o before after Done
            → (M : Mapping) → m ≡ Here M → IsLegal p.arch p.kernel M → IsFoundRun word (Found s) s arch kernel outs before after
        run {m} found_by o found e status done M m_is ok =
            let answered : Answers s p (answer.Mapped (Here M) found_by) = subst (λ n. Answers s p (answer.Mapped n found_by)) m_is found in
            let spelled : AreBits p.arch (config_of (Here M)) e.bytes = subst (λ n. AreBits n.arch (config_of n) e.bytes) m_is e.spelled in
            let outcome : o ≡ record { status = Done; report = found_report word (Here M) found_by; writes = map_writes outs (Here M) e.bytes } = subst (λ n. o ≡ record { status = Done; report = found_report word n found_by; writes = map_writes outs n e.bytes }) m_is e.outcome in
            record {
              pair = p;
              read = hold_pair s arch kernel f g before after arch_held kernel_held p given;
              free = is_searcher.free s p (Here M) found_by answered;
              mapping = M;
              found_by = found_by;
              found = is_searcher.found s p (Here M) found_by valid good answered;
              bytes = e.bytes;
              runs = runs (Here M) e.bytes valid good ok spelled;
              written = held_writes outs (Here M) e.bytes before after (subst (λ fs. Wrote before.held fs after.held) (ap (λ x. x.writes) outcome) done.held);
              read_back = λ limits. answer-mapping_text p.arch p.kernel M valid good ok limits;
              put = subst (λ report. Appends before.taken report after.taken) (ap (λ x. x.report) outcome) (whole o.status o.report before after status done.put);
            }

        mapped_of : (a : Answer L) (o : Outcome) → Answers s p a → IsOutcomeOf word left_text s outs p a o → o.status ≡ Done → Completed o before after Done → IsFoundRun word (Found s) s arch kernel outs before after
        mapped_of (answer.Impossible c) o found e status done = absurd (let z : Impossible ≡ Done = sym (ap (λ x. x.status) e) ∙ status in cc)
        mapped_of (answer.Unmapped left) o found e status done = absurd (let z : BudgetSpent ≡ Done = sym (ap (λ x. x.status) e) ∙ status in cc)
        mapped_of (answer.Mapped m found_by) o found e status done =
            let (one, two, ok) = is_searcher.legal s p m found_by valid good is found in
            run found_by o found e status done m.mapping (same m one two) ok

        made_as : (ws : List File) (outs : List Name) (n : Mapped) (bytes : Bytes) → ws ≡ map_writes outs n bytes → RunsOfPair arch kernel before bytes → FirstRuns arch kernel before ws
        made_as ws [] n bytes e r = subst (FirstRuns arch kernel before) (sym e) tt
        made_as ws (out ∷ []) n bytes e r = subst (FirstRuns arch kernel before) (sym e) r
        made_as ws (out ∷ file ∷ []) n bytes e r = subst (FirstRuns arch kernel before) (sym e) r
        made_as ws (out ∷ file ∷ other ∷ outs) n bytes e r = subst (FirstRuns arch kernel before) (sym e) tt

        made_of : (a : Answer L) (o : Outcome) → Answers s p a → IsOutcomeOf word left_text s outs p a o → FirstRuns arch kernel before o.writes
        made_of (answer.Impossible c) o found e = subst (FirstRuns arch kernel before) (sym (ap (λ x. x.writes) e)) tt
        made_of (answer.Unmapped left) o found e = subst (FirstRuns arch kernel before) (sym (ap (λ x. x.writes) e)) tt
        made_of (answer.Mapped m found_by) o found e =
            let (one, two, ok) = is_searcher.legal s p m found_by valid good is found in
            let m_is = same m one two in
            let spelled : AreBits p.arch (config_of (Here m.mapping)) e.bytes = subst (λ n. AreBits n.arch (config_of n) e.bytes) m_is e.spelled in
            made_as o.writes outs m e.bytes (ap (λ x. x.writes) e.outcome)
            (record { pair = p; read = hold_pair s arch kernel f g before before arch_held kernel_held p given; mapping = m.mapping; runs = runs (Here m.mapping) e.bytes valid good ok spelled })

      -- ---- by what the files give

      pub writes_run : (o : Outcome) → IsOver s f g outs o → FirstRuns arch kernel before o.writes
      writes_run o is = made_over (Defines s outs) s f g (FirstRuns arch kernel before) tt (λ p given is o d. made_of p given is d.answer o d.is_answer d.outcome) o is

      pub found_left : (o : Outcome) → IsOver s f g outs o → o.status ≡ Done → Completed o before after Done → IsFoundRun word (Found s) s arch kernel outs before after
      found_left o is at done = left_over (Defines s outs) s f g Done before after (λ e. cc) (λ p given is o d. mapped_of p given is d.answer o d.is_answer d.outcome) o is at done

      pub impossible_left : (o : Outcome) → IsOver s f g outs o → o.status ≡ Impossible → Completed o before after Impossible → IsImpossibleRun s arch kernel before after
      impossible_left o is at done = left_over (Defines s outs) s f g Impossible before after (λ e. cc) (λ p given is o d. impossible_of p given is d.answer o d.is_answer d.outcome) o is at done

      pub spent_left : (o : Outcome) → IsOver s f g outs o → o.status ≡ BudgetSpent → Completed o before after BudgetSpent → IsLeftRun left_text (Left s) s arch kernel before after
      spent_left o is at done = left_over (Defines s outs) s f g BudgetSpent before after (λ e. cc) (λ p given is o d. spent_of p given is d.answer o d.is_answer d.outcome) o is at done
