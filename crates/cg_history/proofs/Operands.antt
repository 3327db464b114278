-- The operands of a task, and what it begins.
use Rattle.std.proofs.Common.{◌≡◌, ℕ, ◌+◌, ◌-◌, ◌/◌, ◌%◌, ◌<◌, ◌≤◌, List, [], ◌∷◌, length, Option, Some, None, refl, sym, ap, ◌∙◌, subst, arith, ⊎_elim, inl, inr}
use Rattle.std.specs.Prelude.{slice_index, slice_get}
use Rattle.std.specs.Option.{unwrap_or}
use Rattle.std.proofs.lemmas.Bool.{cases_lt}
use Rattle.cg_word.specs.Word.{arity}
use Rattle.cg_model.specs.declared.config.UnitFields.{UnitFields}
use Rattle.cg_model.specs.Array.{Arch, unit}
use Rattle.cg_model.specs.Config.{Config, fields}
use Rattle.cg_model.specs.Work.{Image, Work}
use Rattle.cg_model.specs.Machine.{arguments, at_cycle, begins, begun, driven, words_in}
use Rattle.cg_config.specs.Told.{head_of, told}
use Rattle.cg_pad.proofs.Args.{on, three}
use Rattle.cg_datapath.proofs.Arguments.{argument_at, argument_past}
use Rattle.cg_datapath.proofs.Begun.{begun_is, not_begun, begins_by, begins_three}
use Rattle.cg_datapath.specs.Effects.{Begins}
use Rattle.cg_datapath.specs.declared.effects.Effects.{Effects}
use Rattle.cg_origins.specs.Source.{IsReadable, delay_of, source_word}
use Rattle.cg_origins.specs.Tasks.{IsTask, source_at}
use Rattle.cg_origins.specs.declared.source.Source.{Source}
use Rattle.cg_origins.specs.declared.source.Source.TheVariants as source
use Rattle.cg_origins.specs.declared.tasks.Task.{Task}
use Rattle.cg_history.specs.Results.{Results, IsKnown, word_of}
use Rattle.cg_history.specs.State.{HasResults}

-- a source has the word among the results that it has in the array
word_right : (A : Arch) (C : Config) (n : ℕ) (image : Image) (slot c : ℕ) (h : Results) (s : Source) → c % C.ii ≡ slot → HasResults A C n image c h → IsReadable A C slot s → delay_of s < h.rows →
    word_of h s ≡ source_word (at_cycle A C n image c).past s
word_right A C n image slot c h (source.Word w) at has is near = refl
word_right A C n image slot c h (source.Result x d) at has is near = has x d is.known is.some near (λ l. is.on c at l)

-- and there is a row for it
known_by : (A : Arch) (C : Config) (slot : ℕ) (h : Results) (s : Source) → h.units ≡ length A.units → IsReadable A C slot s → delay_of s < h.rows → IsKnown h s
known_by A C slot h (source.Word w) units is near = tt
known_by A C slot h (source.Result x d) units is near = let known = is.known in let some = is.some in (omega arith, some, near)

-- a told word is that of the source
chosen : (h : Results) (o : Option ℕ) (s : Source) (a : ℕ) → ((w : ℕ) → o ≡ Some w → s ≡ source.Word w) → a ≡ word_of h s → a ≡ unwrap_or o (word_of h s)
chosen h None s a same e = e
chosen h (Some w) s a same e = e ∙ ap (word_of h) (same w refl)

pub known_of : (A : Arch) (C : Config) (slot : ℕ) (h : Results) (t : Task) → h.units ≡ length A.units → IsTask A C slot h.rows t → (p : ℕ) → IsKnown h (source_at t p)
known_of A C slot h t units is p =
    ⊎_elim
    (λ l. known_by A C slot h (source_at t p) units (is.operands p l).readable (is.operands p l).near)
    (λ l. subst (λ (s : Source). IsKnown h s) (sym (is.rest p l)) tt)
    (cases_lt p (arity t.op))

three_is : (xs : List ℕ) → length xs ≡ 3 → xs ≡ three xs
three_is [] e = absurd (omega arith)
three_is (a ∷ []) e = absurd (omega arith)
three_is (a ∷ b ∷ []) e = absurd (omega arith)
three_is (a ∷ b ∷ c ∷ []) e = refl
three_is (a ∷ b ∷ c ∷ d ∷ xs) e = absurd (omega arith)

module _ (A : Arch) (C : Config) (n : ℕ) (image : Image) (slot round c : ℕ) (at : c % C.ii ≡ slot) (in_round : c / C.ii ≡ round) (h : Results) (has : HasResults A C n image c h) (t : Task) (is : IsTask A C slot h.rows t) where
  abbrev pub f : UnitFields
  f = fields C t.unit slot

  abbrev pub on_port : ℕ → ℕ
  on_port = λ q. driven (words_in A C n image c (at_cycle A C n image c).past) (slice_get (unit A t.unit).ports q)

  begins_here : begins A C n image t.unit c ≡ begun f n round on_port
  begins_here = ap (λ (s : ℕ). begun (fields C t.unit s) n (c / C.ii) on_port) at ∙ ap (λ (r : ℕ). begun f n r on_port) in_round

  told_right : (turn p a : ℕ) → p < arity t.op → a ≡ unwrap_or (told f p turn) (word_of h (source_at t p)) → a ≡ slice_index (arguments f turn on_port (arity t.op)) p
  told_right turn p a l e =
      let o = is.operands p l in
      e ∙ ap (unwrap_or (told f p turn)) (word_right A C n image slot c h (source_at t p) at has o.readable o.near)
      ∙ sym (o.gives n image c turn at)
      ∙ sym (argument_at f turn on_port (arity t.op) p l)

  rest_right : (turn p a : ℕ) → arity t.op ≤ p → a ≡ word_of h (source_at t p) → a ≡ slice_index (arguments f turn on_port (arity t.op)) p
  rest_right turn p a l e = e ∙ ap (word_of h) (is.rest p l) ∙ sym (argument_past f turn on_port (arity t.op) p l)

  -- from the first warm turn on
  pub warm_right : (turn p a : ℕ) → t.warm ≤ turn → a ≡ word_of h (source_at t p) → a ≡ slice_index (arguments f turn on_port (arity t.op)) p
  warm_right turn p a warm e =
      ⊎_elim
      (λ l. told_right turn p a l (chosen h (told f p turn) (source_at t p) a (λ w told_is. (is.operands p l).warmed turn w warm told_is) e))
      (λ l. rest_right turn p a l e)
      (cases_lt p (arity t.op))

  -- before it
  pub cold_right : (turn p a word : ℕ) → word ≡ word_of h (source_at t p) → (p < arity t.op → a ≡ unwrap_or (told f p turn) word) → (arity t.op ≤ p → a ≡ word) → a ≡ slice_index (arguments f turn on_port (arity t.op)) p
  cold_right turn p a word e told_is rest =
      ⊎_elim
      (λ l. told_right turn p a l (told_is l ∙ ap (unwrap_or (told f p turn)) e))
      (λ l. rest_right turn p a l (rest l ∙ e))
      (cases_lt p (arity t.op))

  module _ (turn : ℕ) (from : t.stage ≤ round) (turn_is : turn ≡ round - t.stage) (few : turn < n) where
    begins_is : begins A C n image t.unit c ≡ Some (on t.op t.port turn (arguments f turn on_port (arity t.op)))
    begins_is =
        let e = is.stage in
        begins_here
        ∙ begun_is f n round on_port t.op (head_of f) refl is.op (omega arith) (omega arith)
        ∙ ap (λ (z : ℕ). let o : Option Work = Some (on t.op f.port z (arguments f z on_port (arity t.op))) in o) (let same : round - f.stage ≡ turn = omega arith in same)
        ∙ ap (λ (z : ℕ). let o : Option Work = Some (on t.op z turn (arguments f turn on_port (arity t.op))) in o) (sym is.port)

    -- the task begins its operation on these operands
    pub task_begins : (args : List ℕ) → length args ≡ 3 → ((p : ℕ) → p < 3 → slice_index args p ≡ slice_index (arguments f turn on_port (arity t.op)) p) →
        (e g : Effects) (x : ℕ) → Begins image (Some (on t.op t.port turn args)) e g x → Begins image (begins A C n image t.unit c) e g x
    task_begins args long right e g x work =
        begins_by image (begins A C n image t.unit c) (Some (on t.op t.port turn (arguments f turn on_port (arity t.op)))) e g x begins_is
        (begins_three t.op t.port turn (arguments f turn on_port (arity t.op)) (slice_index args 0) (slice_index args 1) (slice_index args 2) (right 0 (omega arith)) (right 1 (omega arith)) (right 2 (omega arith)) image e g x
        (subst (λ (z : List ℕ). Begins image (Some (on t.op t.port turn z)) e g x) (three_is args long) work))

  -- or nothing
  pub task_idle : ((turn : ℕ) → t.stage ≤ round → turn ≡ round - t.stage → turn < n → ⊥) → begins A C n image t.unit c ≡ None
  task_idle never =
      let e = is.stage in
      begins_here
      ∙ not_begun f n round on_port t.op (head_of f) refl is.op
      (⊎_elim
      (λ l. inl l)
      (λ l. ⊎_elim (λ k. absurd (never (round - t.stage) (omega arith) refl (omega arith))) (λ k. inr k) (cases_lt round (f.stage + n)))
      (cases_lt round f.stage))
