-- What `loop` answers.
use Rattle.std.proofs.Common.{◌≡◌, ◌≤◌, [], ◌∷◌, length, nat_lt, Bool, true, false, cond, Option, Some, None, Err, refl, sym, ◌∙◌, ap, subst, inl, inr}
use Rattle.std.proofs.lemmas.Bool.{le-ltb, ltb-false}
use Rattle.cg_model.specs.Limits.{most_nodes, most_order_edges}
use Rattle.cg_model.specs.Kernel.{Kernel, size}
use Rattle.cg_files.specs.Held.{Holds, Appends}
use Rattle.cg_effects.specs.declared.outcome.Status.TheVariants.{Done}
use Rattle.cg_effects.specs.Outcome.{Name, File, Outcome}
use Rattle.cg_effects.specs.Ends.{Moment, Completed, Wrote}
use Rattle.cg_kernel_text.specs.Printed.{kernel_text}
use Rattle.cg_kernel_text.proofs.Plain.{answer-kernel_text}
use Rattle.cg_loop_syntax.specs.declared.fault.Excess.{Excess}
use Rattle.cg_loop_syntax.specs.declared.fault.Excess.TheVariants.{Nodes, Order}
use Rattle.cg_loop_syntax.specs.declared.fault.LoopFault.TheVariants.{Memory}
use Rattle.cg_loop_syntax.specs.Loop.{Body}
use Rattle.cg_loop_laws.specs.Translate.{loop_kernel_of}
use Rattle.cg_loop_laws.proofs.Ruled.{body_sound, body_ruled}
use Rattle.cg_loop_laws.proofs.Valid.{valid}
use Rattle.cg_loop_laws.proofs.LoopTurns.{leaves_the_same}
use Rattle.cg_loop_laws.proofs.Edges.{unaliased}
use Rattle.cg_loop_reader.specs.Answer.{Spells}
use Rattle.cg_loop_reader.specs.FaultText.{loop_fault_text}
use Rattle.cg_loop.specs.Excess.{excess_of}
use Rattle.cg_cause.specs.declared.stop.Stop.{Stop}
use Rattle.cg_cause.specs.Allowed.{EndsBy}
use Rattle.cg_inputs.specs.Answered.{WithMemory}
use Rattle.cg_inputs.proofs.Sound.{IsSound, plain, IsNamed}
use Rattle.cg_inputs.proofs.Answered as answered
use Rattle.cg_inputs.proofs.Answered.{sound_answer, named_answer, same_answer, done_answer, some_answer, left_answer, not_done}
use Rattle.cg_inputs.proofs.Both.{only}
use Rattle.cg_inputs.proofs.Parsed.{IsParsing, parsed_reading, told_other, with_memory}
use Rattle.cg_inputs.proofs.Wholes.{whole, one_write}
use Rattle.cg_command_files.specs.Loop.{IsReading, ReadsLoop, RefusesLoop, kernel_outcome_by, kernel_outcome, IsLoopOf, IsTranslatable, IsTranslation, IsLooped}
use Rattle.cg_command_files.proofs.Loops.{spelled_loop}
use Rattle.cg_command_files.proofs.LoopGiven.{one_body, not_both, some_reading}

-- ---- what is read

loop_parsing : (file : File) → IsParsing (WithMemory (IsReading file.bytes) Memory)
loop_parsing file =
    let r = some_reading file.bytes in
    record {
      one = one_body file.bytes;
      apart = λ P f s e. not_both file.bytes P f e.1 s e.0;
      some = (r.0, with_memory (IsReading file.bytes) Memory r.0 r.1.0 r.1.1);
    }

loop_reading : (file : File) → answered.IsReading (ReadsLoop file)
loop_reading file = parsed_reading (WithMemory (IsReading file.bytes) Memory) loop_fault_text file.name (loop_parsing file)

pub loop_told : (file : File) (s : Stop) → EndsBy (RefusesLoop file) s → EndsBy (λ o. ReadsLoop file (Err o)) s
loop_told file = told_other (IsReading file.bytes) loop_fault_text file.name Memory

-- ---- kernels within the limits

no_excess : (K : Kernel) → size K ≤ most_nodes → length K.order ≤ most_order_edges → excess_of K ≡ None
no_excess K few few_edges =
    ap (λ b. cond b (Some (Nodes (size K))) (cond (nat_lt most_order_edges (length K.order)) (Some (Order (length K.order))) None)) (le-ltb most_nodes (size K) few)
    ∙ ap (λ b. cond b (Some (Order (length K.order))) None) (le-ltb most_order_edges (length K.order) few_edges)

neither : (b c : Bool) (x y : Excess) → cond b (Some x) (cond c (Some y) None) ≡ None → (b ≡ false) × (c ≡ false)
neither true c x y h = cc
neither false true x y h = cc
neither false false x y h = (refl, refl)

within : (K : Kernel) → excess_of K ≡ None → (size K ≤ most_nodes) × (length K.order ≤ most_order_edges)
within K h =
    let w = neither (nat_lt most_nodes (size K)) (nat_lt most_order_edges (length K.order)) (Nodes (size K)) (Order (length K.order)) h in
    (ltb-false most_nodes (size K) w.0, ltb-false most_order_edges (length K.order) w.1)

-- ---- status and writes

sound_kernel : (file out : Name) (K : Kernel) (x : Option Excess) → IsSound plain (kernel_outcome_by file out K x)
sound_kernel file out K None = record { own = refl; quiet = λ h. cc }
sound_kernel file out K (Some x) = record { own = refl; quiet = λ h. refl }

named_kernel : (file out : Name) (K : Kernel) (x : Option Excess) → IsNamed (out ∷ []) (kernel_outcome_by file out K x)
named_kernel file out K None = inl refl
named_kernel file out K (Some x) = inr refl

module _ (file : File) (out : Name) where
  pub same_loop : (a b : Outcome) → IsLoopOf file out a → IsLoopOf file out b → a.status ≡ b.status
  same_loop a b p q = same_answer (ReadsLoop file) (IsTranslation file.name out) (loop_reading file) (λ P a b x y. ap (λ z. z.status) (x ∙ sym y)) a b p q

  pub some_loop : (o : Outcome) × IsLoopOf file out o
  some_loop = some_answer (ReadsLoop file) (IsTranslation file.name out) (loop_reading file) (λ P is. (kernel_outcome file.name out (loop_kernel_of P), refl))

  pub sound_loop : (o : Outcome) → IsLoopOf file out o → IsSound plain o
  sound_loop o p =
      sound_answer (ReadsLoop file) (IsTranslation file.name out) (loop_reading file) plain refl
      (λ P o e. subst (IsSound plain) (sym e) (sound_kernel file.name out (loop_kernel_of P) (excess_of (loop_kernel_of P)))) o p

  pub named_loop : (o : Outcome) → IsLoopOf file out o → IsNamed (out ∷ []) o
  named_loop o p =
      named_answer (ReadsLoop file) (IsTranslation file.name out) (loop_reading file) (out ∷ [])
      (λ P o e. subst (IsNamed (out ∷ [])) (sym e) (named_kernel file.name out (loop_kernel_of P) (excess_of (loop_kernel_of P)))) o p

  -- what the command takes to its end
  pub accepted_loop : (o : Outcome) → IsTranslatable file → IsLoopOf file out o → o.status ≡ Done
  accepted_loop o a p =
      let is = only (ReadsLoop file) (loop_reading file) a.body a.spelled in
      ap (λ y. y.status)
      (done_answer (ReadsLoop file) (IsTranslation file.name out) (loop_reading file) a.body is o p ∙ ap (kernel_outcome_by file.name out (loop_kernel_of a.body)) (no_excess (loop_kernel_of a.body) a.few a.few_edges))

-- ---- what is left

module _ (file out : Name) (f : File) (o : Outcome) (before after : Moment) (held : Holds before.held file f.bytes) (done : o.status ≡ Done) (c : Completed o before after Done) where
  looped_kernel : (P : Body) (x : Option Excess) → Spells f.bytes P → excess_of (loop_kernel_of P) ≡ x → o ≡ kernel_outcome_by f.name out (loop_kernel_of P) x → IsLooped file out before after
  looped_kernel P (Some x) spelled excess is = absurd (not_done o done (ap (λ y. y.status) is))
  looped_kernel P None spelled excess is =
      let loop = spelled_loop f.bytes P spelled in
      let sound = body_sound P loop in
      let few = within (loop_kernel_of P) excess in
      let good = valid P sound (body_ruled P loop) few.0 few.1 in
      record {
        bytes = f.bytes;
        held = held;
        body = P;
        spelled = spelled;
        kernel = loop_kernel_of P;
        is = refl;
        valid = good;
        same = λ n image room. leaves_the_same P n image sound room;
        free = λ n image. unaliased P n image sound;
        read_back = answer-kernel_text (loop_kernel_of P) good;
        written = one_write before.held after.held out (kernel_text (loop_kernel_of P)) (subst (λ fs. Wrote before.held fs after.held) (ap (λ y. y.writes) is) c.held);
        put = subst (λ report. Appends before.taken report after.taken) (ap (λ y. y.report) is) (whole o.status o.report before after done c.put);
      }

  pub looped_left : IsLoopOf f out o → IsLooped file out before after
  looped_left p =
      left_answer (ReadsLoop f) (IsTranslation f.name out) (loop_reading f) (IsLooped file out before after) o
      (λ P is e. looped_kernel P (excess_of (loop_kernel_of P)) is refl e) p (not_done o done)
