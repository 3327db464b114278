-- What `depend` answers.
use Rattle.std.proofs.Common.{◌≡◌, ◌≤◌, List, [], ◌∷◌, nat_lt, Bool, true, false, cond, Ok, refl, sym, ◌∙◌, ap, subst, inl, inr}
use Rattle.std.proofs.lemmas.Bool.{le-ltb, ltb-false}
use Rattle.cg_model.specs.Limits.{most_order_edges}
use Rattle.cg_model.specs.Kernel.{Kernel}
use Rattle.cg_model.specs.declared.kernel.OrderEdge.{OrderEdge}
use Rattle.cg_files.specs.Held.{Holds, Appends}
use Rattle.cg_effects.specs.declared.outcome.Status.TheVariants.{Done}
use Rattle.cg_effects.specs.Outcome.{Name, File, Outcome}
use Rattle.cg_effects.specs.Ends.{Moment, Completed, Wrote}
use Rattle.cg_kernel.specs.Answer.{answer_of}
use Rattle.cg_kernel.proofs.Spelled.{spelled_valid}
use Rattle.cg_kernel_text.specs.Printed.{kernel_text}
use Rattle.cg_kernel_text.proofs.Plain.{answer-kernel_text}
use Rattle.cg_depend.specs.Depend.{AreNeeded, with_order}
use Rattle.cg_depend.proofs.Always.{some_list}
use Rattle.cg_depend.proofs.Ordered.{same_left, unaliased}
use Rattle.cg_depend.proofs.Unique.{one_list}
use Rattle.cg_depend.proofs.Valid.{kernel_valid}
use Rattle.cg_inputs.specs.Readings.{ReadsKernel}
use Rattle.cg_inputs.proofs.Sound.{IsSound, plain, IsNamed}
use Rattle.cg_inputs.proofs.Answered.{sound_answer, named_answer, same_answer, done_answer, some_answer, left_answer, not_done}
use Rattle.cg_inputs.proofs.Both.{only}
use Rattle.cg_inputs.proofs.Readings.{kernel_reading}
use Rattle.cg_inputs.proofs.Wholes.{whole, one_write}
use Rattle.cg_command_files.specs.Depend.{DependOf, IsDependOf, IsDependable, IsDepended, depend_by_edges, depended, too_many, order_with}

-- ---- the number of edges

module _ (file out : Name) (K : Kernel) (es : List OrderEdge) where
  -- what holds of the new kernel and of the refusal
  each_edges : (P : Outcome → Type 0) → P (depended K es out) → P (too_many file K es) → P (depend_by_edges file out K es)
  each_edges P done refused = by (nat_lt most_order_edges (order_with K es))
    where
      by : (b : Bool) → P (cond b (too_many file K es) (depended K es out))
      by true = refused
      by false = done

  -- few enough edges are written
  few_done : order_with K es ≤ most_order_edges → depend_by_edges file out K es ≡ depended K es out
  few_done few = ap (λ b. cond b (too_many file K es) (depended K es out)) (le-ltb most_order_edges (order_with K es) few)

-- ---- status and writes

module _ (file : File) (out : Name) where
  same_edges : (K : Kernel) (a b : Outcome) → DependOf file.name out K a → DependOf file.name out K b → a.status ≡ b.status
  same_edges K a b x y = ap (λ z. z.status) (x.2 ∙ ap (depend_by_edges file.name out K) (one_list K x.0 y.0 x.1 y.1) ∙ sym y.2)

  pub same_depend : (a b : Outcome) → IsDependOf file out a → IsDependOf file out b → a.status ≡ b.status
  same_depend a b p q = same_answer (ReadsKernel file) (DependOf file.name out) (kernel_reading file) same_edges a b p q

  pub sound_depend : (o : Outcome) → IsDependOf file out o → IsSound plain o
  sound_depend o p =
      sound_answer (ReadsKernel file) (DependOf file.name out) (kernel_reading file) plain refl
      (λ K o x. subst (IsSound plain) (sym x.2) (each_edges file.name out K x.0 (IsSound plain) (record { own = refl; quiet = λ h. cc }) (record { own = refl; quiet = λ h. refl }))) o p

  pub named_depend : (o : Outcome) → IsDependOf file out o → IsNamed (out ∷ []) o
  named_depend o p =
      named_answer (ReadsKernel file) (DependOf file.name out) (kernel_reading file) (out ∷ [])
      (λ K o x. subst (IsNamed (out ∷ [])) (sym x.2) (each_edges file.name out K x.0 (IsNamed (out ∷ [])) (inl refl) (inr refl))) o p

  pub accepted_depend : (o : Outcome) → IsDependable file → IsDependOf file out o → o.status ≡ Done
  accepted_depend o a p =
      let is = only (ReadsKernel file) (kernel_reading file) a.kernel a.kernel_is in
      let x : DependOf file.name out a.kernel o = done_answer (ReadsKernel file) (DependOf file.name out) (kernel_reading file) a.kernel is o p in
      ap (λ z. z.status) (x.2 ∙ ap (depend_by_edges file.name out a.kernel) (one_list a.kernel x.0 a.edges x.1 a.needed) ∙ few_done file.name out a.kernel a.edges a.few)

  pub some_depend : (o : Outcome) × IsDependOf file out o
  some_depend =
      some_answer (ReadsKernel file) (DependOf file.name out) (kernel_reading file)
      (λ K is. let es = some_list K (spelled_valid file.bytes K is) in (depend_by_edges file.name out K es.0, (es.0, es.1, refl)))

-- ---- what is left

module _ (file out : Name) (f : File) (o : Outcome) (before after : Moment) (held : Holds before.held file f.bytes) (done : o.status ≡ Done) (c : Completed o before after Done) where
  depended_edges : (K : Kernel) (es : List OrderEdge) (b : Bool) → nat_lt most_order_edges (order_with K es) ≡ b → answer_of f.bytes ≡ Ok K → AreNeeded K es → o ≡ cond b (too_many f.name K es) (depended K es out) → IsDepended file out before after
  depended_edges K es true few spelled needed is = absurd (not_done o done (ap (λ x. x.status) is))
  depended_edges K es false few spelled needed is =
      let valid = spelled_valid f.bytes K spelled in
      let good = kernel_valid K es valid needed (ltb-false most_order_edges (order_with K es) few) in
      record {
        bytes = f.bytes;
        held = held;
        kernel = K;
        spelled = spelled;
        edges = es;
        needed = needed;
        depended = with_order K es;
        is = refl;
        valid = good;
        same = λ n image. same_left K (with_order K es) n image (es, refl, needed);
        free = λ n image few. unaliased K (with_order K es) n image valid.wired (es, refl, needed) few;
        read_back = answer-kernel_text (with_order K es) good;
        written = one_write before.held after.held out (kernel_text (with_order K es)) (subst (λ fs. Wrote before.held fs after.held) (ap (λ x. x.writes) is) c.held);
        put = subst (λ report. Appends before.taken report after.taken) (ap (λ x. x.report) is) (whole o.status o.report before after done c.put);
      }

  pub depended_left : IsDependOf f out o → IsDepended file out before after
  depended_left p =
      left_answer (ReadsKernel f) (DependOf f.name out) (kernel_reading f) (IsDepended file out before after) o
      (λ K is x. depended_edges K x.0 (nat_lt most_order_edges (order_with K x.0)) refl is x.1 x.2) p (not_done o done)
