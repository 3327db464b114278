-- What `why` answers.
use Rattle.std.proofs.Common.{◌≡◌, ℕ, ◌≤◌, [], Option, Some, None, Ok, refl, sym, ◌∙◌, ap, subst, arith}
use Rattle.cg_model.specs.Array.{Arch}
use Rattle.cg_model.specs.Kernel.{Kernel, IsKernel}
use Rattle.cg_model.specs.Mapping.{Mapping, IsLegal}
use Rattle.cg_effects.specs.declared.outcome.Status.TheVariants.{Done}
use Rattle.cg_effects.specs.Outcome.{Name, File, Outcome}
use Rattle.cg_effects.specs.Ends.{Moment, Completed}
use Rattle.cg_effects.specs.Refusals.{reports}
use Rattle.cg_files.specs.Held.{Holds, Appends}
use Rattle.cg_inputs.specs.Sources.{Pair, ArePaired}
use Rattle.cg_command_judge.specs.Bound.{IsPairInput, IsBelow}
use Rattle.cg_bound_all.specs.declared.numbers.HopTables.{HopTables}
use Rattle.cg_bound_all.specs.declared.why.Why.{Why}
use Rattle.cg_bound_all.specs.Why.{AreAllNumbers, IsImpossible, IsLeastWithout, IsWhy, hops_at}
use Rattle.cg_bound_all.proofs.Always.{some_why}
use Rattle.cg_bound_all.proofs.Reasons.{none_excludes, numbers_for}
use Rattle.cg_bound_text.specs.Text.{why_text}
use Rattle.cg_command_judge.specs.Why.{IsWhyOf, IsExplained, IsWhyRun}
use Rattle.cg_inputs.proofs.Sound.{IsSound, plain}
use Rattle.cg_inputs.proofs.Wholes.{whole}
use Rattle.cg_inputs.proofs.Answered.{sound_answer, quiet_answer, same_answer, done_answer, some_answer, left_answer, not_done}
use Rattle.cg_inputs.proofs.Paired.{pair_is, valid_pair, pair_reading}

-- ---- status and writes

pub sound_why : (arch kernel : File) (o : Outcome) → IsWhyOf arch kernel o → IsSound plain o
sound_why arch kernel o w =
    sound_answer (ArePaired arch kernel) IsExplained (pair_reading arch kernel) plain refl (λ p o e. subst (IsSound plain) (sym e.outcome) (record { own = refl; quiet = λ h. refl })) o w

pub quiet_why : (arch kernel : File) (o : Outcome) → IsWhyOf arch kernel o → o.writes ≡ []
quiet_why arch kernel o w = quiet_answer (ArePaired arch kernel) IsExplained (pair_reading arch kernel) (λ p o e. ap (λ x. x.writes) e.outcome) o w

pub same_why : (arch kernel : File) (a b : Outcome) → IsWhyOf arch kernel a → IsWhyOf arch kernel b → a.status ≡ b.status
same_why arch kernel a b p q =
    same_answer (ArePaired arch kernel) IsExplained (pair_reading arch kernel) (λ p a b x y. ap (λ z. z.status) x.outcome ∙ sym (ap (λ z. z.status) y.outcome)) a b p q

-- ---- what is accepted

pub accepted_why : (arch kernel : File) (o : Outcome) → IsPairInput arch kernel → IsWhyOf arch kernel o → o.status ≡ Done
accepted_why arch kernel o a w =
    ap (λ x. x.status) (done_answer (ArePaired arch kernel) IsExplained (pair_reading arch kernel) a.pair (λ r is. pair_is arch kernel a.pair r a.given is) o w).outcome

-- ---- what there is

pub some_whying : (arch kernel : File) → (o : Outcome) × IsWhyOf arch kernel o
some_whying arch kernel = some_answer (ArePaired arch kernel) IsExplained (pair_reading arch kernel) (λ p given.
    let (valid, good) = valid_pair arch.bytes kernel.bytes p given in
    let (w, is) = some_why p.arch p.kernel valid good in
    (reports Done (why_text p.arch p.kernel w), record { why = w; is_why = is; outcome = refl }))

-- ---- what is left

below_impossible : (P : ℕ → Type 0) (most : ℕ) (least : Option ℕ) → IsLeastWithout P most least → (ii : ℕ) → 1 ≤ ii → ii ≤ most → IsBelow least ii → P ii
below_impossible P most (Some l) (some, few, free, each) ii one within below = each ii one below
below_impossible P most None each ii one within below = each ii one within

module _ (A : Arch) (K : Kernel) (M : Mapping) (good : IsKernel K) (legal : IsLegal A K M) where
  not_impossible : (f : HopTables) → AreAllNumbers A K f → IsImpossible A K f M.ii → ⊥
  not_impossible f all (kind, h) = none_excludes A K M (hops_at f M.ii) good legal (numbers_for A K f M.ii (let a = legal.interval in omega arith) all).tables kind h

  not_below : (w : Why) → IsWhy A K w → IsBelow w.least.interval M.ii → ⊥
  not_below w is below =
      not_impossible w.tables is.tables
      (below_impossible (IsImpossible A K w.tables) A.contexts w.least.interval is.least.least M.ii (let a = legal.interval in omega arith) legal.contexts below)

module _ (arch kernel : Name) (f g : File) (before after : Moment) (arch_held : Holds before.held arch f.bytes) (kernel_held : Holds before.held kernel g.bytes) where
  left_by : (p : Pair) (o : Outcome) → ArePaired f g (Ok p) → IsExplained p o → o.status ≡ Done → Completed o before after Done → IsWhyRun arch kernel before after
  left_by p o given e done c =
      record {
        pair = p;
        read = record { arch_bytes = f.bytes; arch_held = arch_held; kernel_bytes = g.bytes; kernel_held = kernel_held; given = given };
        why = e.why;
        is_why = e.is_why;
        excludes = λ M low legal. not_below p.arch p.kernel M (valid_pair f.bytes g.bytes p given).1 legal e.why e.is_why low;
        put = subst (λ report. Appends before.taken report after.taken) (ap (λ x. x.report) e.outcome) (whole o.status o.report before after done c.put);
      }

  pub why_left : (o : Outcome) → IsWhyOf f g o → o.status ≡ Done → Completed o before after Done → IsWhyRun arch kernel before after
  why_left o w done c =
      left_answer (ArePaired f g) IsExplained (pair_reading f g) (IsWhyRun arch kernel before after) o (λ p given d. left_by p o given d done c) w (not_done o done)
