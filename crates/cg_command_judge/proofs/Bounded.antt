-- What `bound` answers.
use Rattle.std.proofs.Common.{◌≡◌, ℕ, ◌≤◌, [], ◌∷◌, Option, Some, None, Ok, refl, sym, ◌∙◌, ap, subst, inr}
use Rattle.cg_model.specs.Array.{Arch}
use Rattle.cg_model.specs.Kernel.{Kernel}
use Rattle.cg_effects.specs.declared.outcome.Status.TheVariants.{Done}
use Rattle.cg_effects.specs.Outcome.{Name, File, Outcome}
use Rattle.cg_effects.specs.Ends.{Moment, Completed}
use Rattle.cg_effects.specs.Refusals.{reports}
use Rattle.cg_files.specs.Held.{Holds, Appends}
use Rattle.cg_bound.specs.declared.interval.Certificate.{Certificate}
use Rattle.cg_bound.specs.declared.interval.Certificate.TheVariants.{Cycle, Class}
use Rattle.cg_bound.specs.Bound.{IsBoundBy, IsForbidden, ShowsUnoffered}
use Rattle.cg_bound.proofs.Always.{some_bound}
use Rattle.cg_bound.proofs.Legal.{excluded}
use Rattle.cg_bound.proofs.Offers.{never_open}
use Rattle.cg_inputs.specs.Sources.{Pair, ArePaired}
use Rattle.cg_command_judge.specs.Bound.{IsBoundOf, IsBounded, IsPairInput, IsBelow, IsBoundRun, bound_report}
use Rattle.cg_inputs.proofs.Sound.{IsSound, plain}
use Rattle.cg_inputs.proofs.Wholes.{whole}
use Rattle.cg_inputs.proofs.Answered.{sound_answer, quiet_answer, same_answer, done_answer, some_answer, left_answer, not_done}
use Rattle.cg_inputs.proofs.Paired.{pair_is, valid_pair, pair_reading}

-- ---- status and writes

pub sound_bound : (arch kernel : File) (o : Outcome) → IsBoundOf arch kernel o → IsSound plain o
sound_bound arch kernel o b =
    sound_answer (ArePaired arch kernel) IsBounded (pair_reading arch kernel) plain refl (λ p o b. subst (IsSound plain) (sym b.outcome) (record { own = refl; quiet = λ h. refl })) o b

pub quiet_bound : (arch kernel : File) (o : Outcome) → IsBoundOf arch kernel o → o.writes ≡ []
quiet_bound arch kernel o b = quiet_answer (ArePaired arch kernel) IsBounded (pair_reading arch kernel) (λ p o b. ap (λ x. x.writes) b.outcome) o b

pub same_bound : (arch kernel : File) (a b : Outcome) → IsBoundOf arch kernel a → IsBoundOf arch kernel b → a.status ≡ b.status
same_bound arch kernel a b p q =
    same_answer (ArePaired arch kernel) IsBounded (pair_reading arch kernel) (λ p a b x y. ap (λ z. z.status) x.outcome ∙ sym (ap (λ z. z.status) y.outcome)) a b p q

-- ---- what is accepted

pub accepted_bound : (arch kernel : File) (o : Outcome) → IsPairInput arch kernel → IsBoundOf arch kernel o → o.status ≡ Done
accepted_bound arch kernel o a b =
    ap (λ x. x.status) (done_answer (ArePaired arch kernel) IsBounded (pair_reading arch kernel) a.pair (λ r is. pair_is arch kernel a.pair r a.given is) o b).outcome

-- ---- what there is

pub some_bounding : (arch kernel : File) → (o : Outcome) × IsBoundOf arch kernel o
some_bounding arch kernel = some_answer (ArePaired arch kernel) IsBounded (pair_reading arch kernel) (λ p given.
    let (valid, good) = valid_pair arch.bytes kernel.bytes p given in
    let b = some_bound p.arch p.kernel valid good in
    (reports Done (bound_report p b.0), record { least = b.0; is_least = b.1; outcome = refl }))

-- ---- what is left

-- what is shown where an operation is unoffered forbids every interval
forbidden_by : (A : Arch) (K : Kernel) (ii : ℕ) (c : Certificate) → ShowsUnoffered A K c → IsForbidden A K ii
forbidden_by A K ii (Cycle ids) s = absurd s
forbidden_by A K ii (Class set) (op, first, same) = inr (op ∷ [], never_open A K op first.unoffered ii)

below_forbidden : (A : Arch) (K : Kernel) (mii : Option ℕ) (below : Option Certificate) → IsBoundBy A K mii below → (ii : ℕ) → 1 ≤ ii → IsBelow mii ii → IsForbidden A K ii
below_forbidden A K (Some m) below (all, mii, shown) ii p l = mii.below ii p l
below_forbidden A K None (Some c) b ii p l = forbidden_by A K ii c b
below_forbidden A K None None b ii p l = absurd b

module _ (arch kernel : Name) (f g : File) (before after : Moment) (arch_held : Holds before.held arch f.bytes) (kernel_held : Holds before.held kernel g.bytes) where
  left_by : (p : Pair) (o : Outcome) → ArePaired f g (Ok p) → IsBounded p o → o.status ≡ Done → Completed o before after Done → IsBoundRun arch kernel before after
  left_by p o given b done c =
      record {
        pair = p;
        read = record { arch_bytes = f.bytes; arch_held = arch_held; kernel_bytes = g.bytes; kernel_held = kernel_held; given = given };
        least = b.least;
        is_least = b.is_least;
        excludes = λ ii some low M at legal. excluded p.arch p.kernel ii (valid_pair f.bytes g.bytes p given).1 (below_forbidden p.arch p.kernel b.least.mii b.least.below b.is_least ii some low) M at legal;
        put = subst (λ report. Appends before.taken report after.taken) (ap (λ x. x.report) b.outcome) (whole o.status o.report before after done c.put);
      }

  pub bound_left : (o : Outcome) → IsBoundOf f g o → o.status ≡ Done → Completed o before after Done → IsBoundRun arch kernel before after
  bound_left o b done c =
      left_answer (ArePaired f g) IsBounded (pair_reading f g) (IsBoundRun arch kernel before after) o (λ p given d. left_by p o given d done c) b (not_done o done)
