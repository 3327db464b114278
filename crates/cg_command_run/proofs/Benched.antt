-- What `bench` answers.
use Rattle.std.proofs.Common.{◌≡◌, ℕ, [], ◌∷◌, refl, ap, subst, inl}
use Rattle.cg_model.specs.Machine.{machine_left}
use Rattle.cg_files.specs.Held.{Holds, Appends}
use Rattle.cg_effects.specs.declared.outcome.Status.TheVariants.{Done}
use Rattle.cg_effects.specs.Outcome.{Name, File, Outcome}
use Rattle.cg_effects.specs.Ends.{Moment, Completed, Wrote}
use Rattle.cg_bits.specs.Ranges.{IsBytes}
use Rattle.cg_inputs.proofs.Sound.{IsSound, plain, IsNamed}
use Rattle.cg_inputs.proofs.Arrays.{valid_array}
use Rattle.cg_inputs.proofs.Wholes.{whole, one_write}
use Rattle.cg_command_run.specs.Run.{IsRunnable}
use Rattle.cg_command_run.proofs.RunAnswers.{sound_array, named_array, accepted_array, same_array_command, some_array_command, array_left, hold_start, leaves_turns}
use Rattle.cg_testbench.specs.Bench.{bench_text}
use Rattle.cg_command_run.specs.Bench.{IsBench, IsBenchRun, benched}

pub sound_bench : (n : ℕ) (arch file input : File) (out : Name) (o : Outcome) → IsBench n arch file input out o → IsSound plain o
sound_bench n arch file input out o p = sound_array (benched n out) arch file input (λ A C image. record { own = refl; quiet = λ h. cc }) o p

pub accepted_bench : (n : ℕ) (arch file input : File) (out : Name) (o : Outcome) → IsRunnable arch file input → IsBench n arch file input out o → o.status ≡ Done
accepted_bench n arch file input out o a p = accepted_array (benched n out) arch file input (λ A C image. refl) o a p

pub named_bench : (n : ℕ) (arch file input : File) (out : Name) (o : Outcome) → IsBench n arch file input out o → IsNamed (out ∷ []) o
named_bench n arch file input out o p = named_array (benched n out) arch file input (out ∷ []) (λ A C image. inl refl) o p

pub same_bench : (n : ℕ) (arch file input : File) (out : Name) (a b : Outcome) → IsBench n arch file input out a → IsBench n arch file input out b → a.status ≡ b.status
same_bench n arch file input out a b p q = same_array_command (benched n out) arch file input a b p q

pub some_bench : (n : ℕ) (arch file input : File) (out : Name) → (o : Outcome) × IsBench n arch file input out o
some_bench n arch file input out = some_array_command (benched n out) arch file input

pub bench_left : (n : ℕ) (arch file input out : Name) (f g h : File) (o : Outcome) (before after : Moment)
    → Holds before.held arch f.bytes → Holds before.held file g.bytes → IsBytes g.bytes → Holds before.held input h.bytes → IsBench n f g h out o → o.status ≡ Done
    → Completed o before after Done → IsBenchRun n arch file input out before after
bench_left n arch file input out f g h o before after arch_held held bytes image_held p done c =
    array_left (benched n out) f g h (IsBenchRun n arch file input out before after) o done
    (λ s is fits e. record {
      read = hold_start arch file input f g h before arch_held held bytes image_held s is fits;
      written = one_write before.held after.held out (bench_text s.0.0 s.0.1 n s.1 (machine_left s.0.0 s.0.1 n s.1)) (subst (λ fs. Wrote before.held fs after.held) (ap (λ x. x.writes) e) c.held);
      put = subst (λ report. Appends before.taken report after.taken) (ap (λ x. x.report) e) (whole o.status o.report before after done c.put);
      turns = leaves_turns s.0.0 n s.1 s.0.1 g.bytes (valid_array f.bytes s.0.0 is.0.0) is.0.1;
    })
    p
