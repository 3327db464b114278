-- What a search over two files leaves, whatever it searches by: the files of a mapping, and why there is none.
use Rattle.std.proofs.Common.{◌≡◌, ◌≢◌, Bool, true, false, cond, List, [], ◌∷◌, Some, None, refl, ◌∙◌, ap, subst}
use Rattle.std.specs.Prelude.{bytes_eq}
use Rattle.std.proofs.lemmas.Slice.Eq.{bytes_eq-Decides}
use Rattle.cg_model.specs.Kernel.{IsKernel}
use Rattle.cg_effects.specs.declared.outcome.Status.{Status}
use Rattle.cg_effects.specs.declared.outcome.Status.TheVariants.{Impossible}
use Rattle.cg_effects.specs.Outcome.{Name, Bytes, File, Outcome}
use Rattle.cg_effects.specs.Ends.{Moment, Completed, Wrote, IsPut}
use Rattle.cg_effects.specs.Refusals.{reports}
use Rattle.cg_files.specs.Held.{Held, Holds}
use Rattle.cg_check.specs.Legal.{Mapped}
use Rattle.cg_bound.specs.declared.interval.Certificate.{Certificate}
use Rattle.cg_bound.specs.Bound.{Shows}
use Rattle.cg_bound.proofs.Intervals.{certifies}
use Rattle.cg_bound.proofs.Legal.{excluded}
use Rattle.cg_intervals.specs.Intervals.{last_tried}
use Rattle.cg_intervals.proofs.Intervals.{shown_forbids}
use Rattle.cg_model.specs.declared.request.Request.{Request}
use Rattle.cg_inputs.specs.Sources.{Pair, GivesPair, HoldPair}
use Rattle.cg_inputs.proofs.Wholes.{one_write}
use Rattle.cg_inputs.proofs.Paired.{valid_pair}
use Rattle.cg_command_map.specs.Searches.{IsImpossibleRun, HoldsMapped, map_writes, mapping_text, impossible_report}

-- after two writes both files are held, but for the first where they have one name
two_writes : (old new : Held) (a b : Name) (x y : Bytes) → Wrote old (record { name = a; bytes = x } ∷ record { name = b; bytes = y } ∷ []) new → (a ≢ b → Holds new a x) × Holds new b y
two_writes (Some old) (Some new) a b x y w =
    let own : (n : Name) → bytes_eq n n ≡ true = λ n. (bytes_eq-Decides n n).1 refl in (
      λ differ. w a ∙ by_name (bytes_eq a b) (λ e. differ ((bytes_eq-Decides a b).0 e)) ∙ ap (λ t. cond t (Some x) (old a)) (own a),
      w b ∙ ap (λ t. cond t (Some y) (cond (bytes_eq b a) (Some x) (old b))) (own b),
    )
  where
    by_name : (t : Bool) → (t ≡ true → ⊥) → cond t (Some y) (cond (bytes_eq a a) (Some x) (old a)) ≡ cond (bytes_eq a a) (Some x) (old a)
    by_name true n = absurd (n refl)
    by_name false n = refl
two_writes (Some old) None a b x y w = absurd w
two_writes None (Some new) a b x y w = absurd w
two_writes None None a b x y w = (λ differ. tt, tt)

pub held_writes : (outs : List Name) (m : Mapped) (bytes : Bytes) (before after : Moment) → Wrote before.held (map_writes outs m bytes) after.held → HoldsMapped outs m bytes after
held_writes [] m bytes before after w = tt
held_writes (out ∷ []) m bytes before after w = one_write before.held after.held out bytes w
held_writes (out ∷ file ∷ []) m bytes before after w = two_writes before.held after.held out file bytes (mapping_text m) w
held_writes (out ∷ file ∷ other ∷ outs) m bytes before after w = tt

module _ (s : Request) (arch kernel : Name) (f g : File) (before after : Moment) (arch_held : Holds before.held arch f.bytes) (kernel_held : Holds before.held kernel g.bytes) where
  pub hold_pair : (p : Pair) → GivesPair f.bytes g.bytes p → HoldPair arch kernel before p
  hold_pair p given = record { arch_bytes = f.bytes; arch_held = arch_held; kernel_bytes = g.bytes; kernel_held = kernel_held; given = given }

  pub put_of : (o p : Outcome) (status : Status) → o ≡ p → Completed o before after status → IsPut p.status p.report before after
  put_of o p status e c = subst (λ z. IsPut z.status z.report before after) e c.put

  pub kept_of : (o p : Outcome) (status : Status) → o ≡ p → Completed o before after status → Wrote before.held p.writes after.held
  kept_of o p status e c = subst (λ z. Wrote before.held z.writes after.held) e c.held

  pub quiet_of : (o p : Outcome) (status : Status) → o ≡ p → p.writes ≡ [] → Completed o before after status → after.write_faults ≡ before.write_faults
  quiet_of o p status e n c = c.no_write (ap (λ z. z.writes) e ∙ n)

  -- the last interval is impossible
  pub left_impossible : (p : Pair) → GivesPair f.bytes g.bytes p → (c : Certificate) (o : Outcome) → Shows p.arch p.kernel (last_tried p.arch s.ii) c
      → o ≡ reports Impossible (impossible_report p s c) → Completed o before after Impossible → IsImpossibleRun s arch kernel before after
  left_impossible p given c o shown e done =
      let good : IsKernel p.kernel = (valid_pair f.bytes g.bytes p given).1 in
      record {
        pair = p;
        read = hold_pair p given;
        certificate = c;
        shown = shown;
        certifies = certifies p.arch p.kernel (last_tried p.arch s.ii) c shown;
        forbidden = shown_forbids p.arch p.kernel (last_tried p.arch s.ii) c shown;
        excludes = λ M at ok. excluded p.arch p.kernel (last_tried p.arch s.ii) good (shown_forbids p.arch p.kernel (last_tried p.arch s.ii) c shown) M at ok;
        put = put_of o (reports Impossible (impossible_report p s c)) Impossible e done;
        kept = kept_of o (reports Impossible (impossible_report p s c)) Impossible e done;
        no_write = quiet_of o (reports Impossible (impossible_report p s c)) Impossible e refl done;
      }
