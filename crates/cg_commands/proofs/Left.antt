-- What commands leave where their outcome came. A command is a case of each.
use Rattle.std.proofs.Common.{◌≡◌, [], ◌∷◌, All, Some, None, Bool, true, false, refl, sym, subst}
use Rattle.cg_effects.specs.declared.outcome.Status.{Status}
use Rattle.cg_effects.specs.declared.outcome.Status.TheVariants.{Done, Memory, Usage, Malformed, Impossible, ReadFault, WriteFault, BudgetSpent, No}
use Rattle.cg_effects.specs.Outcome.{Name, File, Outcome}
use Rattle.cg_effects.specs.Reads.{IsRead, HoldsBytes}
use Rattle.cg_effects.specs.Ends.{Moment, Completed}
use Rattle.cg_command.specs.declared.command.Command.{Command}
use Rattle.cg_command.specs.declared.command.Command.TheVariants.{Turns, TurnsOnImage, Flat, Run, Bound, Check, Emit, Map, Search, Show, Trial, Verilog, Loop, Depend, Simplify, Migrate, Bench, Image, Words, Violations, Why}
use Rattle.cg_command.specs.Files.{names_only}
use Rattle.cg_command.proofs.Maps.{same_option}
use Rattle.cg_command.specs.Command.{inputs_of, listed}
use Rattle.cg_command_run.proofs.TurnsAnswers.{turned_left}
use Rattle.cg_command_run.proofs.OnImage.{ordered_left, unordered_left}
use Rattle.cg_command_run.proofs.FlatAnswers.{flattened_left}
use Rattle.cg_command_run.proofs.RunAnswers.{run_left}
use Rattle.cg_command_run.proofs.Benched.{bench_left}
use Rattle.cg_command_files.proofs.Imaged.{imaged_left}
use Rattle.cg_command_files.proofs.Worded.{worded_left}
use Rattle.cg_command_judge.proofs.Listed.{unviolated_left, violated_left}
use Rattle.cg_command_run.proofs.NetlistAnswers.{netlist_run_left}
use Rattle.cg_command_judge.proofs.Explained.{why_left}
use Rattle.cg_command_judge.proofs.Bounded.{bound_left}
use Rattle.cg_command_judge.proofs.Checked.{legal_left, illegal_left}
use Rattle.cg_command_judge.proofs.Bitstream.{emitted_left, unemitted_left}
use Rattle.cg_command_map.proofs.MapAnswers.{map_left, impossible_left, spent_left}
use Rattle.cg_command_map.proofs.SearchAnswers.{search_left, search_impossible_left, search_spent_left}
use Rattle.cg_command_judge.proofs.Shown.{shown_left, unshown_left}
use Rattle.cg_command_files.proofs.Looped.{looped_left}
use Rattle.cg_commands.proofs.InputsRead.{first, second, third, fourth, first_bytes, second_bytes}
use Rattle.cg_commands.specs.Commands.{IsAnswer, Leaves, LeavesDone, LeavesNo, LeavesImpossible, LeavesSpent}
use Rattle.cg_command_map.specs.Map.{IsMapRun}
use Rattle.cg_command_map.specs.Search.{IsSearchRun}
use Rattle.cg_command_judge.specs.Show.{IsShownRun}
use Rattle.cg_inputs.proofs.Sound.{never}
use Rattle.cg_commands.proofs.Commands.{owns_of, sound}
use Rattle.cg_commands.proofs.Trialed.{trial_left}
use Rattle.cg_command_files.proofs.Netlisted.{netlisted_left}
use Rattle.cg_command_files.proofs.Depended.{depended_left}
use Rattle.cg_command_files.proofs.Simplified.{simplified_left}
use Rattle.cg_command_files.proofs.Migrated.{migrated_left}

-- nothing is said of what a command leaves at a fault or out of memory, or where it refuses a file
abbrev pub is_silent : Status → Bool
is_silent Memory = true
is_silent Malformed = true
is_silent ReadFault = true
is_silent WriteFault = true
is_silent _ = false

pub silent : (command : Command Name Name) (status : Status) (before after : Moment) → is_silent status ≡ true → Leaves command status before after
silent command Done before after h = absurd (cc)
silent command No before after h = absurd (cc)
silent command Impossible before after h = absurd (cc)
silent command BudgetSpent before after h = absurd (cc)
silent command Usage before after h = absurd (cc)
silent command Memory before after h = tt
silent command Malformed before after h = tt
silent command ReadFault before after h = tt
silent command WriteFault before after h = tt

module _ (o : Outcome) (before after : Moment) where
  left_done : (c : Command File Name) → All (IsRead before.held) (inputs_of c) → All HoldsBytes (inputs_of c) → IsAnswer c o → o.status ≡ Done → Completed o before after Done → LeavesDone (names_only c) before after
  left_done (Turns f n) read bytes answer is done = turned_left n f.name f o before after (first before.held f [] read) answer is done
  left_done (TurnsOnImage f n g out) read bytes answer is done =
      ordered_left n f.name g.name out f g o before after (first before.held f (g ∷ []) read) (second before.held f g [] read) answer is done
  left_done (Flat f out) read bytes answer is done = flattened_left f.name out f o before after (first before.held f [] read) answer is done
  left_done (Run call None) read bytes answer is done =
      run_left call.turns call.arch.name call.bits.name call.image.name call.out call.arch call.bits call.image o before after (first before.held call.arch (call.bits ∷ call.image ∷ []) read) (second before.held call.arch call.bits (call.image ∷ []) read)
      (second_bytes call.arch call.bits (call.image ∷ []) bytes) (third before.held call.arch call.bits call.image [] read) answer is done
  left_done (Run call (Some k)) read bytes answer is done =
      netlist_run_left call.turns call.arch.name call.bits.name call.image.name k.name call.out call.arch call.bits call.image k o before after (first before.held call.arch (call.bits ∷ call.image ∷ k ∷ []) read) (second before.held call.arch call.bits (call.image ∷ k ∷ []) read)
      (second_bytes call.arch call.bits (call.image ∷ k ∷ []) bytes) (third before.held call.arch call.bits call.image (k ∷ []) read) (fourth before.held call.arch call.bits call.image k [] read) answer is done
  left_done (Bound f g) read bytes answer is done =
      bound_left f.name g.name f g before after (first before.held f (g ∷ []) read) (second before.held f g [] read) o answer is done
  left_done (Check f g h) read bytes answer is done =
      legal_left f.name g.name h.name f g h before after (first before.held f (g ∷ h ∷ []) read) (second before.held f g (h ∷ []) read) (third before.held f g h [] read) o answer is done
  left_done (Emit f g h out) read bytes answer is done =
      emitted_left f.name g.name h.name out f g h before after (first before.held f (g ∷ h ∷ []) read) (second before.held f g (h ∷ []) read) (third before.held f g h [] read) o answer is done
  left_done (Map c) read bytes answer is done =
      subst (λ m. IsMapRun c.request c.arch.name c.kernel.name (c.out ∷ listed m) before after) (sym (same_option c.mapping))
      (map_left c.request c.arch.name c.kernel.name (c.out ∷ listed c.mapping) c.arch c.kernel before after
      (first before.held c.arch (c.kernel ∷ []) read) (second before.held c.arch c.kernel [] read) o answer is done)
  left_done (Search c) read bytes answer is done =
      subst (λ m. IsSearchRun c.request c.arch.name c.kernel.name (c.out ∷ listed m) before after) (sym (same_option c.mapping))
      (search_left c.request c.arch.name c.kernel.name (c.out ∷ listed c.mapping) c.arch c.kernel before after
      (first before.held c.arch (c.kernel ∷ []) read) (second before.held c.arch c.kernel [] read) o answer is done)
  left_done (Show f g h out) read bytes answer is done =
      subst (λ m. IsShownRun f.name g.name h.name (listed m) before after) (sym (same_option out))
      (shown_left f.name g.name h.name (listed out) f g h before after (first before.held f (g ∷ h ∷ []) read) (second before.held f g (h ∷ []) read) (third before.held f g h [] read) o answer is done)
  left_done (Trial seed) read bytes answer is done = trial_left seed o before after answer is done
  left_done (Verilog f out) read bytes answer is done = netlisted_left f.name out f o before after (first before.held f [] read) answer is done
  left_done (Loop f out) read bytes answer is done = looped_left f.name out f o before after (first before.held f [] read) is done answer
  left_done (Depend f out) read bytes answer is done = depended_left f.name out f o before after (first before.held f [] read) is done answer
  left_done (Simplify f out copies share) read bytes answer is done = simplified_left f.name out f o before after (first before.held f [] read) is done answer
  left_done (Migrate f g out) read bytes answer is done =
      migrated_left f.name g.name out f g o before after (first before.held f (g ∷ []) read) (second before.held f g [] read) (second_bytes f g [] bytes) is done answer
  left_done (Bench call) read bytes answer is done =
      bench_left call.turns call.arch.name call.bits.name call.image.name call.out call.arch call.bits call.image o before after (first before.held call.arch (call.bits ∷ call.image ∷ []) read) (second before.held call.arch call.bits (call.image ∷ []) read)
      (second_bytes call.arch call.bits (call.image ∷ []) bytes) (third before.held call.arch call.bits call.image [] read) answer is done
  left_done (Image f out) read bytes answer is done = imaged_left f.name out f o before after (first before.held f [] read) answer is done
  left_done (Words f) read bytes answer is done = worded_left f.name f o before after (first before.held f [] read) (first_bytes f [] bytes) answer is done
  left_done (Violations f g h) read bytes answer is done =
      unviolated_left f.name g.name h.name f g h before after (first before.held f (g ∷ h ∷ []) read) (second before.held f g (h ∷ []) read) (third before.held f g h [] read) o answer is done
  left_done (Why f g) read bytes answer is done =
      why_left f.name g.name f g before after (first before.held f (g ∷ []) read) (second before.held f g [] read) o answer is done

  left_no : (c : Command File Name) → All (IsRead before.held) (inputs_of c) → IsAnswer c o → o.status ≡ No → Completed o before after No → LeavesNo (names_only c) before after
  left_no (TurnsOnImage f n g out) read answer is done =
      unordered_left n f.name g.name out f g o before after (first before.held f (g ∷ []) read) (second before.held f g [] read) answer is done
  left_no (Check f g h) read answer is done =
      illegal_left f.name g.name h.name f g h before after (first before.held f (g ∷ h ∷ []) read) (second before.held f g (h ∷ []) read) (third before.held f g h [] read) o answer is done
  left_no (Emit f g h out) read answer is done =
      unemitted_left f.name g.name h.name out f g h before after (first before.held f (g ∷ h ∷ []) read) (second before.held f g (h ∷ []) read) (third before.held f g h [] read) o answer is done
  left_no (Show f g h out) read answer is done =
      unshown_left f.name g.name h.name (listed out) f g h before after (first before.held f (g ∷ h ∷ []) read) (second before.held f g (h ∷ []) read) (third before.held f g h [] read) o answer is done
  left_no (Violations f g h) read answer is done =
      violated_left f.name g.name h.name f g h before after (first before.held f (g ∷ h ∷ []) read) (second before.held f g (h ∷ []) read) (third before.held f g h [] read) o answer is done
  left_no c read answer is done = absurd (never (owns_of c) No o (sound c o answer) refl is)

  left_impossible : (c : Command File Name) → All (IsRead before.held) (inputs_of c) → IsAnswer c o → o.status ≡ Impossible → Completed o before after Impossible → LeavesImpossible (names_only c) before after
  left_impossible (Map c) read answer is done =
      impossible_left c.request c.arch.name c.kernel.name (c.out ∷ listed c.mapping) c.arch c.kernel before after
      (first before.held c.arch (c.kernel ∷ []) read) (second before.held c.arch c.kernel [] read) o answer is done
  left_impossible (Search c) read answer is done =
      search_impossible_left c.request c.arch.name c.kernel.name (c.out ∷ listed c.mapping) c.arch c.kernel before after
      (first before.held c.arch (c.kernel ∷ []) read) (second before.held c.arch c.kernel [] read) o answer is done
  left_impossible c read answer is done = absurd (never (owns_of c) Impossible o (sound c o answer) refl is)

  left_spent : (c : Command File Name) → All (IsRead before.held) (inputs_of c) → IsAnswer c o → o.status ≡ BudgetSpent → Completed o before after BudgetSpent → LeavesSpent (names_only c) before after
  left_spent (Map c) read answer is done =
      spent_left c.request c.arch.name c.kernel.name (c.out ∷ listed c.mapping) c.arch c.kernel before after
      (first before.held c.arch (c.kernel ∷ []) read) (second before.held c.arch c.kernel [] read) o answer is done
  left_spent (Search c) read answer is done =
      search_spent_left c.request c.arch.name c.kernel.name (c.out ∷ listed c.mapping) c.arch c.kernel before after
      (first before.held c.arch (c.kernel ∷ []) read) (second before.held c.arch c.kernel [] read) o answer is done
  left_spent c read answer is done = absurd (never (owns_of c) BudgetSpent o (sound c o answer) refl is)

  -- what a command leaves that was carried out
  pub left : (c : Command File Name) (status : Status) → All (IsRead before.held) (inputs_of c) → All HoldsBytes (inputs_of c) → IsAnswer c o → o.status ≡ status → Completed o before after status → Leaves (names_only c) status before after
  left c Done read bytes answer is done = left_done c read bytes answer is done
  left c No read bytes answer is done = left_no c read answer is done
  left c Impossible read bytes answer is done = left_impossible c read answer is done
  left c BudgetSpent read bytes answer is done = left_spent c read answer is done
  left c Usage read bytes answer is done = absurd (never (owns_of c) Usage o (sound c o answer) refl is)
  left c Memory read bytes answer is done = tt
  left c Malformed read bytes answer is done = tt
  left c ReadFault read bytes answer is done = tt
  left c WriteFault read bytes answer is done = tt
