-- Facts of the commands' definitions. A command is a case of each.
use Rattle.std.proofs.Common.{◌≡◌, Bool, true, false, List, [], ◌∷◌, Some, None, refl, subst, inl, inr}
use Rattle.cg_effects.specs.declared.outcome.Status.{Status}
use Rattle.cg_effects.specs.declared.outcome.Status.TheVariants.{Done, Impossible}
use Rattle.cg_effects.specs.Outcome.{Name, File, Outcome, names_of}
use Rattle.cg_command.specs.declared.command.Command.{Command}
use Rattle.cg_command.specs.declared.command.Command.TheVariants.{Turns, TurnsOnImage, Flat, Run, Bound, Check, Emit, Map, Search, Show, Trial, Verilog, Loop, Depend, Simplify, Migrate, Bench, Image, Words, Violations, Why}
use Rattle.cg_command.specs.Command.{listed, outputs_of, command_map}
use Rattle.cg_inputs.proofs.Sound.{owns, IsSound, IsNamed}
use Rattle.cg_command_run.proofs.TurnsAnswers.{same_turns, sound_turns, quiet_turns, accepted_turns}
use Rattle.cg_command_run.proofs.OnImage.{same_on_image, sound_on_image, accepted_on_image, named_on_image}
use Rattle.cg_command_run.proofs.FlatAnswers.{same_flat, sound_flat, accepted_flat, named_flat}
use Rattle.cg_command_run.proofs.RunAnswers.{same_run, sound_run, accepted_run, named_run}
use Rattle.cg_command_run.proofs.NetlistAnswers.{same_netlist_run, sound_netlist_run, accepted_netlist_run, named_netlist_run}
use Rattle.cg_command_run.proofs.Benched.{same_bench, sound_bench, accepted_bench, named_bench}
use Rattle.cg_command_files.proofs.Imaged.{same_image, sound_image, accepted_image, named_image}
use Rattle.cg_command_files.proofs.Worded.{same_words, sound_words, accepted_words, quiet_words}
use Rattle.cg_command_judge.proofs.Listed.{same_violations, sound_violations, accepted_violations, quiet_violations}
use Rattle.cg_command_judge.proofs.Explained.{same_why, sound_why, accepted_why, quiet_why}
use Rattle.cg_command_judge.proofs.Bounded.{same_bound, sound_bound, accepted_bound, quiet_bound}
use Rattle.cg_command_judge.proofs.Checked.{same_check, sound_check, accepted_check, quiet_check}
use Rattle.cg_command_judge.proofs.Bitstream.{same_emit, sound_emit, accepted_emit, named_emit}
use Rattle.cg_command_map.proofs.MapAnswers.{same_map, sound_map, accepted_map, forbidden_map, named_map}
use Rattle.cg_command_map.proofs.SearchAnswers.{agree_search, sound_search, accepted_search, forbidden_search, named_search}
use Rattle.cg_command_judge.proofs.Shown.{same_show, sound_show, accepted_show, named_show}
use Rattle.cg_command_files.proofs.Looped.{same_loop, sound_loop, accepted_loop, named_loop}
use Rattle.cg_commands.specs.Commands.{IsAnswer, Accepts, Forbids, AgreeIn}
use Rattle.cg_commands.proofs.Trialed.{same_trial, sound_trial, accepted_trial, quiet_trial}
use Rattle.cg_command_files.proofs.Netlisted.{same_verilog, sound_verilog, accepted_verilog, named_verilog}
use Rattle.cg_command_files.proofs.Depended.{same_depend, sound_depend, accepted_depend, named_depend}
use Rattle.cg_command_files.proofs.Simplified.{same_simplify, sound_simplify, accepted_simplify, named_simplify}
use Rattle.cg_command_files.proofs.Migrated.{same_migrate, sound_migrate, accepted_migrate, named_migrate}

-- where the outcome may be chosen, its status may not, but that of `search`
pub agree_in : (c : Command File Name) (a b : Outcome) → IsAnswer c a → IsAnswer c b → AgreeIn c a.status b.status
agree_in (Turns f n) a b p q = same_turns n f a b p q
agree_in (TurnsOnImage f n g out) a b p q = same_on_image n f g out a b p q
agree_in (Flat f out) a b p q = same_flat f out a b p q
agree_in (Run call None) a b p q = same_run call.turns call.arch call.bits call.image call.out a b p q
agree_in (Run call (Some k)) a b p q = same_netlist_run call.turns call.arch call.bits call.image k call.out a b p q
agree_in (Bound f g) a b p q = same_bound f g a b p q
agree_in (Check f g h) a b p q = same_check f g h a b p q
agree_in (Emit f g h out) a b p q = same_emit f g h out a b p q
agree_in (Map call) a b p q = same_map call.request call.arch call.kernel (call.out ∷ listed call.mapping) a b p q
agree_in (Search call) a b p q = agree_search call.request call.arch call.kernel (call.out ∷ listed call.mapping) a b p q
agree_in (Show f g h out) a b p q = same_show f g h (listed out) a b p q
agree_in (Trial seed) a b p q = same_trial seed a b p q
agree_in (Verilog f out) a b p q = same_verilog f out a b p q
agree_in (Loop f out) a b p q = same_loop f out a b p q
agree_in (Depend f out) a b p q = same_depend f out a b p q
agree_in (Simplify f out copies share) a b p q = same_simplify f out a b p q
agree_in (Migrate f g out) a b p q = same_migrate f g out a b p q
agree_in (Bench call) a b p q = same_bench call.turns call.arch call.bits call.image call.out a b p q
agree_in (Image f out) a b p q = same_image f out a b p q
agree_in (Words f) a b p q = same_words f a b p q
agree_in (Violations f g h) a b p q = same_violations f g h a b p q
agree_in (Why f g) a b p q = same_why f g a b p q

-- the commands that may say no, and those that search
abbrev says_no : {F N : Type 0} → Command F N → Bool
says_no (TurnsOnImage f n g out) = true
says_no (Check f g h) = true
says_no (Emit f g h out) = true
says_no (Show f g h out) = true
says_no (Violations f g h) = true
says_no _ = false

abbrev searches : {F N : Type 0} → Command F N → Bool
searches (Map call) = true
searches (Search call) = true
searches _ = false

-- the statuses of a command's outcomes
abbrev pub owns_of : {F N : Type 0} → Command F N → Status → Bool
owns_of c = owns (says_no c) (searches c)

pub sound : (c : Command File Name) (o : Outcome) → IsAnswer c o → IsSound (owns_of c) o
sound (Turns f n) o p = sound_turns n f o p
sound (TurnsOnImage f n g out) o p = sound_on_image n f g out o p
sound (Flat f out) o p = sound_flat f out o p
sound (Run call None) o p = sound_run call.turns call.arch call.bits call.image call.out o p
sound (Run call (Some k)) o p = sound_netlist_run call.turns call.arch call.bits call.image k call.out o p
sound (Bound f g) o p = sound_bound f g o p
sound (Check f g h) o p = sound_check f g h o p
sound (Emit f g h out) o p = sound_emit f g h out o p
sound (Map call) o p = sound_map call.request (call.out ∷ listed call.mapping) call.arch call.kernel o p
sound (Search call) o p = sound_search call.request (call.out ∷ listed call.mapping) call.arch call.kernel o p
sound (Show f g h out) o p = sound_show f g h (listed out) o p
sound (Trial seed) o p = sound_trial seed o p
sound (Verilog f out) o p = sound_verilog f out o p
sound (Loop f out) o p = sound_loop f out o p
sound (Depend f out) o p = sound_depend f out o p
sound (Simplify f out copies share) o p = sound_simplify f out o p
sound (Migrate f g out) o p = sound_migrate f g out o p
sound (Bench call) o p = sound_bench call.turns call.arch call.bits call.image call.out o p
sound (Image f out) o p = sound_image f out o p
sound (Words f) o p = sound_words f o p
sound (Violations f g h) o p = sound_violations f g h o p
sound (Why f g) o p = sound_why f g o p

-- what a command accepts it does
pub accepted : (c : Command File Name) (o : Outcome) → Accepts c → IsAnswer c o → o.status ≡ Done
accepted (Turns f n) o a p = accepted_turns n f a.0 o a.1 p
accepted (TurnsOnImage f n g out) o a p = accepted_on_image n f g out a.kernel a.image o a.kernel_is a.image_is a.unaliased p
accepted (Flat f out) o a p = accepted_flat f out a.0 o a.1 p
accepted (Run call None) o a p = accepted_run call.turns call.arch call.bits call.image call.out o a p
accepted (Run call (Some k)) o a p = accepted_netlist_run call.turns call.arch call.bits call.image k call.out o a p
accepted (Bound f g) o a p = accepted_bound f g o a p
accepted (Check f g h) o a p = accepted_check f g h o a p
accepted (Emit f g h out) o a p = accepted_emit f g h out o a p
accepted (Map call) o a p = accepted_map call.request call.arch call.kernel (call.out ∷ listed call.mapping) o a p
accepted (Search call) o a p = accepted_search call.request call.arch call.kernel (call.out ∷ listed call.mapping) o a p
accepted (Show f g h out) o a p = accepted_show f g h (listed out) o a p
accepted (Trial seed) o a p = accepted_trial seed o p
accepted (Verilog f out) o a p = accepted_verilog f out a.0 o a.1 p
accepted (Loop f out) o a p = accepted_loop f out o a p
accepted (Depend f out) o a p = accepted_depend f out o a p
accepted (Simplify f out copies share) o a p = accepted_simplify f out a.0 o a.1 p
accepted (Migrate f g out) o a p = accepted_migrate f g out o a p
accepted (Bench call) o a p = accepted_bench call.turns call.arch call.bits call.image call.out o a p
accepted (Image f out) o a p = accepted_image f out o a p
accepted (Words f) o a p = accepted_words f o a p
accepted (Violations f g h) o a p = accepted_violations f g h o a p
accepted (Why f g) o a p = accepted_why f g o a p

-- where an interval is forbidden, a command says that it is impossible, and writes nothing
pub forbidden : (c : Command File Name) (o : Outcome) → Forbids c → IsAnswer c o → (o.status ≡ Impossible) × (o.writes ≡ [])
forbidden (Map call) o a p = forbidden_map call.request call.arch call.kernel (call.out ∷ listed call.mapping) o a p
forbidden (Search call) o a p = forbidden_search call.request call.arch call.kernel (call.out ∷ listed call.mapping) o a p
forbidden _ o a p = absurd a

-- a command writes its output files, or nothing
pub named : (c : Command File Name) (o : Outcome) → IsAnswer c o → IsNamed (outputs_of c) o
named (Turns f n) o p = inr (quiet_turns n f o p)
named (TurnsOnImage f n g out) o p = named_on_image n f g out o p
named (Flat f out) o p = named_flat f out o p
named (Run call None) o p = named_run call.turns call.arch call.bits call.image call.out o p
named (Run call (Some k)) o p = named_netlist_run call.turns call.arch call.bits call.image k call.out o p
named (Bound f g) o p = inr (quiet_bound f g o p)
named (Check f g h) o p = inr (quiet_check f g h o p)
named (Emit f g h out) o p = named_emit f g h out o p
named (Map call) o p = named_map call.request (call.out ∷ listed call.mapping) call.arch call.kernel o p
named (Search call) o p = named_search call.request (call.out ∷ listed call.mapping) call.arch call.kernel o p
named (Show f g h out) o p = named_show f g h (listed out) o p
named (Trial seed) o p = inr (quiet_trial seed o p)
named (Verilog f out) o p = named_verilog f out o p
named (Loop f out) o p = named_loop f out o p
named (Depend f out) o p = named_depend f out o p
named (Simplify f out copies share) o p = named_simplify f out o p
named (Migrate f g out) o p = named_migrate f g out o p
named (Bench call) o p = named_bench call.turns call.arch call.bits call.image call.out o p
named (Image f out) o p = named_image f out o p
named (Words f) o p = inr (quiet_words f o p)
named (Violations f g h) o p = inr (quiet_violations f g h o p)
named (Why f g) o p = inr (quiet_why f g o p)

no_names : (files : List File) → names_of files ≡ [] → files ≡ []
no_names [] e = refl
no_names (f ∷ fs) e = absurd (cc)

-- of no names nothing is written
nothing_named : (o : Outcome) → IsNamed [] o → o.writes ≡ []
nothing_named o (inl same) = no_names o.writes same
nothing_named o (inr none) = none

-- a command without output files writes none
pub quiet : (c : Command File Name) (o : Outcome) → outputs_of c ≡ [] → IsAnswer c o → o.writes ≡ []
quiet c o none p = nothing_named o (subst (λ names. IsNamed names o) none (named c o p))

-- statuses agree for a command where they do for that with the contents of its files
pub agree_kept : {F G N M : Type 0} (f : F → G) (g : N → M) (c : Command F N) (a b : Status) → AgreeIn (command_map f g c) a b → AgreeIn c a b
agree_kept f g (Turns kernel turns) a b e = e
agree_kept f g (TurnsOnImage kernel turns image out) a b e = e
agree_kept f g (Flat arch out) a b e = e
agree_kept f g (Run call netlist) a b e = e
agree_kept f g (Bound arch kernel) a b e = e
agree_kept f g (Check arch kernel mapping) a b e = e
agree_kept f g (Emit arch kernel mapping out) a b e = e
agree_kept f g (Map call) a b e = e
agree_kept f g (Search call) a b e = e
agree_kept f g (Show arch kernel mapping out) a b e = e
agree_kept f g (Trial seed) a b e = e
agree_kept f g (Verilog arch out) a b e = e
agree_kept f g (Loop source out) a b e = e
agree_kept f g (Depend kernel out) a b e = e
agree_kept f g (Simplify kernel out copies share) a b e = e
agree_kept f g (Migrate arch bits out) a b e = e
agree_kept f g (Bench call) a b e = e
agree_kept f g (Image text out) a b e = e
agree_kept f g (Words image) a b e = e
agree_kept f g (Violations arch kernel mapping) a b e = e
agree_kept f g (Why arch kernel) a b e = e

-- equal statuses agree for every command
pub equal : {F N : Type 0} (c : Command F N) (a b : Status) → a ≡ b → AgreeIn c a b
equal (Turns kernel turns) a b e = e
equal (TurnsOnImage kernel turns image out) a b e = e
equal (Flat arch out) a b e = e
equal (Run call netlist) a b e = e
equal (Bound arch kernel) a b e = e
equal (Check arch kernel mapping) a b e = e
equal (Emit arch kernel mapping out) a b e = e
equal (Map call) a b e = e
equal (Search call) a b e = inl e
equal (Show arch kernel mapping out) a b e = e
equal (Trial seed) a b e = e
equal (Verilog arch out) a b e = e
equal (Loop source out) a b e = e
equal (Depend kernel out) a b e = e
equal (Simplify kernel out copies share) a b e = e
equal (Migrate arch bits out) a b e = e
equal (Bench call) a b e = e
equal (Image text out) a b e = e
equal (Words image) a b e = e
equal (Violations arch kernel mapping) a b e = e
equal (Why arch kernel) a b e = e
