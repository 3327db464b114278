-- A command that judges a mapping writes nothing where the answer is No.
use Rattle.std.proofs.Common.{◌≡◌, true, false, [], refl}
use Rattle.cg_effects.specs.declared.outcome.Status.TheVariants.{No}
use Rattle.cg_effects.specs.Outcome.{Name, File, Outcome}
use Rattle.cg_command.specs.declared.command.Command.{Command}
use Rattle.cg_command.specs.declared.command.Command.TheVariants.{Turns, TurnsOnImage, Flat, Run, Bound, Check, Emit, Map, Search, Show, Trial, Verilog, Loop, Depend, Simplify, Migrate, Bench, Image, Words, Violations, Why}
use Rattle.cg_command.specs.Command.{listed, command_map}
use Rattle.cg_command_judge.proofs.Bitstream.{unwritten_emit}
use Rattle.cg_command_judge.proofs.Checked.{quiet_check}
use Rattle.cg_command_judge.proofs.Shown.{unwritten_show}
use Rattle.cg_command_judge.proofs.Listed.{quiet_violations}
use Rattle.cg_commands.specs.Commands.{IsAnswer, judges}

not_judging : false ≡ true → ⊥
not_judging e = cc

pub judged : (c : Command File Name) (o : Outcome) → judges c ≡ true → IsAnswer c o → o.status ≡ No → o.writes ≡ []
judged (Check f g h) o j p said = quiet_check f g h o p
judged (Emit f g h out) o j p said = unwritten_emit f g h out o p said
judged (Show f g h out) o j p said = unwritten_show f g h (listed out) o p said
judged (Violations f g h) o j p said = quiet_violations f g h o p
judged _ o j p said = absurd (not_judging j)

-- a command judges a mapping as that with the names of its files does
pub judges_kept : {F G N M : Type 0} (f : F → G) (g : N → M) (c : Command F N) → judges (command_map f g c) ≡ judges c
judges_kept f g (Turns kernel turns) = refl
judges_kept f g (TurnsOnImage kernel turns image out) = refl
judges_kept f g (Flat arch out) = refl
judges_kept f g (Run call netlist) = refl
judges_kept f g (Bound arch kernel) = refl
judges_kept f g (Check arch kernel mapping) = refl
judges_kept f g (Emit arch kernel mapping out) = refl
judges_kept f g (Map call) = refl
judges_kept f g (Search call) = refl
judges_kept f g (Show arch kernel mapping out) = refl
judges_kept f g (Trial seed) = refl
judges_kept f g (Verilog arch out) = refl
judges_kept f g (Loop source out) = refl
judges_kept f g (Depend kernel out) = refl
judges_kept f g (Simplify kernel out copies share) = refl
judges_kept f g (Migrate arch bits out) = refl
judges_kept f g (Bench call) = refl
judges_kept f g (Image text out) = refl
judges_kept f g (Words image) = refl
judges_kept f g (Violations arch kernel mapping) = refl
judges_kept f g (Why arch kernel) = refl
