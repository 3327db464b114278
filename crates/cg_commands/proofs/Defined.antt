-- Each command has an outcome for its files.
use Rattle.std.proofs.Common.{◌∷◌, Some, None, refl}
use Rattle.cg_effects.specs.Outcome.{Name, File, Outcome}
use Rattle.cg_command.specs.declared.command.Command.{Command}
use Rattle.cg_command.specs.declared.command.Command.TheVariants.{Turns, TurnsOnImage, Flat, Run, Bound, Check, Emit, Map, Search, Show, Trial, Verilog, Loop, Depend, Simplify, Migrate, Bench, Image, Words, Violations, Why}
use Rattle.cg_command.specs.Command.{IsRanged, listed}
use Rattle.cg_command_run.proofs.TurnsAnswers.{some_turns}
use Rattle.cg_command_run.proofs.OnImage.{some_on_image}
use Rattle.cg_command_run.proofs.FlatAnswers.{some_flat}
use Rattle.cg_command_run.proofs.RunAnswers.{some_run}
use Rattle.cg_command_run.proofs.Benched.{some_bench}
use Rattle.cg_command_files.specs.Image.{image_of}
use Rattle.cg_command_files.specs.Words.{words_of}
use Rattle.cg_command_judge.proofs.Listed.{some_violations}
use Rattle.cg_command_run.proofs.NetlistAnswers.{some_netlist_run}
use Rattle.cg_command_judge.proofs.Explained.{some_whying}
use Rattle.cg_command_judge.proofs.Bounded.{some_bounding}
use Rattle.cg_command_judge.proofs.Checked.{some_check}
use Rattle.cg_command_judge.proofs.Bitstream.{some_emit}
use Rattle.cg_command_map.proofs.MapAnswers.{some_map}
use Rattle.cg_command_map.proofs.SearchAnswers.{some_search_outcome}
use Rattle.cg_command_judge.proofs.Shown.{some_show}
use Rattle.cg_command_files.proofs.Looped.{some_loop}
use Rattle.cg_commands.specs.Commands.{IsAnswer}
use Rattle.cg_commands.proofs.Trialed.{some_trial}
use Rattle.cg_command_files.proofs.Netlisted.{some_verilog}
use Rattle.cg_command_files.proofs.Depended.{some_depend}
use Rattle.cg_command_files.proofs.Simplified.{some_simplify}
use Rattle.cg_command_files.proofs.Migrated.{some_migrate}

-- a command whose numbers are in their ranges has an outcome for its files
pub some_outcome : (c : Command File Name) → IsRanged c → (o : Outcome) × IsAnswer c o
some_outcome (Turns f n) range = some_turns n f
some_outcome (TurnsOnImage f n g out) range = some_on_image n f g out
some_outcome (Flat f out) range = some_flat f out
some_outcome (Run call None) range = some_run call.turns call.arch call.bits call.image call.out
some_outcome (Run call (Some k)) range = some_netlist_run call.turns call.arch call.bits call.image k call.out
some_outcome (Bound f g) range = some_bounding f g
some_outcome (Check f g h) range = some_check f g h
some_outcome (Emit f g h out) range = some_emit f g h out
some_outcome (Map c) range = some_map c.request c.arch c.kernel (c.out ∷ listed c.mapping) range
some_outcome (Search c) range = some_search_outcome c.request c.arch c.kernel (c.out ∷ listed c.mapping) range
some_outcome (Show f g h out) range = some_show f g h (listed out)
some_outcome (Trial seed) range = some_trial seed
some_outcome (Verilog f out) range = some_verilog f out
some_outcome (Loop f out) range = some_loop f out
some_outcome (Depend f out) range = some_depend f out
some_outcome (Simplify f out copies share) range = some_simplify f out
some_outcome (Migrate f g out) range = some_migrate f g out
some_outcome (Bench call) range = some_bench call.turns call.arch call.bits call.image call.out
some_outcome (Image f out) range = (image_of f out, refl)
some_outcome (Words f) range = (words_of f, refl)
some_outcome (Violations f g h) range = some_violations f g h
some_outcome (Why f g) range = some_whying f g
