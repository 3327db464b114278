-- What the files that a command writes do. A command is a case.
use Rattle.std.proofs.Common.{List, [], ◌∷◌, All}
use Rattle.cg_effects.specs.Outcome.{Name, File, Outcome}
use Rattle.cg_effects.specs.Reads.{IsRead}
use Rattle.cg_effects.specs.Ends.{Moment}
use Rattle.cg_command.specs.declared.command.Command.{Command}
use Rattle.cg_command.specs.declared.command.Command.TheVariants.{Turns, TurnsOnImage, Flat, Run, Bound, Check, Emit, Map, Search, Show, Trial, Verilog, Loop, Depend, Simplify, Migrate, Bench, Image, Words, Violations, Why}
use Rattle.cg_command.specs.declared.command.MapperCall.{MapperCall}
use Rattle.cg_command.specs.Files.{names_only}
use Rattle.cg_command.specs.Command.{inputs_of, listed}
use Rattle.cg_commands.proofs.InputsRead.{first, second, third}
use Rattle.cg_command_map.specs.Runs.{FirstRuns}
use Rattle.cg_command_judge.specs.Emit.{FirstRunsRead}
use Rattle.cg_command_judge.proofs.Bitstream.{emit_writes_run}
use Rattle.cg_command_map.proofs.MapAnswers.{map_writes_run}
use Rattle.cg_command_map.proofs.SearchAnswers.{search_writes_run}
use Rattle.cg_commands.specs.Commands.{IsAnswer, RunWrites}

of_map : (c : MapperCall Name Name) (before : Moment) (ws : List File) → FirstRuns c.arch c.kernel before ws → RunWrites ws (Map c) before
of_map c before [] r = tt
of_map c before (w ∷ ws) r = r

of_search : (c : MapperCall Name Name) (before : Moment) (ws : List File) → FirstRuns c.arch c.kernel before ws → RunWrites ws (Search c) before
of_search c before [] r = tt
of_search c before (w ∷ ws) r = r

of_emit : (arch kernel mapping out : Name) (before : Moment) (ws : List File) → FirstRunsRead arch kernel mapping before ws → RunWrites ws (Emit arch kernel mapping out) before
of_emit arch kernel mapping out before [] r = tt
of_emit arch kernel mapping out before (w ∷ ws) r = r

-- of the others nothing is said
free : (c : Command Name Name) (ws : List File) (before : Moment) → ((file : File) (files : List File) → RunWrites (file ∷ files) c before) → RunWrites ws c before
free c [] before each = tt
free c (w ∷ ws) before each = each w ws

-- of the files that a command writes over files that were read
pub writes_run : (c : Command File Name) (o : Outcome) (before : Moment) → All (IsRead before.held) (inputs_of c) → IsAnswer c o → RunWrites o.writes (names_only c) before
writes_run (Map c) o before read answer =
    of_map _ before o.writes (map_writes_run c.request c.arch.name c.kernel.name (c.out ∷ listed c.mapping) c.arch c.kernel before before
    (first before.held c.arch (c.kernel ∷ []) read) (second before.held c.arch c.kernel [] read) o answer)
writes_run (Search c) o before read answer =
    of_search _ before o.writes (search_writes_run c.request c.arch.name c.kernel.name (c.out ∷ listed c.mapping) c.arch c.kernel before before
    (first before.held c.arch (c.kernel ∷ []) read) (second before.held c.arch c.kernel [] read) o answer)
writes_run (Emit f g h out) o before read answer =
    of_emit f.name g.name h.name out before o.writes (emit_writes_run f.name g.name h.name out f g h before before
    (first before.held f (g ∷ h ∷ []) read) (second before.held f g (h ∷ []) read) (third before.held f g h [] read) o answer)
writes_run c o before read answer = free (names_only c) o.writes before (λ w ws. tt)
