-- Commands with the contents of their input files.
use Rattle.cg_effects.specs.declared.outcome.File.{File as FileValue}
use Rattle.cg_effects.specs.Outcome.{Name, File, file_of}
use Rattle.cg_command.specs.declared.command.Command.{Command}
use Rattle.cg_command.specs.Command.{command_map}
use Rattle.std.specs.Borrow.{Bor}

-- the command with its files that a value of the program denotes
abbrev pub filled : Command (Bor FileValue) (Bor Name) → Command File Name
filled command = command_map (λ file. file_of file.now) (λ name. name.now) command

-- the command with the names of its input files in place of their contents
abbrev pub names_only : Command File Name → Command Name Name
names_only command = command_map (λ file. file.name) (λ name. name) command
