-- The command that `clap` is given, and the arguments in its matches.
use Rattle.std.specs.Prelude.{◌∷◌, ◌++◌, [], length, ℕ, List, Bool, true, ◌&&◌, Option, Some, None, codes, unwrap_or, map, if◌then◌else◌}
use Rattle.std.specs.List.{list_all}
use Rattle.clap.specs.Words.{App, Row, Rule, Text, new_rule, all_of}
use Rattle.clap.specs.Simple.{Shape, new_shape}
use Rattle.clap.specs.declared.builder.ArgAction.TheVariants.{Append}
use Rattle.cg_command.specs.Words.{Given, Arguments, options, flags, is_file, given_by, flags_by, are_given_once}

-- the positional that takes each plain word
abbrev pub words_rule : Rule
words_rule = record (new_rule (codes "words")) { action = Some Append }

-- an option with a value
abbrev pub named_rule : Text → Rule
named_rule id = record (new_rule id) { long = Some id; action = Some Append }

-- a flag, an option with no value, of which each use is noted as `true`
abbrev pub flag_rule : Text → Rule
flag_rule id = record (new_rule id) {
  long = Some id;
  action = Some Append;
  range = Some (record { start_inclusive = 0; end_inclusive = 0 });
  missing = codes "true" ∷ [];
}

-- a command with that positional, these options and these flags, each of which may occur any number of times
abbrev pub asked_shape : List Text → List Text → Shape
asked_shape os fs = record (new_shape (codes "cgra")) { rules = words_rule ∷ (map named_rule os ++ map flag_rule fs); no_binary_name = true; disable_help_flag = true }

-- an app of that command, with no subcommand
abbrev pub asked_app : List Text → List Text → App
asked_app os fs = record { top = asked_shape os fs; subs = [] }

-- the command that `clap` is given
unfoldable pub words_app : App
words_app = asked_app options flags

-- the texts that `clap`'s rows have for an id
abbrev pub row_texts : Text → List Row → List Text
row_texts id rows = unwrap_or (all_of id rows) []

-- how many uses of an id `clap`'s rows have
abbrev pub row_times : Text → List Row → ℕ
row_times id rows = length (row_texts id rows)

-- the value may name a file
abbrev pub has_file : Given → Bool
has_file g = is_file g.value

-- plain words, options and flags, where each word and each value may name a file
abbrev pub judged : List Text → List Given → List Text → Option Arguments
judged words given said = if list_all is_file words && list_all has_file given then Some (record { words = words; options = given; flags = said }) else None

-- the arguments in `clap`'s rows; None where a flag has two uses
unfoldable pub arguments_in_rows : List Row → Option Arguments
arguments_in_rows rows =
    if are_given_once (λ name. row_times name rows)
    then judged (row_texts (codes "words") rows) (given_by (λ name. row_texts name rows) options) (flags_by (λ name. row_times name rows) flags)
    else None
