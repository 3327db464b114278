-- How `clap` reads words: plain words, options with their values, and flags.
use Rattle.std.proofs.Common.{◌∷◌, [], List, Bool, true, false, Option, Some, None, option_map, find, if◌then◌else◌}
use Rattle.std.specs.Str.{bytes_eq}
use Rattle.clap.specs.Lexer.{long_of, short_of}
use Rattle.cg_command.specs.Words.{Text, Part, plain, named, flag, options, flags}

-- the names of the options, and those of the flags
pub record Ids : Type 0 where
  pub options : List Text
  pub flags : List Text

-- those of the program
abbrev pub ids : Ids
ids = record { options = options; flags = flags }

-- a part, and those after it
abbrev pub before : Part → Option (List Part) → Option (List Part)
before part rest = option_map (λ parts. part ∷ parts) rest

-- `--`
abbrev pub is_dashes : Text → Bool
is_dashes word = bytes_eq word (45 ∷ 45 ∷ [])

-- the option or the flag of this name
abbrev pub known : List Text → Text → Option Text
known os name = find (λ o. bytes_eq o name) os

-- a flag has no value
abbrev pub flag_said : Option Text → Option Text → Option (List Part) → Option (List Part)
flag_said None value rest = None
flag_said (Some f) (Some value) rest = None
flag_said (Some f) None rest = before (flag f) rest

-- `--name` waits for its value, and `--name=value` has it; a name of no option is a flag's
abbrev pub option_said : Option Text → Option Text → Option Text → Option (List Part) → (Text → Option (List Part)) → Option (List Part)
option_said (Some o) other (Some value) rest waiting = before (named o value) rest
option_said (Some o) other None rest waiting = waiting o
option_said None other value rest waiting = flag_said other value rest

-- a word with a hyphen in front is no plain word, but `-` is
abbrev pub word_said : Ids → Option (Text × Option Text) → Option Text → Text → Option (List Part) → (Text → Option (List Part)) → Option (List Part)
word_said os (Some p) short word rest waiting = option_said (known os.options p.0) (known os.flags p.0) p.1 rest waiting
word_said os None (Some short) word rest waiting = None
word_said os None None word rest waiting = before (plain word) rest

-- the word after `--name` is its value, where it is plain
abbrev pub value_said : Text → Option (Text × Option Text) → Option Text → Text → Option (List Part) → Option (List Part)
value_said o (Some p) short word rest = None
value_said o None (Some short) word rest = None
value_said o None None word rest = before (named o word) rest

-- the parts of the words, after `--` or before, where an option may wait for its value
abbrev pub uses : Ids → Bool → Option Text → List Text → Option (List Part)
uses os ended None [] = Some []
uses os ended (Some o) [] = None
uses os true None (word ∷ words) = before (plain word) (uses os true None words)
uses os true (Some o) (word ∷ words) = None
uses os false None (word ∷ words) =
    if is_dashes word then uses os true None words
    else word_said os (long_of word) (short_of word) word (uses os false None words) (λ o. uses os false (Some o) words)
uses os false (Some o) (word ∷ words) =
    if is_dashes word then None
    else value_said o (long_of word) (short_of word) word (uses os false None words)
