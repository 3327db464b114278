-- The command that the words of a command line ask for.
use Rattle.std.specs.Prelude.{◌==◌, suc, nat_lt, nat_le, ℕ, Bool, true, false, not, List, [], ◌∷◌, ◌++◌, take, drop, find, map, Option, Some, None, option_map, option_and_then, if◌then◌else◌, codes}
use Rattle.std.specs.List.{list_all, list_any, before_first, after_first}
use Rattle.std.specs.Str.{bytes_eq}
pub use Rattle.cg_command.specs.Numbers.{Text, is_number, number_up_to, positive, turns_of, interval_of, seed_of, moves_of, usual_seed, usual_moves, usual_responses}
use Rattle.cg_command.specs.declared.command.MapperCall.{MapperCall}
use Rattle.cg_command.specs.declared.command.Command.{Command}
use Rattle.cg_command.specs.declared.command.Command.TheVariants.{Turns, TurnsOnImage, Flat, Run, Bound, Check, Emit, Map, Search, Show, Trial, Verilog, Loop, Depend, Simplify, Migrate, Bench, Image, Words, Violations, Why}
use Rattle.cg_model.specs.declared.request.Request.{Request}
use Rattle.cg_command.specs.declared.arguments.Arguments.{Arguments as ArgumentsValue}
use Rattle.cg_command.specs.declared.arguments.Given.{Given as GivenValue}

-- ---- plain words, options and flags

-- a word may name a file where it isn't empty and doesn't begin with `-`
abbrev pub is_file : Text → Bool
is_file [] = false
is_file (b ∷ bs) = not (b == 45)

-- a plain word, an option of this name with its value, or a flag of this name
pub data Part : Type 0 where
  plain : Text → Part
  named : Text → Text → Part
  flag : Text → Part

-- a plain word and a value may name a file
abbrev pub is_allowed : Part → Bool
is_allowed (plain word) = is_file word
is_allowed (named name value) = is_file value
is_allowed (flag name) = true

-- a part and those after it; a plain word or a value that is empty or begins with `-` is refused
abbrev pub and_then : Part → Option (List Part) → Option (List Part)
and_then part rest = if is_allowed part then option_map (λ parts. part ∷ parts) rest else None

-- the names of the options
abbrev pub options : List Text
options = codes "ii" ∷ codes "seed" ∷ codes "moves" ∷ codes "mapping" ∷ codes "netlist" ∷ []

-- the names of the flags
abbrev pub flags : List Text
flags = codes "copies" ∷ codes "share" ∷ []

-- the option of this name
abbrev pub option_named : Text → Option Text
option_named name = find (λ option. bytes_eq option name) options

-- the flag of this name
abbrev pub flag_named : Text → Option Text
flag_named name = find (λ other. bytes_eq other name) flags

-- a word begins with `--`
abbrev pub is_option : Text → Bool
is_option word = bytes_eq (take 2 word) (codes "--")

-- `=`
abbrev pub is_equals_sign : ℕ → Bool
is_equals_sign b = b == 61

-- the name in `--name` or `--name=value`, which ends at the first `=`
abbrev pub name_in : Text → Text
name_in word = before_first is_equals_sign (drop 2 word)

-- the value in `--name=value`, none in `--name`
abbrev pub value_in : Text → Option Text
value_in word = if list_any is_equals_sign (drop 2 word) then Some (after_first is_equals_sign (drop 2 word)) else None

-- a flag, which has no value; another name is refused
abbrev pub flag_parts : Option Text → Option Text → Option (List Part) → Option (List Part)
flag_parts None value rest = None
flag_parts (Some name) (Some value) rest = None
flag_parts (Some name) None rest = and_then (flag name) rest

-- an option with the value after its `=`, or waiting for the next word; a name of no option is a flag's
abbrev pub option_parts : Option Text → Option Text → Option Text → Option (List Part) → (Text → Option (List Part)) → Option (List Part)
option_parts (Some name) other (Some value) rest waiting = and_then (named name value) rest
option_parts (Some name) other None rest waiting = waiting name
option_parts None other value rest waiting = flag_parts other value rest

-- the parts of the words after `--`, each of them plain
abbrev pub plain_parts : List Text → Option (List Part)
plain_parts [] = Some []
plain_parts (word ∷ words) = and_then (plain word) (plain_parts words)

-- the parts of the words, where an option may wait for the next word as its value; `--` ends the options and the flags
abbrev pub parts_of : Option Text → List Text → Option (List Part)
parts_of None [] = Some []
parts_of (Some name) [] = None
parts_of (Some name) (word ∷ words) = and_then (named name word) (parts_of None words)
parts_of None (word ∷ words) =
    if bytes_eq word (codes "--") then plain_parts words
    else (if is_option word
    then option_parts (option_named (name_in word)) (flag_named (name_in word)) (value_in word) (parts_of None words) (λ name. parts_of (Some name) words)
    else and_then (plain word) (parts_of None words))

-- ---- what was said

-- an option with a value
pub record Given : Type 0 where
  pub name : Text
  pub value : Text

-- the plain words in order, the options with their values, those of one name in order, and the names of the flags that
-- were given
pub record Arguments : Type 0 where
  pub words : List Text
  pub options : List Given
  pub flags : List Text

-- the option that a value of the program denotes
abbrev pub heard_option : GivenValue → Given
heard_option g = record { name = g.name.now; value = g.value.now }

abbrev pub heard : ArgumentsValue → Arguments
heard a = record { words = map (λ word. word.now) a.words.items; options = map heard_option a.options.items; flags = map (λ name. name.now) a.flags.items }

-- the plain words, in order
abbrev pub plain_words : List Part → List Text
plain_words [] = []
plain_words (plain word ∷ parts) = word ∷ plain_words parts
plain_words (named name value ∷ parts) = plain_words parts
plain_words (flag name ∷ parts) = plain_words parts

-- the values of an option, in order
abbrev pub values_of : Text → List Part → List Text
values_of name [] = []
values_of name (plain word ∷ parts) = values_of name parts
values_of name (named other value ∷ parts) = if bytes_eq other name then value ∷ values_of name parts else values_of name parts
values_of name (flag other ∷ parts) = values_of name parts

-- how many times a flag is given
abbrev pub times_of : Text → List Part → ℕ
times_of name [] = 0
times_of name (plain word ∷ parts) = times_of name parts
times_of name (named other value ∷ parts) = times_of name parts
times_of name (flag other ∷ parts) = if bytes_eq other name then suc (times_of name parts) else times_of name parts

-- the option of that name, with each of these values
abbrev pub given_values : Text → List Text → List Given
given_values name values = map (λ value. record { name = name; value = value }) values

-- the options of these names, each with its values
abbrev pub given_by : (Text → List Text) → List Text → List Given
given_by values [] = []
given_by values (name ∷ names) = given_values name (values name) ++ given_by values names

-- no name where the flag is given no times; else its name once
abbrev pub flag_given : Text → ℕ → List Text
flag_given name times = if nat_lt 0 times then name ∷ [] else []

-- the flags of these names that are given
abbrev pub flags_by : (Text → ℕ) → List Text → List Text
flags_by times [] = []
flags_by times (name ∷ names) = flag_given name (times name) ++ flags_by times names

-- each flag is given at most once
abbrev pub are_given_once : (Text → ℕ) → Bool
are_given_once times = list_all (λ name. nat_le (times name) 1) flags

-- the arguments of the parts; None where a flag is given twice
abbrev pub arguments_by : List Part → Option Arguments
arguments_by parts =
    if are_given_once (λ name. times_of name parts) then Some (record {
      words = plain_words parts;
      options = given_by (λ name. values_of name parts) options;
      flags = flags_by (λ name. times_of name parts) flags;
    })
    else None

-- the arguments in the words after a command's name; None where they fit no command
unfoldable pub arguments_of : List Text → Option Arguments
arguments_of words = option_and_then arguments_by (parts_of None words)

-- ---- commands

-- made of one word, of two, of three or of four
abbrev pub of_one : {T : Type 0} → (Text → T) → List Text → Option T
of_one make (a ∷ []) = Some (make a)
of_one make _ = None

abbrev pub of_two : {T : Type 0} → (Text → Text → T) → List Text → Option T
of_two make (a ∷ b ∷ []) = Some (make a b)
of_two make _ = None

abbrev pub of_three : {T : Type 0} → (Text → Text → Text → T) → List Text → Option T
of_three make (a ∷ b ∷ c ∷ []) = Some (make a b c)
of_three make _ = None

-- turns KERNEL TURNS, and turns KERNEL TURNS IN OUT
abbrev pub turns_command : List Text → Option (Command Text Text)
turns_command (kernel ∷ turns ∷ []) = option_map (λ n. Turns kernel n) (turns_of turns)
turns_command (kernel ∷ turns ∷ image ∷ out ∷ []) = option_map (λ n. TurnsOnImage kernel n image out) (turns_of turns)
turns_command _ = None

-- emit ARCH KERNEL MAPPING OUT
abbrev pub emit_command : List Text → Option (Command Text Text)
emit_command (arch ∷ kernel ∷ mapping ∷ out ∷ []) = Some (Emit arch kernel mapping out)
emit_command _ = None

-- show ARCH KERNEL MAPPING [OUT]
abbrev pub show_command : List Text → Option (Command Text Text)
show_command (arch ∷ kernel ∷ mapping ∷ []) = Some (Show arch kernel mapping None)
show_command (arch ∷ kernel ∷ mapping ∷ out ∷ []) = Some (Show arch kernel mapping (Some out))
show_command _ = None

-- trial SEED
abbrev pub trial_command : List Text → Option (Command Text Text)
trial_command (seed ∷ []) = option_map (λ n. Trial n) (seed_of seed)
trial_command _ = None

-- bench ARCH BITS TURNS IN OUT
abbrev pub bench_command : List Text → Option (Command Text Text)
bench_command (arch ∷ bits ∷ turns ∷ image ∷ out ∷ []) = option_map (λ n. Bench (record { arch = arch; bits = bits; turns = n; image = image; out = out })) (turns_of turns)
bench_command _ = None

-- the values of an option among those given, in order
abbrev pub values_said : Text → List Given → List Text
values_said name [] = []
values_said name (g ∷ gs) = if bytes_eq g.name name then g.value ∷ values_said name gs else values_said name gs

-- the result of an option that may be given once: where it isn't given the usual value, else the value that its text is
-- read as
abbrev pub said_once : {T : Type 0} → T → (Text → Option T) → List Text → Option T
said_once usual read [] = Some usual
said_once usual read (value ∷ []) = read value
said_once usual read (value ∷ other ∷ values) = None

-- the interval that a value of `--ii` asks for
abbrev pub asked_interval : Text → Option (Option ℕ)
asked_interval value = option_map Some (interval_of value)

-- the file that a value of `--mapping` or `--netlist` names
abbrev pub named_file : Text → Option (Option Text)
named_file value = Some (Some value)

-- the file that the option of this name names, if it is given
abbrev pub file_said : Text → Arguments → Option (Option Text)
file_said name said = said_once None named_file (values_said name said.options)

-- the request in the options of a search, with `usual` moves where none are given; without `--ii` no interval is asked
-- for
abbrev pub request_of : ℕ → List Given → Option Request
request_of usual given =
    option_and_then (λ ii. option_and_then (λ seed. option_map (λ moves. record { ii = ii; seed = seed; moves = moves })
    (said_once usual moves_of (values_said (codes "moves") given)))
    (said_once usual_seed seed_of (values_said (codes "seed") given)))
    (said_once None asked_interval (values_said (codes "ii") given))

-- the options that a search takes, and those that a run takes
abbrev pub search_options : List Text
search_options = codes "ii" ∷ codes "seed" ∷ codes "moves" ∷ codes "mapping" ∷ []

abbrev pub run_options : List Text
run_options = codes "netlist" ∷ []

-- each option that was given is one of these
abbrev pub takes : List Text → List Given → Bool
takes names given = list_all (λ (g : Given). list_any (bytes_eq g.name) names) given

-- nothing is in the list, as where no option or no flag was given
abbrev pub is_empty : {T : Type 0} → List T → Bool
is_empty [] = true
is_empty (x ∷ xs) = false

-- the flag of this name was given
abbrev pub is_said : Text → Arguments → Bool
is_said name said = list_any (bytes_eq name) said.flags

-- a search with these words, which writes the bitstream, and possibly the mapping
abbrev pub written_call : List Text → Option Text → Request → Option (MapperCall Text Text)
written_call (arch ∷ kernel ∷ out ∷ []) mapping request =
    Some (record { arch = arch; kernel = kernel; out = out; mapping = mapping; request = request })
written_call _ mapping request = None

-- ARCH KERNEL OUT [--ii N] [--seed N] [--moves N] [--mapping FILE], with `usual` moves where none are given
abbrev pub mapper_call : ℕ → Arguments → Option (MapperCall Text Text)
mapper_call usual said =
    if takes search_options said.options then
    option_and_then (λ request. option_and_then (λ mapping. written_call said.words mapping request) (file_said (codes "mapping") said))
    (request_of usual said.options)
    else None

-- a run of an array, or of the netlist in a file
abbrev pub array_command : List Text → Option Text → Option (Command Text Text)
array_command (arch ∷ bits ∷ turns ∷ image ∷ out ∷ []) netlist = option_map (λ n. Run (record { arch = arch; bits = bits; turns = n; image = image; out = out }) netlist) (turns_of turns)
array_command _ netlist = None

-- run ARCH BITS TURNS IN OUT [--netlist FILE]
abbrev pub run_command : Arguments → Option (Command Text Text)
run_command said =
    if takes run_options said.options then option_and_then (array_command said.words) (file_said (codes "netlist") said) else None

-- simplify KERNEL OUT [--copies] [--share]
abbrev pub simplify_command : Arguments → Option (Command Text Text)
simplify_command said =
    if is_empty said.options then of_two (λ kernel out. Simplify kernel out (is_said (codes "copies") said) (is_said (codes "share") said)) said.words
    else None

-- the command of this name, by its plain words, for the commands that take no option and that `plain_command` leaves to
-- it
abbrev pub further_command : Text → List Text → Option (Command Text Text)
further_command name words =
    if bytes_eq name (codes "trial") then trial_command words
    else (if bytes_eq name (codes "verilog") then of_two Verilog words
    else (if bytes_eq name (codes "loop") then of_two Loop words
    else (if bytes_eq name (codes "depend") then of_two Depend words
    else (if bytes_eq name (codes "migrate") then of_three Migrate words
    else (if bytes_eq name (codes "bench") then bench_command words
    else (if bytes_eq name (codes "image") then of_two Image words
    else (if bytes_eq name (codes "words") then of_one Words words
    else None)))))))

-- the command of this name, by its plain words, for the commands that take no option
abbrev pub plain_command : Text → List Text → Option (Command Text Text)
plain_command name words =
    if bytes_eq name (codes "turns") then turns_command words
    else (if bytes_eq name (codes "flat") then of_two Flat words
    else (if bytes_eq name (codes "bound") then of_two Bound words
    else (if bytes_eq name (codes "why") then of_two Why words
    else (if bytes_eq name (codes "check") then of_three Check words
    else (if bytes_eq name (codes "violations") then of_three Violations words
    else (if bytes_eq name (codes "emit") then emit_command words
    else (if bytes_eq name (codes "show") then show_command words
    else further_command name words)))))))

-- the command of this name, for the commands that take no flag
abbrev pub flagless_command : Text → Arguments → Option (Command Text Text)
flagless_command name said =
    if bytes_eq name (codes "run") then run_command said
    else (if bytes_eq name (codes "map") then option_map Map (mapper_call usual_moves said)
    else (if bytes_eq name (codes "search") then option_map Search (mapper_call usual_responses said)
    else (if is_empty said.options then plain_command name said.words else None)))

-- the command of this name
abbrev pub command_of : Text → Arguments → Option (Command Text Text)
command_of name said =
    if bytes_eq name (codes "simplify") then simplify_command said
    else (if is_empty said.flags then flagless_command name said else None)

-- the command that the words ask for, with the names of its files; None where they fit no command
unfoldable pub plan_of : List Text → Option (Command Text Text)
plan_of [] = None
plan_of (name ∷ words) = option_and_then (command_of name) (arguments_of words)
