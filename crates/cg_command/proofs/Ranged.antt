-- The numbers of a command that words ask for are in their ranges.
use Rattle.std.proofs.Common.{rules, ◌≡◌, ℕ, ◌≤◌, ◌&&◌, Bool, true, false, cond, List, [], ◌∷◌, Option, Some, None, refl, subst, nat_le, nat_lt, arith, option_map, option_and_then, codes}
use Rattle.std.specs.Prelude.{⊤, IfSome}
use Rattle.std.specs.Str.{bytes_eq}
use Rattle.std.specs.Str.Parse.{digits_value}
use Rattle.std.proofs.lemmas.Bool.{leb-true}
use Rattle.cg_model.specs.Limits.{most_turns, most_contexts, most_moves}
use Rattle.cg_model.specs.declared.request.Request.{Request}
use Rattle.cg_model.specs.Request.{IsInRange}
use Rattle.cg_command.specs.declared.command.MapperCall.{MapperCall}
use Rattle.cg_command.specs.declared.command.Command.{Command}
use Rattle.cg_command.specs.declared.command.Command.TheVariants.{Flat, Bound, Check, Map, Search, Verilog, Loop, Depend, Simplify, Migrate, Image, Words, Violations, Why}
use Rattle.cg_command.specs.Command.{IsRanged}
use Rattle.cg_command.specs.Words.{Text, Given, Arguments, values_said, said_once, asked_interval, file_said, request_of, written_call, mapper_call, usual_moves, usual_responses, positive, seed_of, moves_of, is_number, number_up_to, turns_of, turns_command, array_command, run_command, takes, search_options, run_options, of_one, of_two, of_three, emit_command, show_command, trial_command, bench_command, is_empty, is_said, simplify_command, plain_command, further_command, flagless_command, command_of, arguments_of, plan_of}

-- each value that an option may have
abbrev Each : {T : Type 0} → (T → Type 0) → Option T → Type 0
Each P o = (x : _) → o ≡ Some x → P x

abbrev AreRanged : Option (Command Text Text) → Type 0
AreRanged o = Each IsRanged o

none_each : {T : Type 0} (P : T → Type 0) → Each P None
none_each P x e = absurd (cc)

one_each : {T : Type 0} (P : T → Type 0) (x : T) → P x → Each P (Some x)
one_each P x p y e = let same : x ≡ y = cc in subst P same p

either_each : {T : Type 0} (P : T → Type 0) (b : Bool) (o p : Option T) → Each P o → Each P p → Each P (cond b o p)
either_each P true o p left right = left
either_each P false o p left right = right

mapped_each : {S T : Type 0} (P : T → Type 0) (make : S → T) (o : Option S) → Each (λ x. P (make x)) o → Each P (option_map make o)
mapped_each P make None each = none_each P
mapped_each P make (Some x) each = one_each P (make x) (each x refl)

then_each : {S T : Type 0} (Q : S → Type 0) (P : T → Type 0) (make : S → Option T) (o : Option S) → Each Q o → ((x : S) → Q x → Each P (make x)) → Each P (option_and_then make o)
then_each Q P make None each next = none_each P
then_each Q P make (Some x) each next = next x (each x refl)

-- ---- numbers

number_few : (most : ℕ) (word : Text) → Each (λ n. n ≤ most) (number_up_to most word)
number_few most word n e = by (is_number word) (nat_le (digits_value 10 word) most) refl e
  where
    by : (b c : Bool) → nat_le (digits_value 10 word) most ≡ c → cond (b && c) (Some (digits_value 10 word)) None ≡ Some n → n ≤ most
    by true true few is = let same : digits_value 10 word ≡ n = cc in subst (λ z. z ≤ most) same (leb-true (digits_value 10 word) most few)
    by true false few is = absurd (cc)
    by false c few is = absurd (cc)

once_each : {T : Type 0} (P : T → Type 0) (usual : T) (read : Text → Option T) (values : List Text) → P usual → ((value : Text) → Each P (read value)) → Each P (said_once usual read values)
once_each P usual read [] p each = one_each P usual p
once_each P usual read (value ∷ []) p each = each value
once_each P usual read (value ∷ other ∷ values) p each = none_each P

abbrev IsAnInterval : Option ℕ → Type 0
IsAnInterval ii = IfSome ii (λ n. 1 ≤ n)

positive_some : (n : ℕ) → Each (λ m. 1 ≤ m) (positive n)
positive_some n m e = by (nat_lt 0 n) refl e
  where
    by : (b : Bool) → nat_lt 0 n ≡ b → cond b (Some n) None ≡ Some m → 1 ≤ m
    by true less is = let same : n ≡ m = cc in subst (λ z. 1 ≤ z) same (search (rules, less))
    by false less is = absurd (cc)

interval_some : (value : Text) → Each IsAnInterval (asked_interval value)
interval_some value = mapped_each IsAnInterval Some _ (then_each (λ n. n ≤ most_contexts) (λ m. 1 ≤ m) positive (number_up_to most_contexts value) (number_few most_contexts value) (λ n few. positive_some n))

request_ranged : (usual : ℕ) → usual ≤ most_moves → (given : List Given) → Each IsInRange (request_of usual given)
request_ranged usual few given =
    then_each IsAnInterval IsInRange _ (said_once None asked_interval (values_said (codes "ii") given))
    (once_each IsAnInterval None asked_interval (values_said (codes "ii") given) tt interval_some)
    (λ ii some. then_each (λ seed. ⊤) IsInRange _ (said_once _ seed_of (values_said (codes "seed") given)) (λ seed e. tt)
    (λ seed any. mapped_each IsInRange (λ moves. record { ii = ii; seed = seed; moves = moves }) (said_once usual moves_of (values_said (codes "moves") given))
    (λ moves e. record {
      some = some;
      few = once_each (λ m. m ≤ most_moves) usual moves_of (values_said (codes "moves") given) few (λ value. number_few most_moves value) moves e;
    })))

-- ---- commands

abbrev IsCallRanged : MapperCall Text Text → Type 0
IsCallRanged call = IsInRange call.request

written_ranged : (words : List Text) (mapping : Option Text) (request : Request) → IsInRange request → Each IsCallRanged (written_call words mapping request)
written_ranged (arch ∷ kernel ∷ out ∷ []) mapping request is = one_each IsCallRanged _ is
written_ranged _ mapping request is = none_each IsCallRanged

call_ranged : (usual : ℕ) → usual ≤ most_moves → (said : Arguments) → Each IsCallRanged (mapper_call usual said)
call_ranged usual few said =
    either_each IsCallRanged (takes search_options said.options) _ None
    (then_each IsInRange IsCallRanged _ (request_of usual said.options) (request_ranged usual few said.options)
    (λ request is. then_each (λ m. ⊤) IsCallRanged _ (file_said (codes "mapping") said) (λ m e. tt) (λ mapping any. written_ranged said.words mapping request is)))
    (none_each IsCallRanged)

array_ranged : (words : List Text) (netlist : Option Text) → AreRanged (array_command words netlist)
array_ranged (arch ∷ bits ∷ turns ∷ image ∷ out ∷ []) netlist = mapped_each IsRanged _ (turns_of turns) (number_few most_turns turns)
array_ranged _ netlist = none_each IsRanged

run_ranged : (said : Arguments) → AreRanged (run_command said)
run_ranged said =
    either_each IsRanged (takes run_options said.options) _ None
    (then_each (λ m. ⊤) IsRanged _ (file_said (codes "netlist") said) (λ m e. tt) (λ netlist any. array_ranged said.words netlist))
    (none_each IsRanged)

turns_ranged : (words : List Text) → AreRanged (turns_command words)
turns_ranged (kernel ∷ turns ∷ []) = mapped_each IsRanged _ (turns_of turns) (number_few most_turns turns)
turns_ranged (kernel ∷ turns ∷ image ∷ out ∷ []) = mapped_each IsRanged _ (turns_of turns) (number_few most_turns turns)
turns_ranged _ = none_each IsRanged

bench_ranged : (words : List Text) → AreRanged (bench_command words)
bench_ranged (arch ∷ bits ∷ turns ∷ image ∷ out ∷ []) = mapped_each IsRanged _ (turns_of turns) (number_few most_turns turns)
bench_ranged _ = none_each IsRanged

trial_ranged : (words : List Text) → AreRanged (trial_command words)
trial_ranged (seed ∷ []) = mapped_each IsRanged _ (seed_of seed) (λ n e. tt)
trial_ranged _ = none_each IsRanged

emit_ranged : (words : List Text) → AreRanged (emit_command words)
emit_ranged (arch ∷ kernel ∷ mapping ∷ out ∷ []) = one_each IsRanged _ tt
emit_ranged _ = none_each IsRanged

show_ranged : (words : List Text) → AreRanged (show_command words)
show_ranged (arch ∷ kernel ∷ mapping ∷ []) = one_each IsRanged _ tt
show_ranged (arch ∷ kernel ∷ mapping ∷ out ∷ []) = one_each IsRanged _ tt
show_ranged _ = none_each IsRanged

one_ranged : (make : Text → Command Text Text) → ((a : Text) → IsRanged (make a)) → (words : List Text) → AreRanged (of_one make words)
one_ranged make each (a ∷ []) = one_each IsRanged (make a) (each a)
one_ranged make each _ = none_each IsRanged

two_ranged : (make : Text → Text → Command Text Text) → ((a b : Text) → IsRanged (make a b)) → (words : List Text) → AreRanged (of_two make words)
two_ranged make each (a ∷ b ∷ []) = one_each IsRanged (make a b) (each a b)
two_ranged make each _ = none_each IsRanged

three_ranged : (make : Text → Text → Text → Command Text Text) → ((a b c : Text) → IsRanged (make a b c)) → (words : List Text) → AreRanged (of_three make words)
three_ranged make each (a ∷ b ∷ c ∷ []) = one_each IsRanged (make a b c) (each a b c)
three_ranged make each _ = none_each IsRanged

further_ranged : (name : Text) (words : List Text) → AreRanged (further_command name words)
further_ranged name words =
    either_each IsRanged (bytes_eq name (codes "trial")) (trial_command words) _ (trial_ranged words)
    (either_each IsRanged (bytes_eq name (codes "verilog")) (of_two Verilog words) _ (two_ranged Verilog (λ a b. tt) words)
    (either_each IsRanged (bytes_eq name (codes "loop")) (of_two Loop words) _ (two_ranged Loop (λ a b. tt) words)
    (either_each IsRanged (bytes_eq name (codes "depend")) (of_two Depend words) _ (two_ranged Depend (λ a b. tt) words)
    (either_each IsRanged (bytes_eq name (codes "migrate")) (of_three Migrate words) _ (three_ranged Migrate (λ a b c. tt) words)
    (either_each IsRanged (bytes_eq name (codes "bench")) (bench_command words) _ (bench_ranged words)
    (either_each IsRanged (bytes_eq name (codes "image")) (of_two Image words) _ (two_ranged Image (λ a b. tt) words)
    (either_each IsRanged (bytes_eq name (codes "words")) (of_one Words words) None (one_ranged Words (λ a. tt) words) (none_each IsRanged))))))))

plain_ranged : (name : Text) (words : List Text) → AreRanged (plain_command name words)
plain_ranged name words =
    either_each IsRanged (bytes_eq name (codes "turns")) (turns_command words) _ (turns_ranged words)
    (either_each IsRanged (bytes_eq name (codes "flat")) (of_two Flat words) _ (two_ranged Flat (λ a b. tt) words)
    (either_each IsRanged (bytes_eq name (codes "bound")) (of_two Bound words) _ (two_ranged Bound (λ a b. tt) words)
    (either_each IsRanged (bytes_eq name (codes "why")) (of_two Why words) _ (two_ranged Why (λ a b. tt) words)
    (either_each IsRanged (bytes_eq name (codes "check")) (of_three Check words) _ (three_ranged Check (λ a b c. tt) words)
    (either_each IsRanged (bytes_eq name (codes "violations")) (of_three Violations words) _ (three_ranged Violations (λ a b c. tt) words)
    (either_each IsRanged (bytes_eq name (codes "emit")) (emit_command words) _ (emit_ranged words)
    (either_each IsRanged (bytes_eq name (codes "show")) (show_command words) (further_command name words) (show_ranged words) (further_ranged name words))))))))

simplify_ranged : (said : Arguments) → AreRanged (simplify_command said)
simplify_ranged said =
    either_each IsRanged (is_empty said.options) _ None
    (two_ranged (λ kernel out. Simplify kernel out (is_said (codes "copies") said) (is_said (codes "share") said)) (λ a b. tt) said.words)
    (none_each IsRanged)

flagless_ranged : (name : Text) (said : Arguments) → AreRanged (flagless_command name said)
flagless_ranged name said =
    either_each IsRanged (bytes_eq name (codes "run")) (run_command said) _ (run_ranged said)
    (either_each IsRanged (bytes_eq name (codes "map")) (option_map Map (mapper_call usual_moves said)) _ (mapped_each IsRanged Map (mapper_call usual_moves said) (call_ranged usual_moves (omega arith) said))
    (either_each IsRanged (bytes_eq name (codes "search")) (option_map Search (mapper_call usual_responses said)) _ (mapped_each IsRanged Search (mapper_call usual_responses said) (call_ranged usual_responses (omega arith) said))
    (either_each IsRanged (is_empty said.options) (plain_command name said.words) None (plain_ranged name said.words) (none_each IsRanged))))

command_ranged : (name : Text) (said : Arguments) → AreRanged (command_of name said)
command_ranged name said =
    either_each IsRanged (bytes_eq name (codes "simplify")) (simplify_command said) _ (simplify_ranged said)
    (either_each IsRanged (is_empty said.flags) (flagless_command name said) None (flagless_ranged name said) (none_each IsRanged))

said_ranged : (name : Text) (o : Option Arguments) → AreRanged (option_and_then (command_of name) o)
said_ranged name None = none_each IsRanged
said_ranged name (Some said) = command_ranged name said

-- the numbers of a command that words ask for are in their ranges
pub plan_ranged : (words : List Text) (c : Command Text Text) → plan_of words ≡ Some c → IsRanged c
unfolding plan_of
plan_ranged [] c e = none_each IsRanged c e
plan_ranged (name ∷ words) c e = said_ranged name (arguments_of words) c e
