-- A command with its numbers and its files: input files as names or contents, output files as names.
use Rattle.std.specs.Prelude.{◌≤◌, List, [], ◌∷◌, Option, Some, None, option_map}
use Rattle.std.specs.Borrow.{Bor}
use Rattle.cg_model.specs.Limits.{most_turns}
use Rattle.cg_model.specs.Request.{IsInRange}
use Rattle.cg_command.specs.Numbers.{Text}
use Rattle.cg_command.specs.declared.command.ArrayCall.{ArrayCall}
use Rattle.cg_command.specs.declared.command.MapperCall.{MapperCall}
use Rattle.cg_command.specs.declared.command.Command.{Command}
use Rattle.cg_command.specs.declared.command.Command.TheVariants.{Turns, TurnsOnImage, Flat, Run, Bound, Check, Emit, Map, Search, Show, Trial, Verilog, Loop, Depend, Simplify, Migrate, Bench, Image, Words, Violations, Why}

-- the option's item, if there is one, as a list
abbrev pub listed : {X : Type 0} → Option X → List X
listed None = []
listed (Some x) = x ∷ []

-- the input files of a command, in the order of reading
abbrev pub inputs_of : {F N : Type 0} → Command F N → List F
inputs_of (Turns kernel turns) = kernel ∷ []
inputs_of (TurnsOnImage kernel turns image out) = kernel ∷ image ∷ []
inputs_of (Flat arch out) = arch ∷ []
inputs_of (Run call netlist) = call.arch ∷ call.bits ∷ call.image ∷ listed netlist
inputs_of (Bound arch kernel) = arch ∷ kernel ∷ []
inputs_of (Check arch kernel mapping) = arch ∷ kernel ∷ mapping ∷ []
inputs_of (Emit arch kernel mapping out) = arch ∷ kernel ∷ mapping ∷ []
inputs_of (Map call) = call.arch ∷ call.kernel ∷ []
inputs_of (Search call) = call.arch ∷ call.kernel ∷ []
inputs_of (Show arch kernel mapping out) = arch ∷ kernel ∷ mapping ∷ []
inputs_of (Trial seed) = []
inputs_of (Verilog arch out) = arch ∷ []
inputs_of (Loop source out) = source ∷ []
inputs_of (Depend kernel out) = kernel ∷ []
inputs_of (Simplify kernel out copies share) = kernel ∷ []
inputs_of (Migrate arch bits out) = arch ∷ bits ∷ []
inputs_of (Bench call) = call.arch ∷ call.bits ∷ call.image ∷ []
inputs_of (Image text out) = text ∷ []
inputs_of (Words image) = image ∷ []
inputs_of (Violations arch kernel mapping) = arch ∷ kernel ∷ mapping ∷ []
inputs_of (Why arch kernel) = arch ∷ kernel ∷ []

-- the output files of a command, in the order of writing
abbrev pub outputs_of : {F N : Type 0} → Command F N → List N
outputs_of (Turns kernel turns) = []
outputs_of (TurnsOnImage kernel turns image out) = out ∷ []
outputs_of (Flat arch out) = out ∷ []
outputs_of (Run call netlist) = call.out ∷ []
outputs_of (Bound arch kernel) = []
outputs_of (Check arch kernel mapping) = []
outputs_of (Emit arch kernel mapping out) = out ∷ []
outputs_of (Map call) = call.out ∷ listed call.mapping
outputs_of (Search call) = call.out ∷ listed call.mapping
outputs_of (Show arch kernel mapping out) = listed out
outputs_of (Trial seed) = []
outputs_of (Verilog arch out) = out ∷ []
outputs_of (Loop source out) = out ∷ []
outputs_of (Depend kernel out) = out ∷ []
outputs_of (Simplify kernel out copies share) = out ∷ []
outputs_of (Migrate arch bits out) = out ∷ []
outputs_of (Bench call) = call.out ∷ []
outputs_of (Image text out) = out ∷ []
outputs_of (Words image) = []
outputs_of (Violations arch kernel mapping) = []
outputs_of (Why arch kernel) = []

-- a call of a mapper with its input and output files read by these functions
abbrev pub call_map : {F G N M : Type 0} → (F → G) → (N → M) → MapperCall F N → MapperCall G M
call_map f g s = record {
  arch = f s.arch;
  kernel = f s.kernel;
  out = g s.out;
  mapping = option_map g s.mapping;
  request = s.request;
}

-- a call of a command that runs an array, likewise
abbrev pub array_map : {F G N M : Type 0} → (F → G) → (N → M) → ArrayCall F N → ArrayCall G M
array_map f g s = record { arch = f s.arch; bits = f s.bits; turns = s.turns; image = f s.image; out = g s.out }

-- a command with its input and output files read by these functions
abbrev pub command_map : {F G N M : Type 0} → (F → G) → (N → M) → Command F N → Command G M
command_map f g (Turns kernel turns) = Turns (f kernel) turns
command_map f g (TurnsOnImage kernel turns image out) = TurnsOnImage (f kernel) turns (f image) (g out)
command_map f g (Flat arch out) = Flat (f arch) (g out)
command_map f g (Run call netlist) = Run (array_map f g call) (option_map f netlist)
command_map f g (Bound arch kernel) = Bound (f arch) (f kernel)
command_map f g (Check arch kernel mapping) = Check (f arch) (f kernel) (f mapping)
command_map f g (Emit arch kernel mapping out) = Emit (f arch) (f kernel) (f mapping) (g out)
command_map f g (Map call) = Map (call_map f g call)
command_map f g (Search call) = Search (call_map f g call)
command_map f g (Show arch kernel mapping out) = Show (f arch) (f kernel) (f mapping) (option_map g out)
command_map f g (Trial seed) = Trial seed
command_map f g (Verilog arch out) = Verilog (f arch) (g out)
command_map f g (Loop source out) = Loop (f source) (g out)
command_map f g (Depend kernel out) = Depend (f kernel) (g out)
command_map f g (Simplify kernel out copies share) = Simplify (f kernel) (g out) copies share
command_map f g (Migrate arch bits out) = Migrate (f arch) (f bits) (g out)
command_map f g (Bench call) = Bench (array_map f g call)
command_map f g (Image text out) = Image (f text) (g out)
command_map f g (Words image) = Words (f image)
command_map f g (Violations arch kernel mapping) = Violations (f arch) (f kernel) (f mapping)
command_map f g (Why arch kernel) = Why (f arch) (f kernel)

-- the call with the names of its files that a value of the program denotes
abbrev pub call_denoted : MapperCall (Bor Text) (Bor Text) → MapperCall Text Text
call_denoted call = call_map (λ name. name.now) (λ name. name.now) call

-- the command with the names of its files that a value of the program denotes
abbrev pub denoted : Command (Bor Text) (Bor Text) → Command Text Text
denoted command = command_map (λ name. name.now) (λ name. name.now) command

-- the numbers of a command are in their ranges
abbrev pub IsRanged : {F N : Type 0} → Command F N → Type 0
IsRanged (Turns kernel turns) = turns ≤ most_turns
IsRanged (TurnsOnImage kernel turns image out) = turns ≤ most_turns
IsRanged (Run call netlist) = call.turns ≤ most_turns
IsRanged (Bench call) = call.turns ≤ most_turns
IsRanged (Map call) = IsInRange call.request
IsRanged (Search call) = IsInRange call.request
IsRanged _ = Unit {0}
