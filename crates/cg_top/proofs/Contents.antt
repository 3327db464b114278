-- Commands with the contents of their input files, over files that are known.
use Rattle.std.proofs.Common.{◌≡◌, List, [], ◌∷◌, map, All, Option, Some, None, refl, sym, ◌∙◌, ap, subst}
use Rattle.std.specs.Prelude.{unwrap_or}
use Rattle.std.proofs.lemmas.List.Elements.{All-nil, All-cons, All-head, All-tail}
use Rattle.cg_files.specs.Held.{Held}
use Rattle.cg_effects.specs.Outcome.{Name, Bytes, File}
use Rattle.cg_effects.specs.Reads.{IsRead, AreRead}
use Rattle.cg_command.specs.declared.command.Command.{Command}
use Rattle.cg_command.specs.Command.{inputs_of, command_map}
use Rattle.cg_command.specs.Files.{names_only}
use Rattle.cg_command.proofs.Maps.{IsKept, map_inputs, map_twice, map_same}

-- the file of that name with what is held under it
abbrev pub held_file : (Name → Option Bytes) → Name → File
held_file files name = record { name = name; bytes = unwrap_or (files name) [] }

-- the command with the contents of its input files
abbrev pub contents : (Name → Option Bytes) → Command Name Name → Command File Name
contents files plan = command_map (held_file files) (λ name. name) plan

all_weaker : {X : Type 0} (P Q : X → Type 0) → ((x : X) → P x → Q x) → (xs : List X) → All P xs → All Q xs
all_weaker P Q each [] all = All-nil Q
all_weaker P Q each (x ∷ xs) all = All-cons Q x xs (each x (All-head P x xs all)) (all_weaker P Q each xs (All-tail P x xs all))

all_of : {X : Type 0} (P : X → Type 0) → ((x : X) → P x) → (xs : List X) → All P xs
all_of P each [] = All-nil P
all_of P each (x ∷ xs) = All-cons P x xs (each x) (all_of P each xs)

-- the input files of a command were read under their names
pub names_read : (held : Held) (c : Command File Name) → All (IsRead held) (inputs_of c) → AreRead held (inputs_of (names_only c)) (inputs_of c)
names_read held c each = record { names_are = sym (map_inputs (λ (file : File). file.name) (λ (name : Name). name) c); each = each }

module _ (files : Name → Option Bytes) where
  kept : (file : File) → IsRead (Some files) file → held_file files file.name ≡ file
  kept file read = ap (λ bytes. record { name = file.name; bytes = unwrap_or bytes [] }) read.0

  -- a command whose input files were read is the one with what is held
  pub same_contents : (c : Command File Name) → All (IsRead (Some files)) (inputs_of c) → contents files (names_only c) ≡ c
  same_contents c each =
      map_twice (held_file files) (λ (file : File). file.name) (λ (name : Name). name) (λ (name : Name). name) c
      ∙ map_same (λ (file : File). held_file files file.name) c
      (all_weaker (IsRead (Some files)) (IsKept (λ (file : File). held_file files file.name)) kept (inputs_of c) each)

  -- of a command with what is held the names are left
  pub same_names : (plan : Command Name Name) → names_only (contents files plan) ≡ plan
  same_names plan =
      map_twice (λ (file : File). file.name) (held_file files) (λ (name : Name). name) (λ (name : Name). name) plan
      ∙ map_same (λ (name : Name). name) plan (all_of (IsKept (λ (name : Name). name)) (λ name. refl) (inputs_of plan))

  read_again : (fs : List File) → All (IsRead (Some files)) fs → All (IsRead (Some files)) (map (held_file files) (map (λ file. file.name) fs))
  read_again [] each = All-nil (IsRead (Some files))
  read_again (f ∷ fs) each =
      let one = All-head (IsRead (Some files)) f fs each in
      All-cons (IsRead (Some files)) (held_file files f.name) (map (held_file files) (map (λ file. file.name) fs))
      (subst (IsRead (Some files)) (sym (kept f one)) one) (read_again fs (All-tail (IsRead (Some files)) f fs each))

  -- where its names are read, so are the input files of the command
  pub contents_read : (plan : Command Name Name) (fs : List File) → AreRead (Some files) (inputs_of plan) fs → All (IsRead (Some files)) (inputs_of (contents files plan))
  contents_read plan fs read =
      subst (All (IsRead (Some files))) (sym (map_inputs (held_file files) (λ (name : Name). name) plan))
      (subst (λ names. All (IsRead (Some files)) (map (held_file files) names)) read.names_are (read_again fs read.each))
