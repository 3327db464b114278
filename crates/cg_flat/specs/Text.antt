-- The text of a flat architecture: after a first line that names the format, one line each for its name, its contexts,
-- its memory, each resource, each unit and its hub. Each line ends with LF.
use Rattle.std.specs.Prelude.{ℕ, List, [], ◌∷◌, ◌++◌, flat_map, codes, decimal, if◌then◌else◌}
use Rattle.cg_word.specs.declared.op.Op.{Op}
use Rattle.cg_word.specs.Word.{name_of, all_ops}
use Rattle.cg_word.specs.Sets.{among}
use Rattle.cg_model.specs.declared.array.Kind.{Kind}
use Rattle.cg_model.specs.declared.array.Kind.TheVariants.{Wire, Register, Port, Out}
use Rattle.cg_model.specs.declared.array.Resource.{Resource}
use Rattle.cg_model.specs.declared.array.Unit.{Unit}
use Rattle.cg_model.specs.Array.{Arch}

-- a blank followed by the number
abbrev pub spaced : ℕ → List ℕ
spaced n = 32 ∷ decimal n

-- numbers, each after a blank
abbrev pub numbers : List ℕ → List ℕ
numbers ns = flat_map spaced ns

-- the first word of a resource's line
abbrev pub kind_word : Kind → List ℕ
kind_word Wire = codes "wire "
kind_word Register = codes "reg "
kind_word Port = codes "port "
kind_word Out = codes "out "

-- a resource: its kind, its name and the numbers of its drivers
abbrev pub resource_line : Resource → List ℕ
resource_line r = kind_word r.kind ++ (r.name ++ (numbers r.drivers ++ 10 ∷ []))

-- the name of an operation after a blank, if it is in the list
abbrev pub op_word : List Op → Op → List ℕ
op_word ops op = if among ops op then 32 ∷ name_of op else []

-- the names of operations in the order of their codes, each after a blank
abbrev pub op_words : List Op → List ℕ
op_words ops = flat_map (op_word ops) all_ops

-- the part of a unit's line before its ports, and the part between its ports and its operations
abbrev pub unit_head : List ℕ → ℕ → List ℕ
unit_head name latency = codes "unit " ++ (name ++ (codes " latency " ++ (decimal latency ++ codes " ports")))

abbrev pub unit_out : ℕ → List ℕ
unit_out out = codes " out " ++ (decimal out ++ codes " ops")

-- a unit: its name, its latency, the numbers of its ports and its out, and its operations
abbrev pub unit_line : Unit → List ℕ
unit_line u = unit_head u.name u.latency ++ (numbers u.ports ++ (unit_out u.out ++ (op_words u.ops ++ 10 ∷ [])))

-- the lines before the resources
abbrev pub head_lines : List ℕ → ℕ → ℕ → List ℕ
head_lines name contexts memory =
    codes "cgaflat1\nname " ++ (name ++ (codes "\ncontexts " ++ (decimal contexts ++ (codes "\nmemory " ++ (decimal memory ++ 10 ∷ [])))))

-- the text of an architecture
unfoldable pub text_of : Arch → List ℕ
text_of A =
    head_lines A.name A.contexts A.memory
    ++ (flat_map resource_line A.resources ++ (flat_map unit_line A.units ++ (codes "hub" ++ (numbers A.hub ++ 10 ∷ []))))
