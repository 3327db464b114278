-- Worked rows of two definitions of the walk: the edge operands that a node touches, and how histories age.
use Rattle.std.proofs.Common.{◌≡◌, ℕ, List, [], ◌∷◌, refl}
use Rattle.std.specs.Prelude.{None}
use Rattle.cg_word.specs.declared.op.Op.{Op}
use Rattle.cg_word.specs.declared.op.Op.TheVariants.{Iter, Add, Output}
use Rattle.cg_model.specs.declared.array.Kind.TheVariants.{Register}
use Rattle.cg_model.specs.declared.array.Resource.{Resource}
use Rattle.cg_model.specs.declared.kernel.Node.{Node}
use Rattle.cg_model.specs.declared.kernel.Operand.{Operand}
use Rattle.cg_model.specs.declared.kernel.Operand.TheVariants.{Edge}
use Rattle.cg_model.specs.Array.{Arch}
use Rattle.cg_model.specs.Kernel.{Kernel}
use Rattle.cg_model.specs.Mapping.{Position}
use Rattle.cg_congestion.specs.Claims.{claims_at}
use Rattle.cg_congestion.specs.Table.{Table, aged}
use Rattle.cg_walk_spec.specs.State.{edges}
use Rattle.cg_walk_spec.specs.Walk.{touching}

-- ---- the running sum: edge operand 0 is the sum's own, 1 that of the turn in the sum, 2 that of the sum in the output

abbrev unnamed : Op → List Operand → Node
unnamed op operands = record { name = []; op = op; port = 0; operands = operands }

abbrev sum : Kernel
sum = record { nodes = unnamed Iter [] ∷ unnamed Add (Edge 1 1 (0 ∷ []) ∷ Edge 0 0 [] ∷ []) ∷ unnamed Output (Edge 1 0 [] ∷ []) ∷ []; order = [] }

touched_by_the_turn : touching sum 0 ≡ 1 ∷ []
unfolding edges
touched_by_the_turn = refl

touched_by_the_sum : touching sum 1 ≡ 0 ∷ 1 ∷ 2 ∷ []
unfolding edges
touched_by_the_sum = refl

touched_by_the_output : touching sum 2 ≡ 2 ∷ []
unfolding edges
touched_by_the_output = refl

-- ---- two registers at interval 2: their nodes are those of the first in slots 0 and 1, and then those of the second

abbrev register : Resource
register = record { name = []; kind = Register; drivers = [] }

abbrev two : Arch
two = record { name = []; contexts = 2; memory = 0; resources = register ∷ register ∷ []; units = []; hub = [] }

abbrev at : ℕ → ℕ → ℕ → Position
at source resource time = record { source = source; resource = resource; time = time; from = None }

abbrev table : List Position → Table
table ps = record { arch = two; interval = 2; positions = ps; history = 0 ∷ 3 ∷ 5 ∷ 7 ∷ [] }

-- two values meet on the first register in slot 0, in cycles 0 and 2; one is alone on the second in slot 1
two_claims_age : aged (table (at 0 0 0 ∷ at 1 0 2 ∷ at 0 1 1 ∷ [])) ≡ 1 ∷ 3 ∷ 5 ∷ 7 ∷ []
unfolding claims_at
two_claims_age = refl

-- one value twice at one time is one claim
one_claim_does_not : aged (table (at 0 0 0 ∷ at 0 0 0 ∷ [])) ≡ 0 ∷ 3 ∷ 5 ∷ 7 ∷ []
unfolding claims_at
one_claim_does_not = refl

-- one value at two times an interval apart is two
its_own_next_turn_ages : aged (table (at 0 1 1 ∷ at 0 1 3 ∷ [])) ≡ 0 ∷ 3 ∷ 5 ∷ 8 ∷ []
unfolding claims_at
its_own_next_turn_ages = refl
