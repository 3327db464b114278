-- Worked pairs, questions and gaps.
use Rattle.std.proofs.Common.{◌≡◌, ℕ, [], ◌∷◌, Some, None, refl, arith}
use Rattle.cg_word.specs.declared.op.Op.TheVariants.{Add, Iter, Load, Store}
use Rattle.cg_word.specs.Word.{apply_of}
use Rattle.cg_model.specs.declared.kernel.Operand.TheVariants.{Const as Constant, Edge}
use Rattle.cg_model.specs.Kernel.{Kernel}
use Rattle.cg_depend.specs.Affine.{affine_of, pair_of, pairs, address_pair}
use Rattle.cg_depend.specs.Depend.{asks, Gap, never, first}

-- a node that climbs by 4 from 8 on, and one that reads it a turn later, with the initial word w
abbrev climbing : ℕ → Kernel
climbing w =
    record {
      nodes = record { name = []; op = Add; port = 0; operands = Edge 0 1 (4 ∷ []) ∷ Constant 4 ∷ [] } ∷ record { name = []; op = Add; port = 0; operands = Edge 0 1 (w ∷ []) ∷ Constant 0 ∷ [] } ∷ [];
      order = [];
    }

climbing_pair : affine_of (climbing 4) 0 ≡ Some (pair_of 8 4)
unfolding pairs apply_of
climbing_pair = refl

delayed_pair : affine_of (climbing 4) 1 ≡ Some (pair_of 4 4)
unfolding pairs apply_of
delayed_pair = refl

other_initial_word : affine_of (climbing 5) 1 ≡ None
unfolding pairs apply_of
other_initial_word = refl

-- i = iter; x = load [i]; a = add [i, 2]; st = store [a, x]
abbrev copying : Kernel
copying =
    record {
      nodes =
          record { name = []; op = Iter; port = 0; operands = [] } ∷ record { name = []; op = Load; port = 0; operands = Edge 0 0 [] ∷ [] }
          ∷ record { name = []; op = Add; port = 0; operands = Edge 0 0 [] ∷ Constant 2 ∷ [] } ∷ record { name = []; op = Store; port = 0; operands = Edge 2 0 [] ∷ Edge 1 0 [] ∷ [] } ∷ [];
      order = [];
    }

two_questions : asks copying ≡ record { source = 1; target = 3; least = 0 } ∷ record { source = 3; target = 1; least = 1 } ∷ []
two_questions = refl

pair_of_load : address_pair copying 1 ≡ Some (pair_of 0 1)
unfolding pairs apply_of
pair_of_load = refl

pair_of_store : address_pair copying 3 ≡ Some (pair_of 2 1)
unfolding pairs apply_of
pair_of_store = refl

-- the load reaches a stored word 2 turns later, and the store never a loaded one
store_to_load : Gap copying (record { source = 3; target = 1; least = 1 }) (Some 2)
unfolding apply_of
store_to_load = first (pair_of 2 1) (pair_of 0 1) 2 (record { of_source = pair_of_store; of_target = pair_of_load; one = refl }) (omega arith) (omega arith) refl (λ y a b e. omega arith)

load_to_store : Gap copying (record { source = 1; target = 3; least = 0 }) None
unfolding apply_of
load_to_store = never (pair_of 0 1) (pair_of 2 1) (record { of_source = pair_of_load; of_target = pair_of_store; one = refl }) (λ x a b e. omega arith)
