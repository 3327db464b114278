-- The exit status of each way to end, from the table of the documents.
use Rattle.std.proofs.Common.{◌≡◌, [], ◌∷◌, refl}
use Rattle.std.specs.Prelude.{map}
use Rattle.cg_effects.specs.declared.outcome.Status.TheVariants.{Done, Memory, Usage, Malformed, Impossible, ReadFault, WriteFault, BudgetSpent, No}
use Rattle.cg_effects.specs.Status.{number_of}

numbers_of_all : map number_of (Done ∷ Memory ∷ Usage ∷ Malformed ∷ Impossible ∷ ReadFault ∷ WriteFault ∷ BudgetSpent ∷ No ∷ []) ≡ 0 ∷ 1 ∷ 2 ∷ 3 ∷ 4 ∷ 5 ∷ 6 ∷ 7 ∷ 8 ∷ []
numbers_of_all = refl
