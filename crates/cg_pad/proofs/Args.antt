-- An operation looks at its first three operands alone.
use Rattle.std.proofs.Common.{◌≡◌, ℕ, List, [], ◌∷◌, refl}
use Rattle.std.specs.Prelude.{slice_index}
use Rattle.cg_word.specs.declared.op.Op.{Op}
use Rattle.cg_word.specs.declared.op.Op.TheVariants.{Iter, Input, Load, Store, Output, LoadIf, StoreIf, OutputIf}
use Rattle.cg_model.specs.Work.{Image, Work, value, stored, sent, missed, value_by}

-- the first three, 0 for those that there aren't
abbrev pub three : List ℕ → List ℕ
three args = slice_index args 0 ∷ slice_index args 1 ∷ slice_index args 2 ∷ []

-- an operation at work on operands
abbrev pub on : Op → ℕ → ℕ → List ℕ → Work
on op port turn args = record { op = op; port = port; turn = turn; args = args }

pub value-three : (image : Image) (memory : List ℕ) (op : Op) (port turn : ℕ) (args : List ℕ) → value image memory (on op port turn (three args)) ≡ value image memory (on op port turn args)
unfolding value_by
value-three image memory Iter port turn args = refl
value-three image memory Input port turn args = refl
value-three image memory Load port turn args = refl
value-three image memory LoadIf port turn args = refl
value-three image memory _ port turn args = refl

pub stored-three : (memory : List ℕ) (op : Op) (port turn : ℕ) (args : List ℕ) → stored memory (on op port turn (three args)) ≡ stored memory (on op port turn args)
unfolding stored
stored-three memory Store port turn args = refl
stored-three memory StoreIf port turn args = refl
stored-three memory _ port turn args = refl

pub sent-three : (at : ℕ) (op : Op) (port turn : ℕ) (args : List ℕ) → sent at (on op port turn (three args)) ≡ sent at (on op port turn args)
unfolding sent
sent-three at Output port turn args = refl
sent-three at OutputIf port turn args = refl
sent-three at _ port turn args = refl

pub missed-three : (size : ℕ) (op : Op) (port turn : ℕ) (args : List ℕ) → missed size (on op port turn (three args)) ≡ missed size (on op port turn args)
unfolding missed
missed-three size Load port turn args = refl
missed-three size Store port turn args = refl
missed-three size LoadIf port turn args = refl
missed-three size StoreIf port turn args = refl
missed-three size _ port turn args = refl
