-- Lists of the resources that each resource drives, during construction.
use Rattle.std.specs.Prelude.{◌≡◌, ℕ, ◌<◌, eqb, if◌then◌else◌, List, [], ◌∷◌, ◌++◌, length, take, slice_index_or}
use Rattle.std.specs.List.{list_any}
use Rattle.cg_model.specs.Array.{Arch, resource}
use Rattle.cg_mrrg.specs.Graph.{users_below, registers_after}

-- list q
abbrev pub users_of : List (List ℕ) → ℕ → List ℕ
users_of lists q = slice_index_or lists q []

-- list q has the resources below r that q drives, and r if q is among the first p of its drivers
pub record AreUsers (A : Arch) (r p : ℕ) (lists : List (List ℕ)) : Type 0 where
  pub each : length lists ≡ length A.resources
  pub right : (q : ℕ) → q < length A.resources →
      users_of lists q ≡ users_below A q r ++ (if list_any (eqb q) (take p (resource A r).drivers) then r ∷ [] else [])

-- the first n lists are the registers among the resources that those resources drive
pub record AreRegisters (A : Arch) (n : ℕ) (lists : List (List ℕ)) : Type 0 where
  pub each : length lists ≡ n
  pub right : (q : ℕ) → q < n → users_of lists q ≡ registers_after A q
