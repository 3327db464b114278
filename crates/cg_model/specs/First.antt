-- The first position at which a test holds.
use Rattle.std.specs.Prelude.{ℕ, ◌+◌, Bool, false, List, [], ◌∷◌, Option, Some, None, nat_lt, if◌then◌else◌}

-- the first position from v on at which a test of position and item holds
abbrev pub first_from : {T : Type 0} → (ℕ → T → Bool) → ℕ → List T → Option ℕ
first_from test v [] = None
first_from test v (x ∷ xs) = if test v x then Some v else first_from test (v + 1) xs

-- the first item that passes a test
abbrev pub first_such : {T : Type 0} → (T → Bool) → List T → Option T
first_such test [] = None
first_such test (x ∷ xs) = if test x then Some x else first_such test xs

-- a position was found, and it is less than v
abbrev pub is_before : Option ℕ → ℕ → Bool
is_before None v = false
is_before (Some u) v = nat_lt u v
