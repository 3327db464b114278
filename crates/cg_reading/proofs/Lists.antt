-- Lists that are read item by item, after a front that was read; and tests of what a list maps to.
use Rattle.std.proofs.Common.{◌≡◌, ◌||◌, [], ◌∷◌, ◌++◌, map, List, Bool, Option, Result, Ok, Err, option_map, ap, refl}
use Rattle.std.specs.List.{list_any}

-- xs, and then what was read
abbrev pub after : {T : Type 0} → List T → Option (List T) → Option (List T)
after front read = option_map (λ xs. front ++ xs) read

-- xs, and then what was read, or where the first item is that doesn't read
abbrev pub before : {T P : Type 0} → List T → Result (List T) P → Result (List T) P
before front (Ok xs) = Ok (front ++ xs)
before front (Err p) = Err p

-- one of what a list maps to passes a test
pub list_any-map : {X Y : Type 0} (test : Y → Bool) (f : X → Y) (xs : List X) → list_any test (map f xs) ≡ list_any (λ x. test (f x)) xs
list_any-map test f [] = refl
list_any-map test f (x ∷ xs) = ap (λ b. test (f x) || b) (list_any-map test f xs)
