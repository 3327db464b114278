-- Arrays read item by item.
use Rattle.std.specs.Prelude.{ℕ, ◌+◌, List, [], ◌∷◌, Option, Some, None, Result, Ok, Err, option_map, option_and_then}

-- the item of each value, where every value can be read
abbrev pub all_of : {D T : Type 0} → (D → Option T) → List D → Option (List T)
all_of read [] = Some []
all_of read (d ∷ ds) = option_and_then (λ x. option_map (λ xs. x ∷ xs) (all_of read ds)) (read d)

-- an item followed by the remaining ones; or the number of the first value that can't be read
abbrev pub and_rest : {T : Type 0} → ℕ → Option T → Result (List T) ℕ → Result (List T) ℕ
and_rest k None rest = Err k
and_rest k (Some x) (Ok xs) = Ok (x ∷ xs)
and_rest k (Some x) (Err j) = Err j

-- the item of each value, or the number of the first value that can't be read; the first value has number k
abbrev pub all_or_first : {D T : Type 0} → (D → Option T) → ℕ → List D → Result (List T) ℕ
all_or_first read k [] = Ok []
all_or_first read k (d ∷ ds) = and_rest k (read d) (all_or_first read (k + 1) ds)
