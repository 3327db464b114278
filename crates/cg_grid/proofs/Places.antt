-- The first part, and the first cell, that passes a test.
use Rattle.std.proofs.Common.{◌≡◌, ℕ, ◌+◌, ◌<◌, List, length, drop, Bool, Some, ap, sym, ◌∙◌}
use Rattle.std.specs.Prelude.{slice_index_or, option_map}
use Rattle.std.specs.Option.{option_or}
use Rattle.cg_parts.proofs.Lists.{rest_at}
use Rattle.cg_model.specs.First.{first_from}
use Rattle.cg_grid.specs.declared.fault.PartPlace.{PartPlace}
use Rattle.cg_grid.specs.declared.written.WrittenPart.{WrittenPart}
use Rattle.cg_grid.specs.declared.written.Tile.{Tile}
use Rattle.cg_grid.specs.Rules.{first_part, is_unknown, unknown_tile}

part_at : Tile → ℕ → PartPlace
part_at t i = record { tile = t.letter; part = i }

-- it is in the tile at k
pub first_part-found : (test : WrittenPart → Bool) (ts : List Tile) (k i : ℕ) (t : Tile) → k < length ts → t ≡ slice_index_or ts k t → first_from (λ n p. test p) 0 t.parts ≡ Some i
    → first_part test (drop k ts) ≡ Some (record { tile = t.letter; part = i })
first_part-found test ts k i t h at found =
    ap (first_part test) (rest_at ts k t h)
    ∙ ap (λ x. option_or (option_map (λ n. record { tile = x.letter; part = n }) (first_from (λ n p. test p) 0 x.parts)) (first_part test (drop (k + 1) ts))) (sym at)
    ∙ ap (λ o. option_or (option_map (λ n. record { tile = t.letter; part = n }) o) (first_part test (drop (k + 1) ts))) found

-- in the rows from k on, what the row at k has comes first
pub unknown_tile-at : (tiles : List Tile) (rows : List (List ℕ)) (k : ℕ) (row : List ℕ) → k < length rows → row ≡ slice_index_or rows k row
    → unknown_tile tiles k (drop k rows)
    ≡ option_or (option_map (λ c. record { row = k; column = c }) (first_from (λ c cell. is_unknown tiles cell) 0 row)) (unknown_tile tiles (k + 1) (drop (k + 1) rows))
unknown_tile-at tiles rows k row h at =
    ap (unknown_tile tiles k) (rest_at rows k row h)
    ∙ ap (λ x. option_or (option_map (λ c. record { row = k; column = c }) (first_from (λ c cell. is_unknown tiles cell) 0 x)) (unknown_tile tiles (k + 1) (drop (k + 1) rows))) (sym at)
